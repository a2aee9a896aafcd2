-- What becomes of the text of a query, by the reader.
use Rattle.std.specs.Prelude.{◌≡◌, ℕ, true, false, List, Some, None, Result, Ok, Err}
use Rattle.jp_model.specs.declared.QueryFault.{QueryFault}
use Rattle.jp_model.specs.declared.QueryFault.TheVariants as faults
use Rattle.jp_model.specs.Query.Limits.{is_oversized, has_exact_integers, has_small_exponents}
use Rattle.jp_model.specs.Query.Syntax.{Origin, root, Segments}
use Rattle.jp_query.specs.Integers.{clamp}
use Rattle.jp_syntax.specs.Queries.{query_view}
use Rattle.jp_query.specs.Status.{read_behind}
use Rattle.jp_query.specs.declared.fault.ParseFault.{ParseFault}
use Rattle.jp_query.specs.declared.fault.ParseFault.TheVariants as parse_faults
use Rattle.jp_syntax.specs.declared.query.Query.{Query}

-- a tree is read after an identifier, from a text that is not too large
abbrev pub IsReadBehind : Origin → List ℕ → Segments → Type 0
IsReadBehind origin text q = (is_oversized text ≡ false) × (read_behind origin clamp text ≡ Some q)

-- the tree that is read is within its limits
abbrev pub PassesBehind : Origin → List ℕ → Segments → Type 0
PassesBehind origin text q = IsReadBehind origin text q × ((has_exact_integers q ≡ true) × (has_small_exponents q ≡ true))

-- the same of a query
abbrev pub Passes : List ℕ → Segments → Type 0
Passes text q = PassesBehind root text q

-- the fault is the first that is met
abbrev pub Meets : Origin → List ℕ → QueryFault → Type 0
Meets origin text faults.Size = is_oversized text ≡ true
Meets origin text faults.Syntax = (is_oversized text ≡ false) × (read_behind origin clamp text ≡ None)
Meets origin text faults.Integer = (q : Segments) × IsReadBehind origin text q × (has_exact_integers q ≡ false)
Meets origin text faults.Number = (q : Segments) × IsReadBehind origin text q × ((has_exact_integers q ≡ true) × (has_small_exponents q ≡ false))
Meets origin text faults.Function = ⊥
Meets origin text faults.Types = ⊥

-- a fault that is met, or memory that ran out
abbrev pub FaultMet : Origin → List ℕ → ParseFault → Type 0
FaultMet origin text (parse_faults.Refused fault) = Meets origin text fault
FaultMet origin text parse_faults.Memory = Unit {0}

-- what is answered for a text, but where memory runs out
abbrev pub MeantBehind : Origin → List ℕ → Result Query ParseFault → Type 0
MeantBehind origin text (Ok q) = PassesBehind origin text (query_view q)
MeantBehind origin text (Err e) = FaultMet origin text e

-- the same of a query
abbrev pub Meant : List ℕ → Result Query ParseFault → Type 0
Meant text r = MeantBehind root text r
