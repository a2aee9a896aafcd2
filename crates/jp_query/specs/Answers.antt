-- What is answered for the text of a query.
use Rattle.std.specs.Prelude.{◌≡◌, ℕ, Bool, true, false, IsTrue, List, Result, Ok, Err}
use Rattle.jp_model.specs.declared.QueryFault.{QueryFault}
use Rattle.jp_model.specs.declared.QueryFault.TheVariants as faults
use Rattle.jp_model.specs.Query.Status.{refused_query, fault_of_query, RefusesQuery}
use Rattle.jp_model.specs.Query.Syntax.{Segments}
use Rattle.jp_syntax.specs.Queries.{query_view}
use Rattle.jp_query.specs.Status.{status_by, query_of, relative_query_of}
use Rattle.jp_query.specs.declared.fault.ParseFault.{ParseFault}
use Rattle.jp_query.specs.declared.fault.ParseFault.TheVariants as parse_faults
use Rattle.jp_syntax.specs.declared.query.Query.{Query}

-- a fault that comes before those of functions and types
abbrev pub is_early : QueryFault → Bool
is_early faults.Size = true
is_early faults.Syntax = true
is_early faults.Integer = true
is_early faults.Number = true
is_early faults.Function = false
is_early faults.Types = false

-- the query is answered, unless memory runs out
abbrev pub GivesQuery : Segments → Result Query ParseFault → Type 0
GivesQuery q (Ok r) = query_view r ≡ q
GivesQuery q (Err (parse_faults.Refused fault)) = ⊥
GivesQuery q (Err parse_faults.Memory) = Unit {0}

-- a text that is refused is refused by its first fault, which comes before those of functions and types
abbrev pub IsFirstFault : List ℕ → ParseFault → Type 0
IsFirstFault text (parse_faults.Refused fault) = RefusesQuery text fault × IsTrue (is_early fault)
IsFirstFault text parse_faults.Memory = Unit {0}

-- the status of the text is told but for the faults of functions and types, unless memory runs out
abbrev pub TellsStatus : List ℕ → Result Query ParseFault → Type 0
TellsStatus text (Ok q) = query_of text ≡ status_by (query_view q) (fault_of_query (query_view q))
TellsStatus text (Err (parse_faults.Refused fault)) = query_of text ≡ refused_query fault
TellsStatus text (Err parse_faults.Memory) = Unit {0}

-- the same of the text of a rel-query (RFC 9535, section 2.3.5.1)
abbrev pub TellsRelativeStatus : List ℕ → Result Query ParseFault → Type 0
TellsRelativeStatus text (Ok q) = relative_query_of text ≡ status_by (query_view q) (fault_of_query (query_view q))
TellsRelativeStatus text (Err (parse_faults.Refused fault)) = relative_query_of text ≡ refused_query fault
TellsRelativeStatus text (Err parse_faults.Memory) = Unit {0}
