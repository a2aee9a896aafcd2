-- What the calls of `read_words` come to, by the rules of the program's arguments.
use Rattle.std.proofs.Common.{arith, inl, inr, ◌≡◌, ◌∙◌, ◌++◌, ◌∷◌, [], ℕ, List, Result, true, false, refl, sym, ap, ap₂, subst, append_assoc, append-nil}
use Rattle.std.specs.Prelude.{IsErrAnd, Ok, Err, Option, Some, None, map, option_map, unwrap_or}
use denote.Ref.{Bor}
use Rattle.std.proofs.lemmas.Result.{err_from_is_err_and}
use Rattle.clap.specs.Words.{AddsArg, App, FailsBy, HasKind, HasMatchesOf, Kinds, Row, Rule, Text, app_of, fault_of, found_of, is_simple, is_simple_and_free, matches_of, rows_of, rule_of, with_rule}
use Rattle.std.specs.Str.Parse.{ParsesUnsigned, digits_value, without_leading_plus}
use Rattle.clap.specs.Kinds.{or_else}
use Rattle.clap.specs.Values.{kind_of}
use Rattle.clap.specs.ValueTests.{is_unsigned_in}
use Rattle.clap.specs.declared.error.kind.ErrorKind.{ErrorKind}
use Rattle.clap.specs.declared.error.kind.ErrorKind.TheVariants.{InvalidValue}
use Rattle.clap.specs.declared.builder.value_parser.ValueParser.TheVariants.{Unsigned}
use Rattle.clap.proofs.ValueTestLemmas.{Accepts-accepts, accepts-Accepts}
use Rattle.clap.specs.declared.builder.arg.Arg.{Arg}
use Rattle.clap.specs.declared.builder.command.Command.{Command}
use Rattle.clap.specs.declared.error.Error.{Error}
use Rattle.clap.specs.declared.parser.matches.ArgMatches.{ArgMatches}
use Rattle.jp_options.specs.Command.{conflicts_in, value_faults, found_in, has_values, parse_faults, program, with_rules}

-- a command with no more rules is the same
pub with_no_rules : (a : App) → a ≡ with_rules a []
with_no_rules a = ap (λ rules. record a { top = record a.top { rules = rules } }) (sym (append-nil a.top.rules))

-- one argument more is one rule more
pub with_one_more : (old new : Command) (arg : Arg) (a : App) (rules : List Rule) (rule : Rule) → AddsArg old arg new → arg.global ≡ false → rule_of arg ≡ rule
    → app_of old ≡ with_rules a rules → app_of new ≡ with_rules a (rules ++ rule ∷ [])
with_one_more old new arg a rules rule adds local is_rule is_old =
    adds.shape local ∙ ap₂ with_rule is_old is_rule
    ∙ ap (λ all. record a { top = record a.top { rules = all } }) (append_assoc a.top.rules rules (rule ∷ []))

-- the matches are what the written meaning of the arguments gives
pub matches_found : (a : App) (words : List Text) (m : ArgMatches) → a ≡ program → HasMatchesOf a words m → rows_of (found_of m) ≡ found_in words
unfolding found_in
matches_found a words m is has = (has (ap is_simple is)).0 ∙ ap (λ x. matches_of x words) is

-- the parse fails by the written faults of the arguments
pub fails_by_faults : {X : Type 0} (a : App) (words : List Text) (r : Result X Error) → a ≡ program
    → (is_simple_and_free a ≡ true → FailsBy (fault_of a words) r) → FailsBy (parse_faults words) r
unfolding parse_faults
fails_by_faults a words r is fails = subst (λ x. FailsBy (fault_of x words) r) is (fails (ap is_simple_and_free is))

-- the values of an argument, and none where it has none
pub values_or_none : (found : Option (Bor (List (Bor Text)))) (none : Bor (List (Bor Text))) → none.now ≡ []
    → map (λ s. s.now) (unwrap_or found none).now ≡ unwrap_or (option_map (λ s. map (λ v. v.now) s.now) found) []
values_or_none (Some values) none e = refl
values_or_none None none e = ap (map (λ s. s.now)) e

-- an error that is handed on keeps its kind
pub fails_on : {X : Type 0} (kinds : Kinds) (r : Result X Error) (e : Error) → IsErrAnd r (λ y. y ≡ e) → HasKind kinds e → FailsBy kinds r
fails_on kinds r e handed kind =
    let met = err_from_is_err_and r handed in
    subst (λ s. FailsBy kinds s) (sym met.1) (subst (HasKind kinds) (sym met.2) kind)

-- what `parse` reads as a number of 64 bits is what the test of a count takes
pub reads_count : {E : Type 0} (word : Text) (r : Result ℕ E) (n : ℕ) → r ≡ Ok n → ParsesUnsigned 64 10 word r
    → (is_unsigned_in 0 18446744073709551615 word ≡ true) × (n ≡ digits_value 10 (without_leading_plus word))
reads_count word (Ok m) n is read = (
  Accepts-accepts false (Unsigned 0 18446744073709551615) word (read.0.0, read.0.1, omega arith, omega (arith, read.0.1)),
  cc,
)
reads_count word (Err e) n is read = cc

-- and what it refuses is what that refuses
pub refuses_count : {E : Type 0} (word : Text) (r : Result ℕ E) (e : E) → r ≡ Err e → ParsesUnsigned 64 10 word r
    → ¬ (is_unsigned_in 0 18446744073709551615 word ≡ true)
refuses_count word (Err f) e is read = λ accepted. let fits = accepts-Accepts false (Unsigned 0 18446744073709551615) word accepted in read (fits.0, fits.1)
refuses_count word (Ok n) e is read = λ accepted. cc

-- an error of the first kinds is one of all
pub has_first_kind : (kinds next : Kinds) (e : Error) → HasKind kinds e → HasKind (or_else kinds next) e
has_first_kind [] next e (inl memory) = inl memory
has_first_kind [] next e (inr none) = absurd none
has_first_kind (k ∷ ks) next e has = has

-- where the arguments are read, the values that are to be numbers decide
pub values_taken : (first : Kinds) (found : List Row) → first ≡ [] → has_values found ≡ true → or_else first (value_faults found) ≡ []
values_taken first found none taken = rw (none, taken) refl

pub value_refused : (first : Kinds) (found : List Row) (e : Error) → first ≡ [] → has_values found ≡ false
    → kind_of e ≡ InvalidValue → HasKind (or_else first (value_faults found)) e
value_refused first found e none refused kind = rw (none, refused) (inr (inl kind))

-- where these values are taken too, the arguments that do not go together are refused by their conflict
pub refused_by_conflict : (first : Kinds) (found : List Row) (kind : ErrorKind) (e : Error) → first ≡ [] → kind ∷ [] ≡ conflicts_in found → kind_of e ≡ kind
    → HasKind (or_else first (conflicts_in found)) e
refused_by_conflict first found kind e none conflict is = rw (none, ← conflict) (inr (inl is))
