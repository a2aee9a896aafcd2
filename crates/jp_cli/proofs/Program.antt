-- What the calls of `read_words` come to, by the rules of its four arguments.
use Rattle.std.proofs.Common.{ap, ap₂, map, option_map, unwrap_or, refl, sym, subst, true, false, codes, zero, suc, List, Result, [], ◌∷◌, ◌≡◌, ◌∙◌, inl, inr, arith, slice_index}
use Rattle.std.specs.List.{All}
use Rattle.std.specs.Prelude.{IsErrAnd, Option, Some, None}
use Rattle.std.specs.Option.{is_some}
use denote.Ref.{Bor}
use Rattle.std.specs.Str.{bytes_eq}
use Rattle.std.proofs.lemmas.Result.{err_from_is_err_and}
use Rattle.clap.specs.Built.{FitsChain, HasDistinctIds, IsPlainArg}
use Rattle.clap.specs.Facts.{args_of, groups_of}
use Rattle.clap.specs.Words.{AddsArg, App, FailsBy, HasKind, HasMatchesOf, Kinds, Text, all_of, app_of, fault_of, first_of, first_value, found_of, is_simple, is_simple_and_free, matched_of, matches_of, new_app, raw_values, rule_of, with_rule}
use Rattle.clap.specs.declared.builder.arg.Arg.{Arg}
use Rattle.clap.specs.declared.builder.command.Command.{Command}
use Rattle.clap.specs.Simple.{app_of_fields}
use Rattle.clap.specs.declared.builder.command.Command.TheViews.{out-Command as fields_of}
use Rattle.clap.specs.declared.builder.command.Command.TheOpen.{Command-F}
use Rattle.clap.specs.declared.error.Error.{Error}
use Rattle.clap.specs.declared.parser.matches.ArgMatches.{ArgMatches}
use Rattle.clap.proofs.WalkLemmas.{first_value-rows, raw_values-rows}
use Rattle.clap.specs.Kinds.{or_else}
use Rattle.clap.specs.Values.{kind_of}
use Rattle.clap.specs.declared.error.kind.ErrorKind.{ErrorKind}
use Rattle.jp_cli.specs.Words.{command_rule, commands_in, faults_in, file_rule, found_in, parse_faults, program, script_rule, seq_rule, source_faults, source_faults_in, with_version}

-- A command that was given a version and a text after its help: all else is as before.
pub record IsTold (new told : Command) : Type 0 where
  pub version : Option (Bor Text)
  pub behind : Option (Bor Text)
  pub is : fields_of told ≡ record (fields_of new) { version = version; after_help = behind }
  pub some : is_some version ≡ true

-- so it is the same app, but for its version
pub told_app : (new told : Command) (name : Text) → IsTold new told → app_of new ≡ new_app name → app_of told ≡ with_version (new_app name)
told_app new told name h e =
    ap app_of_fields h.is ∙ ap (λ b. record (app_of new) { top = record (app_of new).top { has_version = b } }) h.some ∙ ap with_version e

pub told_by : (new versioned told : Command) (version behind : Bor Text) → fields_of versioned ≡ record (fields_of new) { version = Some version }
    → fields_of told ≡ record (fields_of versioned) { after_help = Some behind } → IsTold new told
told_by new versioned told version behind first second = record {
  version = Some version;
  behind = Some behind;
  is = second ∙ ap {A = Command-F Command} (λ f. record f { after_help = Some behind }) first;
  some = refl;
}

-- nor has it other arguments
pub told_args : (new told : Command) → IsTold new told → args_of new ≡ [] → args_of told ≡ []
told_args new told h e = ap (λ f. f.args.items) h.is ∙ e

pub told_groups : (new told : Command) → IsTold new told → groups_of new ≡ [] → groups_of told ≡ []
told_groups new told h e = ap (λ f. f.groups.items) h.is ∙ e

pub told_local : (new told : Command) → IsTold new told → (fields_of new).has_globals ≡ false → (fields_of told).has_globals ≡ false
told_local new told h e = ap (λ f. f.has_globals) h.is ∙ e

pub told_negates : (new told : Command) → IsTold new told → (fields_of new).subcommand_negates_reqs ≡ false → (fields_of told).subcommand_negates_reqs ≡ false
told_negates new told h e = ap (λ f. f.subcommand_negates_reqs) h.is ∙ e

-- the four arguments, added in turn, make the program
pub is_program : (start one two three four : Command) (file command script seq : Arg) → app_of start ≡ with_version (new_app (codes "jpq"))
    → AddsArg start file one → AddsArg one command two → AddsArg two script three → AddsArg three seq four
    → file.global ≡ false → command.global ≡ false → script.global ≡ false → seq.global ≡ false
    → rule_of file ≡ file_rule → rule_of command ≡ command_rule → rule_of script ≡ script_rule → rule_of seq ≡ seq_rule → app_of four ≡ program
is_program start one two three four file command script seq named first second third fourth file_local command_local script_local seq_local file_is command_is script_is seq_is =
    fourth.shape seq_local ∙ ap₂ with_rule (third.shape script_local
    ∙ ap₂ with_rule (second.shape command_local
    ∙ ap₂ with_rule (first.shape file_local ∙ ap₂ with_rule named file_is) command_is) script_is) seq_is

-- the matches give an argument its value by the written meaning of the arguments
pub first_found : (a : App) (words : List Text) (m : ArgMatches) (id : Text) → a ≡ program → HasMatchesOf a words m
    → first_of id (found_in words) ≡ first_value (found_of m) id
unfolding found_in
first_found a words m id is has =
    sym (first_value-rows (found_of m) id ∙ ap (first_of id) ((has (ap is_simple is)).0 ∙ ap (λ x. matches_of x words) is))

-- and all its values
pub all_found : (a : App) (words : List Text) (m : ArgMatches) (id : Text) → a ≡ program → HasMatchesOf a words m
    → all_of id (found_in words) ≡ option_map raw_values (matched_of (found_of m) id)
unfolding found_in
all_found a words m id is has =
    sym (raw_values-rows (found_of m) id ∙ ap (all_of id) ((has (ap is_simple is)).0 ∙ ap (λ x. matches_of x words) is))

-- the values of an argument, and none where it has none
pub values_or_none : (found : Option (Bor (List (Bor Text)))) (none : Bor (List (Bor Text))) → none.now ≡ []
    → map (λ s. s.now) (unwrap_or found none).now ≡ unwrap_or (option_map (λ s. map (λ v. v.now) s.now) found) []
values_or_none (Some values) none e = refl
values_or_none None none e = ap (map (λ s. s.now)) e

-- the parse fails by the written faults of the arguments
pub fails_by_faults : {X : Type 0} (a : App) (words : List Text) (r : Result X Error) → a ≡ program
    → (is_simple_and_free a ≡ true → FailsBy (fault_of a words) r) → FailsBy (parse_faults words) r
unfolding parse_faults
fails_by_faults a words r is fails = subst (λ x. FailsBy (fault_of x words) r) is (fails (ap is_simple_and_free is))

-- an error that is handed on keeps its kind
pub fails_on : {X : Type 0} (kinds : Kinds) (r : Result X Error) (e : Error) → IsErrAnd r (λ y. y ≡ e) → HasKind kinds e → FailsBy kinds r
fails_on kinds r e handed kind =
    let met = err_from_is_err_and r handed in
    subst (λ s. FailsBy kinds s) (sym met.1) (subst (HasKind kinds) (sym met.2) kind)

-- an error by what the arguments say of the sources, where they are else taken
pub refused_by_sources : (words : List Text) (file : Text) (script : Option Text) (commands : List Text) (kind : ErrorKind) (e : Error)
    → parse_faults words ≡ [] → first_of (codes "file") (found_in words) ≡ Some file → first_of (codes "script") (found_in words) ≡ script
    → commands ≡ commands_in (found_in words) → kind ∷ [] ≡ source_faults file script commands → kind_of e ≡ kind
    → HasKind (faults_in words) e
refused_by_sources words file script commands kind e none file_is script_is commands_are chosen is =
    let same : source_faults_in (found_in words) ≡ source_faults file script commands =
    ap (λ f. source_faults (unwrap_or f []) (first_of (codes "script") (found_in words)) (commands_in (found_in words))) file_is
    ∙ ap (λ s. source_faults file s (commands_in (found_in words))) script_is
    ∙ ap (source_faults file script) (sym commands_are) in
    let faults : faults_in words ≡ kind ∷ [] = ap (λ p. or_else p (source_faults_in (found_in words))) none ∙ same ∙ sym chosen in
    subst (λ kinds. HasKind kinds e) (sym faults) (inr (inl is))

-- an argument that is neither nameless nor one of the two that building adds
pub fits_chain : (a : Arg) (name : Text) → IsPlainArg a → a.global ≡ false → a.id.now ≡ name
    → (slice_index name 0 ≡ 0 → ⊥) → (slice_index name 0 ≡ 104 → ⊥) → (slice_index name 0 ≡ 118 → ⊥) → FitsChain a
fits_chain a name plain local is named no_help no_version = (
  plain,
  local,
  (λ e. named (ap (λ t. slice_index t 0) (sym is ∙ e))),
  (λ auto. elim auto [
    | inl h ↦ no_help (ap (λ t. slice_index t 0) (sym is ∙ h))
    | inr h ↦ no_version (ap (λ t. slice_index t 0) (sym is ∙ h))
  ]),
)

pub all_of_four : {X : Type 0} (P : X → Type 0) (w x y z : X) → P w → P x → P y → P z → All P (w ∷ x ∷ y ∷ z ∷ [])
all_of_four P w x y z o p q r zero d lt = o
all_of_four P w x y z o p q r (suc zero) d lt = p
all_of_four P w x y z o p q r (suc (suc zero)) d lt = q
all_of_four P w x y z o p q r (suc (suc (suc zero))) d lt = r
all_of_four P w x y z o p q r (suc (suc (suc (suc n)))) d lt = absurd (omega arith)

-- the four arguments have names of their own
pub has_distinct_ids : (w x y z : Arg) → w.id.now ≡ codes "file" → x.id.now ≡ codes "command" → y.id.now ≡ codes "script" → z.id.now ≡ codes "seq"
    → HasDistinctIds (w ∷ x ∷ y ∷ z ∷ [])
has_distinct_ids w x y z w_is x_is y_is z_is zero zero d e j_lt k_lt same = refl
has_distinct_ids w x y z w_is x_is y_is z_is zero (suc zero) d e j_lt k_lt same =
    let bad : bytes_eq (codes "file") (codes "command") ≡ true = rw (w_is, x_is) at same in
    cc
has_distinct_ids w x y z w_is x_is y_is z_is zero (suc (suc zero)) d e j_lt k_lt same =
    let bad : bytes_eq (codes "file") (codes "script") ≡ true = rw (w_is, y_is) at same in
    cc
has_distinct_ids w x y z w_is x_is y_is z_is zero (suc (suc (suc zero))) d e j_lt k_lt same =
    let bad : bytes_eq (codes "file") (codes "seq") ≡ true = rw (w_is, z_is) at same in
    cc
has_distinct_ids w x y z w_is x_is y_is z_is (suc zero) zero d e j_lt k_lt same =
    let bad : bytes_eq (codes "command") (codes "file") ≡ true = rw (x_is, w_is) at same in
    cc
has_distinct_ids w x y z w_is x_is y_is z_is (suc zero) (suc zero) d e j_lt k_lt same = refl
has_distinct_ids w x y z w_is x_is y_is z_is (suc zero) (suc (suc zero)) d e j_lt k_lt same =
    let bad : bytes_eq (codes "command") (codes "script") ≡ true = rw (x_is, y_is) at same in
    cc
has_distinct_ids w x y z w_is x_is y_is z_is (suc zero) (suc (suc (suc zero))) d e j_lt k_lt same =
    let bad : bytes_eq (codes "command") (codes "seq") ≡ true = rw (x_is, z_is) at same in
    cc
has_distinct_ids w x y z w_is x_is y_is z_is (suc (suc zero)) zero d e j_lt k_lt same =
    let bad : bytes_eq (codes "script") (codes "file") ≡ true = rw (y_is, w_is) at same in
    cc
has_distinct_ids w x y z w_is x_is y_is z_is (suc (suc zero)) (suc zero) d e j_lt k_lt same =
    let bad : bytes_eq (codes "script") (codes "command") ≡ true = rw (y_is, x_is) at same in
    cc
has_distinct_ids w x y z w_is x_is y_is z_is (suc (suc zero)) (suc (suc zero)) d e j_lt k_lt same = refl
has_distinct_ids w x y z w_is x_is y_is z_is (suc (suc zero)) (suc (suc (suc zero))) d e j_lt k_lt same =
    let bad : bytes_eq (codes "script") (codes "seq") ≡ true = rw (y_is, z_is) at same in
    cc
has_distinct_ids w x y z w_is x_is y_is z_is (suc (suc (suc zero))) zero d e j_lt k_lt same =
    let bad : bytes_eq (codes "seq") (codes "file") ≡ true = rw (z_is, w_is) at same in
    cc
has_distinct_ids w x y z w_is x_is y_is z_is (suc (suc (suc zero))) (suc zero) d e j_lt k_lt same =
    let bad : bytes_eq (codes "seq") (codes "command") ≡ true = rw (z_is, x_is) at same in
    cc
has_distinct_ids w x y z w_is x_is y_is z_is (suc (suc (suc zero))) (suc (suc zero)) d e j_lt k_lt same =
    let bad : bytes_eq (codes "seq") (codes "script") ≡ true = rw (z_is, y_is) at same in
    cc
has_distinct_ids w x y z w_is x_is y_is z_is (suc (suc (suc zero))) (suc (suc (suc zero))) d e j_lt k_lt same = refl
has_distinct_ids w x y z w_is x_is y_is z_is (suc (suc (suc (suc j)))) k d e j_lt k_lt same = absurd (omega arith)
has_distinct_ids w x y z w_is x_is y_is z_is zero (suc (suc (suc (suc k)))) d e j_lt k_lt same = absurd (omega arith)
has_distinct_ids w x y z w_is x_is y_is z_is (suc zero) (suc (suc (suc (suc k)))) d e j_lt k_lt same = absurd (omega arith)
has_distinct_ids w x y z w_is x_is y_is z_is (suc (suc zero)) (suc (suc (suc (suc k)))) d e j_lt k_lt same = absurd (omega arith)
has_distinct_ids w x y z w_is x_is y_is z_is (suc (suc (suc zero))) (suc (suc (suc (suc k)))) d e j_lt k_lt same = absurd (omega arith)
