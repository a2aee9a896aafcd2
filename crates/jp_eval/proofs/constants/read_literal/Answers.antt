-- A number of a checked query is read.
use Rattle.std.proofs.Common.{◌≡◌, ◌∙◌, ◌<◌, ap, subst, sym, length, List, ℕ, true, Some}
use Rattle.jp_decimal.specs.Decimals.{number_of, numeral_number}
use Rattle.jp_decimal.specs.Reading.{ReadsAs}
use Rattle.jp_decimal.specs.Values.{Number}
use Rattle.jp_model.specs.Query.Syntax.{number_literal}
use Rattle.jp_syntax.specs.declared.tree.Literal.{Literal}
use Rattle.jp_syntax.specs.View.{literal_view}
use Rattle.jp_syntax.specs.Sound.{is_sound}
use Rattle.jp_values.proofs.Leaves.{literal_short}
use Rattle.jp_eval.specs.Constants.{is_read_as}
use Rattle.jp_eval.proofs.Literals.{read_as}
use Rattle.jp_eval.proofs.constants.read_literal.Goals as goal

pub read-requires : goal.read-requires
read-requires c =
    let sound = subst (λ (l : Literal). is_sound (literal_view l) ≡ true) c.in-Number.is c.requires.literals in
    subst (λ (b : List ℕ). length b < 4294967296) (sym c.deref.ensures.value) (literal_short c.in-Number.spelling.items sound)

pub returns-in_ok-to_numeral-in-Ok : goal.returns-in_ok-to_numeral-in-Ok
returns-in_ok-to_numeral-in-Ok c =
    let items : List ℕ = c.in-Number.spelling.items in
    let found : Number = number_of c.in-Ok.number in
    let own : Number = numeral_number c.in_ok-to_numeral-in-Ok.field-0 in
    let read : ReadsAs items found = subst (λ (b : List ℕ). ReadsAs b found) c.deref.ensures.value c.in-Ok.ensures in
    ap (λ (l : Literal). is_read_as (Some own) (literal_view l)) c.in-Number.is
    ∙ (ap (λ (x : Number). is_read_as (Some x) (number_literal items)) c.in_ok-to_numeral-in-Ok.ensures ∙ read_as items found read)
