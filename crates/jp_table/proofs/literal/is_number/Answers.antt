-- Part by part.
use Rattle.std.proofs.Common.{◌∙◌, ◌&&◌, Bool, ap, ap₂, sym, drop, length, List, ℕ, bytes_eq}
use Rattle.std.specs.List.{list_all}
use Rattle.jp_model.specs.Characters.{is_digit}
use Rattle.jp_model.specs.Json.Numbers.{exponent_bytes, fraction_bytes, leading_digits, leading_exponent, leading_fraction}
use Rattle.jp_model.specs.Json.Reader.{is_exponent, is_int}
use Rattle.jp_table.proofs.Literals.{all_digits, number_parts}
use Rattle.jp_table.proofs.literal.is_number.Goals as goal

-- what follows an int is right
abbrev right : List ℕ → Bool
right rest =
    let end = drop (length (fraction_bytes (leading_fraction rest))) rest in
    is_exponent (leading_exponent end) && bytes_eq (exponent_bytes (leading_exponent end)) end

pub is_int-requires : goal.is_int-requires
is_int-requires c = ap (list_all is_digit) c.split_digits.ensures.digits ∙ all_digits c.behind_minus.result.now

pub returns-then-is_int : goal.returns-then-is_int
returns-then-is_int c =
    c.is_exponent.ensures
    ∙ ap (λ end. is_exponent (leading_exponent end) && bytes_eq (exponent_bytes (leading_exponent end)) end) c.behind_fraction.ensures
    ∙ ap (λ (b : Bool). b && right c.split_digits.result.1.now)
    (sym c.if-is_int.true ∙ c.is_int.ensures)
    ∙ ap₂ (λ int rest. is_int int && right rest) c.split_digits.ensures.digits c.split_digits.ensures.rest
    ∙ ap (λ unsigned. is_int (leading_digits unsigned) && right (drop (length (leading_digits unsigned)) unsigned)) c.behind_minus.ensures
    ∙ sym (number_parts c.args.text.now)

pub returns-else-is_int : goal.returns-else-is_int
returns-else-is_int c =
    c.if-is_int.false
    ∙ ap (λ (b : Bool). b && right c.split_digits.result.1.now)
    (sym c.if-is_int.false ∙ c.is_int.ensures)
    ∙ ap₂ (λ int rest. is_int int && right rest) c.split_digits.ensures.digits c.split_digits.ensures.rest
    ∙ ap (λ unsigned. is_int (leading_digits unsigned) && right (drop (length (leading_digits unsigned)) unsigned)) c.behind_minus.ensures
    ∙ sym (number_parts c.args.text.now)
