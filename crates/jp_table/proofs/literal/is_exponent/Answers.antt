-- After the letter.
use Rattle.std.proofs.Common.{◌≡◌, ◌∙◌, ◌&&◌, ◌==◌, Bool, true, false, ap, ap₂, sym, drop, length, ℕ, nat_le, arith, take, ◌-◌}
use Rattle.std.proofs.lemmas.Bool.Decides.{nat_tests}
use Rattle.std.proofs.lemmas.List.{take_all, length-drop}
use Rattle.jp_model.specs.Json.Numbers.{behind_sign, leading_digits, leading_sign}
use Rattle.jp_table.proofs.Literals.{exponent_parts}
use Rattle.jp_table.proofs.literal.is_exponent.Goals as goal

some : (n : ℕ) → false ≡ (n == 0) → nat_le 1 n ≡ true
some n e = grind (arith, nat_tests, e)

pub returns-then-not-is_empty : goal.returns-then-not-is_empty
returns-then-not-is_empty c =
    let text = c.args.text.now in
    let behind = behind_sign (leading_sign (drop 1 text)) (drop 1 text) in
    let all : take (length text - 1) (drop 1 text) ≡ drop 1 text = take_all (length text - 1) (drop 1 text) (let long = length-drop 1 text in omega (arith, long)) in
    let from : c.behind_sign.result.now ≡ behind = c.behind_sign.ensures ∙ ap (λ l. behind_sign (leading_sign l) l) all in
    let digits : c.split_digits.result.0.now ≡ leading_digits behind = c.split_digits.ensures.digits ∙ ap leading_digits from in
    let rest : c.split_digits.result.1.now ≡ drop (length (leading_digits behind)) behind =
    c.split_digits.ensures.rest ∙ ap (λ l. drop (length (leading_digits l)) l) from in
    c.is_empty-then-not-is_empty.ensures
    ∙ ap (λ (b : Bool). b && (length c.split_digits.result.1.now == 0)) (sym (some (length c.split_digits.result.0.now) (sym c.if-not-is_empty.true ∙ c.is_empty-2.ensures)))
    ∙ ap₂ (λ ds l. nat_le 1 (length ds) && (length l == 0)) digits rest
    ∙ sym (exponent_parts text (sym c.has_letter.ensures ∙ c.if-not-has_letter.false))
