-- A number that was read has the value of its literal.
use Rattle.std.proofs.Common.{◌≡◌, ◌∙◌, ℕ, List, true, Option, Some, sym, ap, ap₂, subst, ℤ}
use Rattle.std.proofs.lemmas.Bool.{true≢false, and_parts, and_from}
use Rattle.std.proofs.lemmas.Bool.Decides.{Decides-int_eq}
use Rattle.jp_decimal.specs.Values.{Number}
use Rattle.jp_decimal.specs.Reading.{ReadsAs}
use Rattle.jp_model.specs.Json.Numbers.{numeral_of, mantissa, scale}
use Rattle.jp_model.specs.Json.Tree.{number}
use Rattle.jp_model.specs.Meaning.Functions.{literal_value}
use Rattle.jp_model.specs.Query.Syntax.{Literal, null_literal, false_literal, true_literal, number_literal, string_literal}
use Rattle.jp_eval.specs.Constants.{is_read_as}

pub read_as : (x : List ℕ) (n : Number) → ReadsAs x n → is_read_as (Some n) (number_literal x) ≡ true
read_as x n r =
    and_from _ _ ((Decides-int_eq n.mantissa (mantissa (numeral_of x))).1 (sym r.is_mantissa ∙ sym (ap mantissa r.spells.only)))
    ((Decides-int_eq n.scale (scale (numeral_of x))).1 (sym r.is_scale ∙ sym (ap scale r.spells.only)))

value_read : (l : Literal) (n : Number) → is_read_as (Some n) l ≡ true → number n.mantissa n.scale ≡ literal_value l
value_read null_literal n h = absurd (true≢false (sym h))
value_read false_literal n h = absurd (true≢false (sym h))
value_read true_literal n h = absurd (true≢false (sym h))
value_read (string_literal x) n h = absurd (true≢false (sym h))
value_read (number_literal x) n h =
    let both = and_parts _ _ h in
    ap₂ (λ (m e : ℤ). number m e) ((Decides-int_eq n.mantissa (mantissa (numeral_of x))).0 both.0) ((Decides-int_eq n.scale (scale (numeral_of x))).0 both.1)

pub has_value : (o : Option Number) (l : Literal) (n : Number) → o ≡ Some n → is_read_as o l ≡ true → number n.mantissa n.scale ≡ literal_value l
has_value o l n e h = value_read l n (subst (λ (p : Option Number). is_read_as p l ≡ true) e h)
