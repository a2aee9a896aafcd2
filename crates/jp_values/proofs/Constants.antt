-- A value against a number or a text of the query.
use Rattle.std.proofs.Common.{◌≡◌, ◌∙◌, ℕ, List, Bool, false, not, ◌||◌, Some, None, Ordering, refl, sym, ap, ap₂, subst}
use Rattle.std.specs.declared.cmp.Ordering.TheVariants.{Less, Equal, Greater}
use Rattle.std.specs.Cmp.{IsTotalOrder}
use Rattle.std.specs.Cmp.Lexicographic.{slice_cmp}
use Rattle.std.specs.Ordering.{is_lt, is_eq, is_gt, nat_cmp, ordering_reverse}
use Rattle.std.proofs.lemmas.Cmp.{nat_list_cmp_total}
use Rattle.std.proofs.lemmas.Map.Text.{is_eq-slice_cmp}
use Rattle.jp_decimal.specs.Values.{Number, order}
use Rattle.jp_model.specs.Json.Tree.{Value, null, boolean, number, string, container, array, object}
use Rattle.jp_model.specs.Meaning.Compare.{compared, values_equal, value_less}
use Rattle.jp_model.specs.Query.Syntax.{CompareOp, equal, not_equal, less, less_equal, greater, greater_equal}
use Rattle.jp_nodes.specs.Contents.{number_in, text_in}
use Rattle.jp_values.specs.Constants.{holds_at, holds_apart, compared_with_number, compared_with_text}
use Rattle.jp_values.proofs.Leaves.{text_less_is}

-- two values of which neither is less, and that are not equal
record AreApart (v w : Value) : Type 0 where
  unequal : values_equal v w ≡ false
  not_less : value_less v w ≡ false
  not_greater : value_less w v ≡ false

both_false : (a b : Bool) → a ≡ false → b ≡ false → (a || b) ≡ false
both_false a b h k = ap₂ (λ (x y : Bool). x || y) h k

apart_holds : (op : CompareOp) (v w : Value) → AreApart v w → holds_apart op ≡ compared op (Some v) (Some w)
apart_holds equal v w h = sym h.unequal
apart_holds not_equal v w h = sym (ap not h.unequal)
apart_holds less v w h = sym h.not_less
apart_holds less_equal v w h = sym (both_false _ _ h.not_less h.unequal)
apart_holds greater v w h = sym h.not_greater
apart_holds greater_equal v w h = sym (both_false _ _ h.not_greater h.unequal)

no_number : (v : Value) (x : Number) → number_in v ≡ None → AreApart v (number x.mantissa x.scale)
no_number null x h = record { unequal = refl; not_less = refl; not_greater = refl }
no_number (boolean b) x h = record { unequal = refl; not_less = refl; not_greater = refl }
no_number (number m e) x h = absurd (cc)
no_number (string points) x h = record { unequal = refl; not_less = refl; not_greater = refl }
no_number (container array children) x h = record { unequal = refl; not_less = refl; not_greater = refl }
no_number (container object children) x h = record { unequal = refl; not_less = refl; not_greater = refl }

no_text : (v : Value) (points : List ℕ) → text_in v ≡ None → AreApart v (string points)
no_text null points h = record { unequal = refl; not_less = refl; not_greater = refl }
no_text (boolean b) points h = record { unequal = refl; not_less = refl; not_greater = refl }
no_text (number m e) points h = record { unequal = refl; not_less = refl; not_greater = refl }
no_text (string own) points h = absurd (cc)
no_text (container array children) points h = record { unequal = refl; not_less = refl; not_greater = refl }
no_text (container object children) points h = record { unequal = refl; not_less = refl; not_greater = refl }

pub apart_from_number : (op : CompareOp) (v : Value) (x : Number) → number_in v ≡ None → holds_apart op ≡ compared_with_number op v x
apart_from_number op v x h = apart_holds op v _ (no_number v x h)

pub apart_from_text : (op : CompareOp) (v : Value) (points : List ℕ) → text_in v ≡ None → holds_apart op ≡ compared_with_text op v points
apart_from_text op v points h = apart_holds op v _ (no_text v points h)

-- what is less the other way round is greater
turned_is_greater : (o p : Ordering) → p ≡ ordering_reverse o → is_gt o ≡ is_lt p
turned_is_greater Less p h = sym (ap is_lt h)
turned_is_greater Equal p h = sym (ap is_lt h)
turned_is_greater Greater p h = sym (ap is_lt h)

-- the answers of one order, the other way round, and of equality are those of a comparison
same_at : (op : CompareOp) (v w : Value) (o p : Ordering) → p ≡ ordering_reverse o → is_eq o ≡ values_equal v w → is_lt o ≡ value_less v w → is_lt p ≡ value_less w v → holds_at op o ≡ compared op (Some v) (Some w)
same_at equal v w o p h e l g = e
same_at not_equal v w o p h e l g = ap not e
same_at less v w o p h e l g = l
same_at less_equal v w o p h e l g = ap₂ (λ (x y : Bool). x || y) l e
same_at greater v w o p h e l g = turned_is_greater o p h ∙ g
same_at greater_equal v w o p h e l g = ap₂ (λ (x y : Bool). x || y) (turned_is_greater o p h ∙ g) e

numbers_at : IsTotalOrder order → (op : CompareOp) (x y : Number) → holds_at op (order x y) ≡ compared_with_number op (number x.mantissa x.scale) y
numbers_at total op x y = same_at op (number x.mantissa x.scale) (number y.mantissa y.scale) (order x y) (order y x) (total.antisymm y x) refl refl refl

pub number_at : IsTotalOrder order → (op : CompareOp) (v : Value) (x y : Number) → Some x ≡ number_in v → holds_at op (order x y) ≡ compared_with_number op v y
number_at total op null x y h = absurd (cc)
number_at total op (boolean b) x y h = absurd (cc)
number_at total op (number m e) x y h =
    let same : x ≡ record { mantissa = m; scale = e } = cc in
    let At : Number → Type 0 = λ z. holds_at op (order x y) ≡ compared_with_number op (number z.mantissa z.scale) y in
    subst At same (numbers_at total op x y)
number_at total op (string points) x y h = absurd (cc)
number_at total op (container kind children) x y h = absurd (cc)

texts_at : (op : CompareOp) (xs ys : List ℕ) → holds_at op (slice_cmp nat_cmp xs ys) ≡ compared_with_text op (string xs) ys
texts_at op xs ys =
    same_at op (string xs) (string ys) (slice_cmp nat_cmp xs ys) (slice_cmp nat_cmp ys xs) (nat_list_cmp_total.antisymm ys xs)
    (is_eq-slice_cmp xs ys) (text_less_is xs ys _ refl) (text_less_is ys xs _ refl)

pub text_at : (op : CompareOp) (v : Value) (xs ys : List ℕ) → Some xs ≡ text_in v → holds_at op (slice_cmp nat_cmp xs ys) ≡ compared_with_text op v ys
text_at op null xs ys h = absurd (cc)
text_at op (boolean b) xs ys h = absurd (cc)
text_at op (number m e) xs ys h = absurd (cc)
text_at op (string points) xs ys h =
    let same : xs ≡ points = cc in
    let At : List ℕ → Type 0 = λ z. holds_at op (slice_cmp nat_cmp xs ys) ≡ compared_with_text op (string z) ys in
    subst At same (texts_at op xs ys)
text_at op (container kind children) xs ys h = absurd (cc)
