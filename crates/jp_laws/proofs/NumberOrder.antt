-- The order of numbers and of strings, as the operators see it.
use Rattle.std.proofs.Common.{◌≡◌, ℕ, ◌<◌, ℤ, nat_lt, nat_eq, List, [], ◌∷◌, true, not, ◌&&◌, ◌||◌, Option, Some, None, Ordering, Less, Equal, Greater, is_lt, is_eq, bytes_eq, refl, sym, ap, ap₂, ◌∙◌, ◌⊎◌, inl, inr, ⊎_elim, arith}
use Rattle.std.specs.Ordering.{ordering_reverse}
use Rattle.std.proofs.lemmas.Bool.{cases_order, lt-ltb, le-ltb, eq-eqb, ne_eqb, or_cases, or_left, or_right, and_parts, and_from, ltb-true, eqb-true}
use Rattle.std.proofs.lemmas.Cmp.{tied_back, alike_right}
use Rattle.std.specs.Cmp.{IsTotalOrder}
use Rattle.jp_decimal.specs.Values.{Number, order}
use Rattle.jp_laws.proofs.Shifted.{ten, lower, shifted}
use Rattle.jp_model.specs.Json.Numbers.{number_order, number_less, number_equal}
use Rattle.jp_model.specs.Json.Tree.{Value, null, boolean, number, string, container, array, object}
use Rattle.jp_model.specs.Meaning.Compare.{compared, both_equal, is_less, text_less, value_less, values_equal}
use Rattle.jp_model.specs.Query.Syntax.{CompareOp, equal, not_equal, less, less_equal, greater, greater_equal}
use Rattle.jp_laws.specs.Values.{exactly_one}

abbrev pub of : ℤ → ℤ → Number
of m e = record { mantissa = m; scale = e }

one_order : (o : Ordering) → exactly_one (is_lt o) (is_eq o) (is_lt (ordering_reverse o)) ≡ true
one_order Less = refl
one_order Equal = refl
one_order Greater = refl

pub is_equal : (o : Ordering) → is_eq o ≡ true → o ≡ Equal
is_equal Less h = absurd (cc)
is_equal Equal h = refl
is_equal Greater h = absurd (cc)

is_below : (o : Ordering) → is_lt o ≡ true → o ≡ Less
is_below Less h = refl
is_below Equal h = absurd (cc)
is_below Greater h = absurd (cc)

-- ---- numbers, by the law that their order is total

module _ (order_total : IsTotalOrder order) where
  pub numbers_decided : (m e n f : ℤ) → exactly_one (number_less m e n f) (number_equal m e n f) (number_less n f m e) ≡ true
  numbers_decided m e n f = rw (order_total.antisymm (of n f) (of m e)) (one_order (number_order m e n f))

  pub numbers_same : (m e n f k g : ℤ) → number_equal m e n f ≡ true → number_equal n f k g ≡ true → number_equal m e k g ≡ true
  numbers_same m e n f k g p q = rw (order_total.congr (of m e) (of n f) (of k g) (is_equal _ p)) q

  pub number_back : (m e n f : ℤ) → number_equal m e n f ≡ true → number_equal n f m e ≡ true
  number_back m e n f p = rw (tied_back order_total (of m e) (of n f) (is_equal _ p)) refl

  pub number_itself : (m e : ℤ) → number_equal m e m e ≡ true
  number_itself m e = number_self (number_order m e m e) (order_total.antisymm (of m e) (of m e))
    where
      number_self : (o : Ordering) → o ≡ ordering_reverse o → is_eq o ≡ true
      number_self Less h = absurd (cc)
      number_self Equal h = refl
      number_self Greater h = absurd (cc)

  numbers_chain : (m e n f k g : ℤ) → number_less m e n f ≡ true → number_less n f k g ≡ true → number_less m e k g ≡ true
  numbers_chain m e n f k g p q = rw (order_total.trans (of m e) (of n f) (of k g) (is_below _ p) (is_below _ q)) refl

-- ---- strings

pub strings_decided : (x y : List ℕ) → exactly_one (text_less x y) (bytes_eq x y) (text_less y x) ≡ true
strings_decided [] [] = refl
strings_decided [] (b ∷ y) = refl
strings_decided (a ∷ x) [] = refl
strings_decided (a ∷ x) (b ∷ y) =
    elim (cases_order a b) [
      | inl e ↦ rw (le-ltb a b (omega arith), le-ltb b a (omega arith), eq-eqb a b e, eq-eqb b a (sym e)) (strings_decided x y)
      | inr (inl l) ↦ rw (lt-ltb a b l, le-ltb b a (omega arith), ne_eqb a b (λ (e : a ≡ b). omega arith), ne_eqb b a (λ (e : b ≡ a). omega arith)) refl
      | inr (inr l) ↦ rw (lt-ltb b a l, le-ltb a b (omega arith), ne_eqb a b (λ (e : a ≡ b). omega arith)) refl
    ]

less_parts : (a b : ℕ) (x y : List ℕ) → text_less (a ∷ x) (b ∷ y) ≡ true → (a < b) ⊎ ((a ≡ b) × (text_less x y ≡ true))
less_parts a b x y h = ⊎_elim (λ l. inl (ltb-true a b l)) (λ l. let p = and_parts _ _ l in inr (eqb-true a b p.0, p.1)) (or_cases (nat_lt a b) (nat_eq a b && text_less x y) h)

less_first : (a b : ℕ) (x y : List ℕ) → a < b → text_less (a ∷ x) (b ∷ y) ≡ true
less_first a b x y h = or_left _ _ (lt-ltb a b h)

less_later : (a b : ℕ) (x y : List ℕ) → a ≡ b → text_less x y ≡ true → text_less (a ∷ x) (b ∷ y) ≡ true
less_later a b x y e h = or_right (nat_lt a b) _ (and_from _ _ (eq-eqb a b e) h)

strings_chain : (x y z : List ℕ) → text_less x y ≡ true → text_less y z ≡ true → text_less x z ≡ true
strings_chain x [] z p q = absurd (cc)
strings_chain x (b ∷ y) [] p q = absurd (cc)
strings_chain [] (b ∷ y) (c ∷ z) p q = refl
strings_chain (a ∷ x) (b ∷ y) (c ∷ z) p q = join (less_parts a b x y p) (less_parts b c y z q) (strings_chain x y z)
  where
    join : (a < b) ⊎ ((a ≡ b) × (text_less x y ≡ true)) → (b < c) ⊎ ((b ≡ c) × (text_less y z ≡ true)) → (text_less x y ≡ true → text_less y z ≡ true → text_less x z ≡ true) → text_less (a ∷ x) (c ∷ z) ≡ true
    join (inl l) (inl m) again = less_first a c x z (omega arith)
    join (inl l) (inr m) again = less_first a c x z (let e = m.0 in omega arith)
    join (inr l) (inl m) again = less_first a c x z (let e = l.0 in omega arith)
    join (inr l) (inr m) again = less_later a c x z (l.0 ∙ m.0) (again l.1 m.1)

-- ---- both

module _ (order_total : IsTotalOrder order) where
  values_chain : (x y z : Value) → value_less x y ≡ true → value_less y z ≡ true → value_less x z ≡ true
  values_chain (number m e) (number n f) (number k g) p q = numbers_chain order_total m e n f k g p q
  values_chain (string x) (string y) (string z) p q = strings_chain x y z p q
  values_chain (number m e) (number n f) z p q = absurd (cc)
  values_chain (string x) (string y) z p q = absurd (cc)
  values_chain x y z p q = absurd (cc)

  pub less_chain : (x y z : Option Value) → compared less x y ≡ true → compared less y z ≡ true → compared less x z ≡ true
  less_chain (Some x) (Some y) (Some z) p q = values_chain x y z p q
  less_chain (Some x) (Some y) None p q = absurd (cc)
  less_chain x y z p q = absurd (cc)

-- a comparison tells only which of two is less and whether they are equal
pub compared_alike : (op : CompareOp) (x y v w : Option Value) → both_equal x y ≡ both_equal v w → is_less x y ≡ is_less v w → is_less y x ≡ is_less w v → compared op x y ≡ compared op v w
compared_alike equal x y v w same below above = same
compared_alike not_equal x y v w same below above = ap not same
compared_alike less x y v w same below above = below
compared_alike less_equal x y v w same below above = ap₂ (λ a b. a || b) below same
compared_alike greater x y v w same below above = above
compared_alike greater_equal x y v w same below above = ap₂ (λ a b. a || b) above same

-- ---- a number by its value

pub same_value : (m e : ℤ) → compared equal (Some (number m e)) (Some (number (ten m) (lower e))) ≡ true
same_value m e = rw (shifted m e) refl

module _ (order_total : IsTotalOrder order) where
  order_left : (m e n f : ℤ) → number_order (ten m) (lower e) n f ≡ number_order m e n f
  order_left m e n f = sym (order_total.congr (of m e) (of (ten m) (lower e)) (of n f) (shifted m e))

  order_right : (m e n f : ℤ) → number_order n f (ten m) (lower e) ≡ number_order n f m e
  order_right m e n f = sym (alike_right order_total (of m e) (of (ten m) (lower e)) (of n f) (shifted m e))

  equal_left : (m e : ℤ) (y : Value) → values_equal (number (ten m) (lower e)) y ≡ values_equal (number m e) y
  equal_left m e (number n f) = ap is_eq (order_left m e n f)
  equal_left m e y = refl

  equal_right : (m e : ℤ) (y : Value) → values_equal y (number (ten m) (lower e)) ≡ values_equal y (number m e)
  equal_right m e (number n f) = ap is_eq (order_right m e n f)
  equal_right m e null = refl
  equal_right m e (boolean b) = refl
  equal_right m e (string x) = refl
  equal_right m e (container array cs) = refl
  equal_right m e (container object cs) = refl

  less_left : (m e : ℤ) (y : Value) → value_less (number (ten m) (lower e)) y ≡ value_less (number m e) y
  less_left m e (number n f) = ap is_lt (order_left m e n f)
  less_left m e y = refl

  less_right : (m e : ℤ) (y : Value) → value_less y (number (ten m) (lower e)) ≡ value_less y (number m e)
  less_right m e (number n f) = ap is_lt (order_right m e n f)
  less_right m e y = refl

  equal_alike : (m e : ℤ) (y : Option Value)
      → (both_equal (Some (number (ten m) (lower e))) y ≡ both_equal (Some (number m e)) y) × (both_equal y (Some (number (ten m) (lower e))) ≡ both_equal y (Some (number m e)))
  equal_alike m e None = (refl, refl)
  equal_alike m e (Some y) = (equal_left m e y, equal_right m e y)

  less_alike : (m e : ℤ) (y : Option Value)
      → (is_less (Some (number (ten m) (lower e))) y ≡ is_less (Some (number m e)) y) × (is_less y (Some (number (ten m) (lower e))) ≡ is_less y (Some (number m e)))
  less_alike m e None = (refl, refl)
  less_alike m e (Some y) = (less_left m e y, less_right m e y)

  pub value_left : (op : CompareOp) (m e : ℤ) (y : Option Value) → compared op (Some (number (ten m) (lower e))) y ≡ compared op (Some (number m e)) y
  value_left op m e y =
      let less = less_alike m e y in
      compared_alike op (Some (number (ten m) (lower e))) y (Some (number m e)) y (equal_alike m e y).0 less.0 less.1

  pub value_right : (op : CompareOp) (m e : ℤ) (y : Option Value) → compared op y (Some (number (ten m) (lower e))) ≡ compared op y (Some (number m e))
  value_right op m e y =
      let less = less_alike m e y in
      compared_alike op y (Some (number (ten m) (lower e))) y (Some (number m e)) (equal_alike m e y).1 less.1 less.0
