-- The ASCII scalars that pass a test, as the bits of a word.
use Rattle.std.proofs.Common.{◌≡◌, ℕ, zero, suc, ◌+◌, ◌-◌, ◌*◌, ◌%◌, ◌^◌, ◌<◌, ◌≤◌, ◌⊎◌, inl, inr, ◌↔◌, ◌==◌, Bool, true, false, not, ◌&&◌, ◌||◌, nat_le, IsTrue, List, [], ◌∷◌, length, drop, bit_or, bit_and, arith, refl, sym, subst}
use Rattle.std.specs.Int.{bit_at, bit_not, w128}
use Rattle.std.proofs.lemmas.Nat.{one_shl, or_lt, and_le_l}
use Rattle.std.proofs.lemmas.Nat.Bits.{bit_at-lt, bit_at-zero, bit_at_ones, bit_at_ones_above, bit_at_not}
use Rattle.std.proofs.lemmas.Bool.{le-leb, leb-true, and_parts, and_from, eqb-true, eq-eqb}
use Rattle.std.specs.List.{list_any}
use Rattle.jp_model.specs.Pattern.Tree.{Item, CharClass, dot, members}
use Rattle.jp_model.specs.Pattern.Classes.{in_item, in_class}
use Rattle.jp_iregexp.specs.States.{HasState, AreCodes}
use Rattle.jp_iregexp.proofs.Sums.{holds_either, holds_left, holds_right}
use Rattle.jp_iregexp.proofs.Masks.{IsMaskBelow, below_or_past, both, both_left, both_right}

pub all_codes : (last : ℕ) → 127 ≤ last → AreCodes (λ scalar. nat_le scalar last) (2 ^ 128 - 1)
all_codes last l = λ c few. ((λ h. le-leb c last (omega arith)), (λ h. bit_at_ones 128 c few))

front_ones : (last : ℕ) → AreCodes (λ scalar. nat_le scalar last) (2 ^ (last + 1) - 1)
front_ones last = λ c few. elim (below_or_past c (last + 1)) [
  | inl i ↦ ((λ h. le-leb c last (omega arith)), (λ h. bit_at_ones (last + 1) c i))
  | inr i ↦ ((λ h. let z = bit_at_ones_above (last + 1) c i in absurd (omega (arith, z, h))), (λ h. let l = leb-true c last h in absurd (omega (arith, i, l))))
]

pub front_codes : (last : ℕ) → last < 127 → AreCodes (λ scalar. nat_le scalar last) (1 * 2 ^ (last + 1) % 2 ^ 128 - 1)
front_codes last l = subst (λ n. AreCodes (λ scalar. nat_le scalar last) (n - 1)) (sym (one_shl (last + 1) 128 (omega arith))) (front_ones last)

pub same_codes : (test other : ℕ → Bool) (codes : ℕ) → ((c : ℕ) → IsTrue (test c) ↔ IsTrue (other c)) → AreCodes test codes → AreCodes other codes
same_codes test other codes same a = λ c few. ((λ h. (same c).0 ((a c few).0 h)), (λ h. (a c few).1 ((same c).1 h)))

pub both_codes : (first second : ℕ → Bool) (a b : ℕ) → AreCodes first a → AreCodes second b → AreCodes (λ c. first c && second c) (bit_and a b)
both_codes first second a b f s = λ c few. (
  (λ h. and_from (first c) (second c) ((f c few).0 (both_left a b c h)) ((s c few).0 (both_right a b c h))),
  (λ h. let p = and_parts (first c) (second c) h in both a b c ((f c few).1 p.0) ((s c few).1 p.1)),
)

or_left : (a b : Bool) → a ≡ true → (a || b) ≡ true
or_left true b h = refl
or_left false b h = absurd (cc)

or_right : (a b : Bool) → b ≡ true → (a || b) ≡ true
or_right true b h = refl
or_right false b h = h

pub or_parts : (a b : Bool) → (a || b) ≡ true → (a ≡ true) ⊎ (b ≡ true)
or_parts true b h = inl refl
or_parts false b h = inr h

pub either_codes : (first second : ℕ → Bool) (a b : ℕ) → AreCodes first a → AreCodes second b → AreCodes (λ c. first c || second c) (bit_or a b)
either_codes first second a b f s = λ c few. (
  (λ h. elim (holds_either a b c h) [ inl i ↦ or_left (first c) (second c) ((f c few).0 i) | inr i ↦ or_right (first c) (second c) ((s c few).0 i) ]),
  (λ h. elim (or_parts (first c) (second c) h) [ inl i ↦ holds_left a b c ((f c few).1 i) | inr i ↦ holds_right a b c ((s c few).1 i) ]),
)

not_passed : (b : Bool) → (b ≡ true → ⊥) → not b ≡ true
not_passed true h = absurd (h refl)
not_passed false h = refl

passed_not : (b : Bool) → not b ≡ true → b ≡ true → ⊥
passed_not true n h = cc
passed_not false n h = cc

pub other_codes : (test : ℕ → Bool) (codes : ℕ) → codes < 2 ^ 128 → AreCodes test codes → AreCodes (λ c. not (test c)) (bit_not w128 codes)
other_codes test codes small a = λ c few.
    let is : bit_at (bit_not w128 codes) c ≡ 1 - bit_at codes c = bit_at_not w128 codes c small few in
    let low = bit_at-lt codes c in (
      (λ h. not_passed (test c) (λ t. let one = (a c few).1 t in omega (arith, is, one, h))),
      (λ h. let none : HasState codes c → ⊥ = (λ i. passed_not (test c) h ((a c few).0 i)) in no_one (bit_at codes c) (bit_at (bit_not w128 codes) c) is low none),
    )
  where
    no_one : (m n : ℕ) → n ≡ 1 - m → m < 2 → (m ≡ 1 → ⊥) → n ≡ 1
    no_one zero n is low none = omega arith
    no_one (suc zero) n is low none = absurd (none refl)
    no_one (suc (suc m)) n is low none = absurd (omega arith)

-- above the scalar before the first one, and up to the last one
pub range_codes : (first last a b : ℕ) → 0 < first → b < 2 ^ 128 → AreCodes (λ c. nat_le c last) a → AreCodes (λ c. nat_le c (first - 1)) b → AreCodes (λ c. nat_le first c && nat_le c last) (bit_and a (bit_not w128 b))
range_codes first last a b some small f s =
    same_codes (λ c. nat_le c last && not (nat_le c (first - 1))) (λ c. nat_le first c && nat_le c last) (bit_and a (bit_not w128 b))
    (λ c. (
      (λ h. let p = and_parts (nat_le c last) (not (nat_le c (first - 1))) h in
          and_from (nat_le first c) (nat_le c last) (elim (below_or_past c first) [ inl i ↦ absurd (passed_not (nat_le c (first - 1)) p.1 (le-leb c (first - 1) (omega (arith, i, some)))) | inr i ↦ le-leb first c i ]) p.0),
      (λ h. let p = and_parts (nat_le first c) (nat_le c last) h in
          and_from (nat_le c last) (not (nat_le c (first - 1))) p.1 (not_passed (nat_le c (first - 1)) (λ l. let x = leb-true c (first - 1) l in let y = leb-true first c p.0 in omega (arith, x, y, some)))),
    ))
    (both_codes (λ c. nat_le c last) (λ c. not (nat_le c (first - 1))) a (bit_not w128 b) f (other_codes (λ c. nat_le c (first - 1)) b small s))

only_one : (k c : ℕ) → IsTrue (nat_le k c && nat_le c k) ↔ IsTrue (c == k)
only_one k c = (
  (λ h. let p = and_parts (nat_le k c) (nat_le c k) h in let x = leb-true k c p.0 in let y = leb-true c k p.1 in eq-eqb c k (omega (arith, x, y))),
  (λ h. let e = eqb-true c k h in and_from (nat_le k c) (nat_le c k) (le-leb k c (omega (arith, e))) (le-leb c k (omega (arith, e)))),
)

neither : (a b : Bool) → IsTrue (not (a || b)) ↔ IsTrue (not a && not b)
neither true b = ((λ h. h), (λ h. h))
neither false b = ((λ h. h), (λ h. h))

-- each scalar but two
pub dot_codes : (a b c d : ℕ) → a < 2 ^ 128 → b < 2 ^ 128 → c < 2 ^ 128 → d < 2 ^ 128 → AreCodes (λ s. nat_le s 10) a → AreCodes (λ s. nat_le s 9) b → AreCodes (λ s. nat_le s 13) c → AreCodes (λ s. nat_le s 12) d
    → AreCodes (in_class dot) (bit_not w128 (bit_or (bit_and a (bit_not w128 b)) (bit_and c (bit_not w128 d))))
dot_codes a b c d la lb lc ld ha hb hc hd =
    let feed = same_codes (λ s. nat_le 10 s && nat_le s 10) (λ s. s == 10) (bit_and a (bit_not w128 b)) (only_one 10) (range_codes 10 10 a b (omega arith) lb ha hb) in
    let return = same_codes (λ s. nat_le 13 s && nat_le s 13) (λ s. s == 13) (bit_and c (bit_not w128 d)) (only_one 13) (range_codes 13 13 c d (omega arith) ld hc hd) in
    let whole = bit_or (bit_and a (bit_not w128 b)) (bit_and c (bit_not w128 d)) in
    let small : whole < 2 ^ 128 = or_lt 128 (bit_and a (bit_not w128 b)) (bit_and c (bit_not w128 d)) (let x = and_le_l a (bit_not w128 b) in omega (arith, la, x)) (let x = and_le_l c (bit_not w128 d) in omega (arith, lc, x)) in
    same_codes (λ s. not ((s == 10) || (s == 13))) (in_class dot) (bit_not w128 whole) (λ s. neither (s == 10) (s == 13))
    (other_codes (λ s. (s == 10) || (s == 13)) whole small (either_codes (λ s. s == 10) (λ s. s == 13) (bit_and a (bit_not w128 b)) (bit_and c (bit_not w128 d)) feed return))

pub tested_codes : (test : ℕ → Bool) (n codes : ℕ) → 128 ≤ n → IsMaskBelow test n codes → AreCodes test codes
tested_codes test n codes l m = λ c few. (m.sound c, λ h. m.complete c (omega arith) h)

-- ---- the items of a class

-- the scalars of the items before, where these are left
pub record IsPartCodes (whole rest : List Item) (codes : ℕ) : Type 0 where
  pub sound : (c : ℕ) → c < 128 → HasState codes c → list_any (in_item c) whole ≡ true
  pub left : (c : ℕ) → list_any (in_item c) rest ≡ true → list_any (in_item c) whole ≡ true
  pub complete : (c : ℕ) → c < 128 → list_any (in_item c) whole ≡ true → HasState codes c ⊎ (list_any (in_item c) rest ≡ true)

pub no_items : (whole : List Item) → IsPartCodes whole whole 0
no_items whole = record { sound = λ c few h. absurd (none c h); left = λ c h. h; complete = λ c few h. inr h }
  where
    none : (c : ℕ) → HasState 0 c → ⊥
    none c h = let z = bit_at-zero c in omega (arith, z, h)

pub one_item : (whole rest : List Item) (item : Item) (codes new : ℕ) → IsPartCodes whole (item ∷ rest) codes → AreCodes (λ c. in_item c item) new → IsPartCodes whole rest (bit_or codes new)
one_item whole rest item codes new p a = record {
  sound = λ c few h. elim (holds_either codes new c h) [ inl i ↦ p.sound c few i | inr i ↦ p.left c (or_left (in_item c item) (list_any (in_item c) rest) ((a c few).0 i)) ];
  left = λ c h. p.left c (or_right (in_item c item) (list_any (in_item c) rest) h);
  complete = λ c few h. elim (p.complete c few h) [
    | inl i ↦ inl (holds_left codes new c i)
    | inr i ↦ elim (or_parts (in_item c item) (list_any (in_item c) rest) i) [ inl j ↦ inl (holds_right codes new c ((a c few).1 j)) | inr j ↦ inr j ]
  ];
}

pub all_items : (whole : List Item) (codes : ℕ) → IsPartCodes whole [] codes → AreCodes (λ c. list_any (in_item c) whole) codes
all_items whole codes p = λ c few. (p.sound c few, λ h. elim (p.complete c few h) [ inl i ↦ i | inr i ↦ absurd (cc) ])

pub nothing_left : {A : Type 0} (xs : List A) (n : ℕ) → length xs ≤ n → drop n xs ≡ []
nothing_left [] zero l = refl
nothing_left [] (suc n) l = refl
nothing_left (x ∷ xs) zero l = absurd (omega arith)
nothing_left (x ∷ xs) (suc n) l = nothing_left xs n (omega arith)

pub negated_codes : (negated : Bool) (items : List Item) (class : CharClass) (codes : ℕ) → class ≡ members negated items → negated ≡ true → codes < 2 ^ 128 → AreCodes (λ s. list_any (in_item s) items) codes → AreCodes (in_class class) (bit_not w128 codes)
negated_codes true items class codes is n small a = subst (λ k. AreCodes (in_class k) (bit_not w128 codes)) (sym is) (other_codes (λ s. list_any (in_item s) items) codes small a)
negated_codes false items class codes is n small a = absurd (cc)

pub plain_codes : (negated : Bool) (items : List Item) (class : CharClass) (codes : ℕ) → class ≡ members negated items → negated ≡ false → AreCodes (λ s. list_any (in_item s) items) codes → AreCodes (in_class class) codes
plain_codes false items class codes is n a = subst (λ k. AreCodes (in_class k) codes) (sym is) a
plain_codes true items class codes is n a = absurd (cc)
