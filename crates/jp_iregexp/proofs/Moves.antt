-- The bits of a set, each of them some distance further on.
use Rattle.std.proofs.Common.{◌≡◌, ◌≢◌, ℕ, ◌+◌, ◌-◌, ◌*◌, ◌/◌, ◌%◌, ◌^◌, ◌<◌, ◌≤◌, ◌↔◌, ◌⊎◌, inl, inr, List, [], ◌∷◌, ◌++◌, length, bit_or, bit_and, arith, sym, ◌∙◌, ap, subst, pow_pos, mod-lt}
use Rattle.std.proofs.Math.Nat.{div-add-mod}
use Rattle.std.proofs.lemmas.List.{get_or_append_left, get_or_push, length_push}
use Rattle.std.proofs.lemmas.Nat.Bits.{bit_at-zero, bit_at_above, bit_at_cat_low, bit_at_cat_high}
use Rattle.std.specs.Int.{bit_at}
use Rattle.std.specs.Int.Bits.{or_zero_l}
use Rattle.jp_iregexp.specs.Words.{word_of}
use Rattle.jp_iregexp.proofs.Bits.{below_or_not, next_or_below, BitOf, or_left, or_right, or_either, put_old, put_there, put_new, word_bit, bit_of_word, word_in, word_before, word_behind}
use Rattle.jp_iregexp.proofs.Masks.{both, both_left, both_right}

-- the low bits of a number
low_bit : (n i : ℕ) → i < 64 → bit_at (n % 2 ^ 64) i ≡ bit_at n i
low_bit n i l =
    let whole : (n / 18446744073709551616) * 2 ^ 64 + n % 18446744073709551616 ≡ n = omega arith in
    sym (bit_at_cat_low (n / 18446744073709551616) 64 (n % 18446744073709551616) i l) ∙ ap (λ m. bit_at m i) whole

-- a bit that is moved up, and one that is moved up past it
up_high : (x s i : ℕ) → s ≤ i → i < 64 → bit_at (x * 2 ^ s % 2 ^ 64) i ≡ bit_at x (i - s)
up_high x s i h l = (let whole : x * 2 ^ s ≡ x * 2 ^ s + 0 = omega arith in low_bit (x * 2 ^ s) i l ∙ ap (λ n. bit_at n i) whole ∙ bit_at_cat_high x s 0 i (pow_pos s) h)

up_low : (x s i : ℕ) → i < s → i < 64 → bit_at (x * 2 ^ s % 2 ^ 64) i ≡ 0
up_low x s i h l = (let whole : x * 2 ^ s ≡ x * 2 ^ s + 0 = omega arith in low_bit (x * 2 ^ s) i l ∙ ap (λ n. bit_at n i) whole ∙ bit_at_cat_low x s 0 i h ∙ bit_at-zero i)

-- a bit that is moved down
pub down : (x t i : ℕ) → bit_at (x / 2 ^ t) i ≡ bit_at x (i + t)
down x t i =
    let whole : x / 2 ^ t * 2 ^ t + x % 2 ^ t ≡ x = (let e = div-add-mod x (2 ^ t) in omega (arith, e)) in
    let back : i + t - t ≡ i = omega arith in
    sym (ap (λ n. bit_at n (i + t)) (sym whole) ∙ bit_at_cat_high (x / 2 ^ t) t (x % 2 ^ t) (i + t) (mod-lt x (pow_pos t)) (omega arith) ∙ ap (bit_at (x / 2 ^ t)) back)

-- bit i of word w is that of `distance` bits before it
abbrev pub IsMoved : (ℕ → ℕ) → (w distance word i : ℕ) → Type 0
IsMoved words w distance word i = (bit_at word i ≡ 1) ↔ (distance ≤ w * 64 + i × BitOf words (w * 64 + i - distance))

module _ (words : ℕ → ℕ) (w distance whole bits : ℕ) (is_whole : whole ≡ distance / 64) (is_bits : bits ≡ distance % 64) where
  -- the bits of one word
  upper_high : (upper i : ℕ) → whole ≤ w → upper ≡ words (w - whole) * 2 ^ bits % 2 ^ 64 → bits ≤ i → i < 64 → IsMoved words w distance upper i
  upper_high upper i more is above l =
      let bit : bit_at upper i ≡ bit_at (words (w - whole)) (i - bits) = ap (λ n. bit_at n i) is ∙ up_high (words (w - whole)) bits i above l in
      let far : distance ≤ w * 64 + i = omega (arith, more, above, is_whole, is_bits) in
      let word : (w * 64 + i - distance) / 64 ≡ w - whole = omega (arith, more, above, l, is_whole, is_bits) in
      let at : (w * 64 + i - distance) % 64 ≡ i - bits = omega (arith, more, above, l, is_whole, is_bits) in
      let same : bit_at (words ((w * 64 + i - distance) / 64)) ((w * 64 + i - distance) % 64) ≡ bit_at upper i = ap (λ n. bit_at (words n) ((w * 64 + i - distance) % 64)) word ∙ ap (bit_at (words (w - whole))) at ∙ sym bit in
      ((λ h. (far, same ∙ h)), (λ m. sym same ∙ m.1))

  upper_low : (upper i : ℕ) → upper ≡ words (w - whole) * 2 ^ bits % 2 ^ 64 → i < bits → i < 64 → bit_at upper i ≡ 1 → ⊥
  upper_low upper i is below l h = (let none = ap (λ n. bit_at n i) is ∙ up_low (words (w - whole)) bits i below l in absurd (omega (arith, none, h)))

  -- where no bit of the word before is needed
  pub moved_one : (upper : ℕ) → whole ≤ w → upper ≡ words (w - whole) * 2 ^ bits % 2 ^ 64 → (bits ≡ 0) ⊎ (w ≡ whole) → (i : ℕ) → i < 64 → IsMoved words w distance upper i
  moved_one upper more is either i l = elim (below_or_not i bits) [
    | inl k ↦ elim either [
      | inl none ↦ absurd (omega (arith, k, none))
      | inr same ↦ ((λ h. absurd (upper_low upper i is k l h)), (λ m. let far = m.0 in absurd (omega (arith, far, same, k, is_whole, is_bits))))
    ]
    | inr k ↦ upper_high upper i more is k l
  ]

  pub moved_two : (upper lower : ℕ) → whole < w → 0 < bits → words (w - whole - 1) < 2 ^ 64 → upper ≡ words (w - whole) * 2 ^ bits % 2 ^ 64 → lower ≡ words (w - whole - 1) / 2 ^ (64 - bits) → (i : ℕ) → i < 64 → IsMoved words w distance (bit_or upper lower) i
  moved_two upper lower more some small is low i l =
      let bit : bit_at lower i ≡ bit_at (words (w - whole - 1)) (i + (64 - bits)) = ap (λ n. bit_at n i) low ∙ down (words (w - whole - 1)) (64 - bits) i in
      elim (below_or_not i bits) [
        | inl k ↦
            (let far : distance ≤ w * 64 + i = omega (arith, more, is_whole, is_bits) in
            let word : (w * 64 + i - distance) / 64 ≡ w - whole - 1 = omega (arith, more, k, l, is_whole, is_bits) in
            let at : (w * 64 + i - distance) % 64 ≡ i + (64 - bits) = omega (arith, more, k, l, is_whole, is_bits) in
            let same : bit_at (words ((w * 64 + i - distance) / 64)) ((w * 64 + i - distance) % 64) ≡ bit_at lower i = ap (λ n. bit_at (words n) ((w * 64 + i - distance) % 64)) word ∙ ap (bit_at (words (w - whole - 1))) at ∙ sym bit in (
              (λ h. elim (or_either upper lower i h) [ inl u ↦ absurd (upper_low upper i is k l u) | inr d ↦ (far, same ∙ d) ]),
              (λ m. or_right upper lower i (sym same ∙ m.1)),
            ))
        | inr k ↦
            (let none = bit_at_above (words (w - whole - 1)) 64 (i + (64 - bits)) small (omega (arith, k, is_bits)) in
            let high = upper_high upper i (omega (arith, more)) is k l in (
              (λ h. elim (or_either upper lower i h) [ inl u ↦ high.0 u | inr d ↦ absurd (omega (arith, none, d, bit)) ]),
              (λ m. or_left upper lower i (high.1 m)),
            ))
      ]

-- ---- one more word

pub pushed_at : (first : ℕ) (words : List ℕ) (x n : ℕ) → first + length words ≡ n → word_of first (words ++ x ∷ []) n ≡ x
pushed_at first words x n e = word_in first (words ++ x ∷ []) n (omega (arith, e)) ∙ get_or_push words x 0 (n - first) (omega (arith, e))

pub pushed_rest : (first : ℕ) (words : List ℕ) (x n : ℕ) → first + length words ≡ n → (v : ℕ) → v ≢ n → word_of first (words ++ x ∷ []) v ≡ word_of first words v
pushed_rest first words x n e v d = elim (below_or_not v n) [
  | inl k ↦ elim (below_or_not v first) [
    | inl l ↦ word_before first (words ++ x ∷ []) v l ∙ sym (word_before first words v l)
    | inr l ↦ word_in first (words ++ x ∷ []) v l ∙ get_or_append_left words (x ∷ []) 0 (v - first) (omega (arith, k, l, e)) ∙ sym (word_in first words v l)
  ]
  | inr k ↦ (let size = length_push words x in let past : n < v = omega (arith, k, d) in word_behind first (words ++ x ∷ []) v (omega (arith, past, size, e)) ∙ sym (word_behind first words v (omega (arith, k, e))))
]

-- the word has what is moved to it, and is in the other set too
module _ (one other old new : ℕ → ℕ) (n distance up out : ℕ) (at : new n ≡ bit_and up out) (none : old n ≡ 0) (rest : (v : ℕ) → v ≢ n → new v ≡ old v) (moved : (i : ℕ) → i < 64 → IsMoved one n distance up i) (is : out ≡ other n) where
  put_at : new n ≡ bit_or (old n) (bit_and up out)
  put_at = at ∙ sym (ap (λ k. bit_or k (bit_and up out)) none ∙ or_zero_l (bit_and up out))

  position_of : (q : ℕ) → q / 64 ≡ n → n * 64 + q % 64 ≡ q
  position_of q e = omega (arith, e)

  pub within_sound : ((q : ℕ) → BitOf old q → distance ≤ q × BitOf one (q - distance) × BitOf other q) → (q : ℕ) → BitOf new q → distance ≤ q × BitOf one (q - distance) × BitOf other q
  within_sound f q h = elim (put_new old new n (bit_and up out) put_at rest q h) [
    | inl i ↦ f q i
    | inr i ↦
        (let m = (moved (q % 64) (omega arith)).0 (both_left up out (q % 64) i.1) in
        let here = position_of q i.0 in
        (subst (λ k. distance ≤ k) here m.0, subst (λ k. BitOf one (k - distance)) here m.1, bit_of_word other n out q (sym is) i.0 (both_right up out (q % 64) i.1)))
  ]

  pub within_complete : (first : ℕ) → ((q : ℕ) → first ≤ q / 64 → q / 64 < n → distance ≤ q → BitOf one (q - distance) → BitOf other q → BitOf old q) → (q : ℕ) → first ≤ q / 64 → q / 64 < n + 1 → distance ≤ q → BitOf one (q - distance) → BitOf other q → BitOf new q
  within_complete first f q from l far a b = elim (next_or_below (q / 64) n l) [
    | inl k ↦ put_old old new n (bit_and up out) put_at rest q (f q from k far a b)
    | inr e ↦
        (let here = sym (position_of q e) in
        put_there old new n (bit_and up out) put_at rest q e
        (both up out (q % 64) ((moved (q % 64) (omega arith)).1 (subst (λ k. distance ≤ k) here far, subst (λ k. BitOf one (k - distance)) here a)) (word_bit other n out q (sym is) e b)))
  ]
