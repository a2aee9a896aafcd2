-- Words of sets of positions.
use Rattle.std.proofs.Common.{◌≡◌, ◌≢◌, ℕ, zero, suc, ◌+◌, ◌-◌, ◌*◌, ◌/◌, ◌%◌, ◌^◌, ◌<◌, ◌≤◌, ◌⊎◌, inl, inr, List, [], ◌∷◌, ◌++◌, length, get_or, bit_or, max, min, w64, arith, refl, sym, ◌∙◌, ap, subst}
use Rattle.std.proofs.lemmas.Bool.{le-leb, lt-leb}
use Rattle.std.specs.Int.{bit_at, bit_not, trailing_zeros}
use Rattle.std.specs.Int.Bits.{or_zero_r}
use lib.Bits.{bit_and}
use Rattle.std.proofs.lemmas.Nat.Bits.{bit_at_or, bit_at_and, bit_at_not, bit_at-lt, bit_at-zero, bit_at_set_same, bit_at_set_other, bit_at-trailing_zeros, bit_at_ones, bit_at_ones_above, ones_shr}
use Rattle.std.proofs.Math.ListN.{get_or-eq_default}
use Rattle.jp_iregexp.specs.declared.positions.PositionSet.{PositionSet}
use Rattle.jp_iregexp.specs.Words.{word_of}

-- two numbers are the same or they are not
pub same_or_not : (m n : ℕ) → (m ≡ n) ⊎ (m ≢ n)
same_or_not zero zero = inl refl
same_or_not zero (suc n) = inr (λ e. cc)
same_or_not (suc m) zero = inr (λ e. cc)
same_or_not (suc m) (suc n) = elim (same_or_not m n) [ inl e ↦ inl (ap suc e) | inr d ↦ inr (λ e. d (cc)) ]

pub below_or_not : (m n : ℕ) → (m < n) ⊎ (n ≤ m)
below_or_not zero zero = inr (omega arith)
below_or_not zero (suc n) = inl (omega arith)
below_or_not (suc m) zero = inr (omega arith)
below_or_not (suc m) (suc n) = elim (below_or_not m n) [ inl l ↦ inl (omega (arith, l)) | inr l ↦ inr (omega (arith, l)) ]

-- a bit of an `or` is that of one side or of the other
pub or_left : (a b i : ℕ) → bit_at a i ≡ 1 → bit_at (bit_or a b) i ≡ 1
or_left a b i h = let l : bit_at b i < 2 = bit_at-lt b i in let e = bit_at_or a b i in omega arith

pub or_right : (a b i : ℕ) → bit_at b i ≡ 1 → bit_at (bit_or a b) i ≡ 1
or_right a b i h = let l : bit_at a i < 2 = bit_at-lt a i in let e = bit_at_or a b i in omega arith

max_is : (m n : ℕ) → m < 2 → max m n ≡ 1 → (m ≡ 1) ⊎ (n ≡ 1)
max_is zero n l h = inr (omega (arith, h))
max_is (suc zero) n l h = inl refl
max_is (suc (suc m)) n l h = absurd (omega arith)

pub or_either : (a b i : ℕ) → bit_at (bit_or a b) i ≡ 1 → (bit_at a i ≡ 1) ⊎ (bit_at b i ≡ 1)
or_either a b i h = max_is (bit_at a i) (bit_at b i) (bit_at-lt a i) (sym (bit_at_or a b i) ∙ h)

-- ---- words that are kept from the first one on

pub word_in : (first : ℕ) (words : List ℕ) (w : ℕ) → first ≤ w → word_of first words w ≡ get_or words (w - first) 0
word_in first words w l = rw (le-leb first w l) refl

pub word_before : (first : ℕ) (words : List ℕ) (w : ℕ) → w < first → word_of first words w ≡ 0
word_before first words w l = rw (lt-leb first w l) refl

pub word_behind : (first : ℕ) (words : List ℕ) (w : ℕ) → first + length words ≤ w → word_of first words w ≡ 0
word_behind first words w l = word_in first words w (omega (arith, l)) ∙ get_or-eq_default words 0 (omega (arith, l))

pub word_kept : (first : ℕ) (words : List ℕ) (i : ℕ) → word_of first words (first + i) ≡ get_or words i 0
word_kept first words i =
    let at : first + i - first ≡ i = omega arith in
    word_in first words (first + i) (omega arith) ∙ ap (λ k. get_or words k 0) at

one_zero_more : (words : List ℕ) (i : ℕ) → get_or (words ++ 0 ∷ []) i 0 ≡ get_or words i 0
one_zero_more [] zero = refl
one_zero_more [] (suc i) = refl
one_zero_more (w ∷ words) zero = refl
one_zero_more (w ∷ words) (suc i) = one_zero_more words i

-- a 0 after the words changes none
pub word_pushed : (first : ℕ) (words : List ℕ) (w : ℕ) → word_of first (words ++ 0 ∷ []) w ≡ word_of first words w
word_pushed first words w = elim (below_or_not w first) [
  | inl l ↦ word_before first (words ++ 0 ∷ []) w l ∙ sym (word_before first words w l)
  | inr l ↦ word_in first (words ++ 0 ∷ []) w l ∙ one_zero_more words (w - first) ∙ sym (word_in first words w l)
]

-- ---- bits put into a word

abbrev pub BitOf : (ℕ → ℕ) → ℕ → Type 0
BitOf words q = bit_at (words (q / 64)) (q % 64) ≡ 1

module _ (old new : ℕ → ℕ) (w bits : ℕ) (at : new w ≡ bit_or (old w) bits) (rest : (v : ℕ) → v ≢ w → new v ≡ old v) where
  pub put_old : (q : ℕ) → BitOf old q → BitOf new q
  put_old q h = elim (same_or_not (q / 64) w) [
    | inl e ↦ subst (λ v. bit_at (new v) (q % 64) ≡ 1) (sym e) (subst (λ k. bit_at k (q % 64) ≡ 1) (sym at) (or_left (old w) bits (q % 64) (subst (λ v. bit_at (old v) (q % 64) ≡ 1) e h)))
    | inr d ↦ subst (λ k. bit_at k (q % 64) ≡ 1) (sym (rest (q / 64) d)) h
  ]

  pub put_there : (q : ℕ) → q / 64 ≡ w → bit_at bits (q % 64) ≡ 1 → BitOf new q
  put_there q e h = subst (λ v. bit_at (new v) (q % 64) ≡ 1) (sym e) (subst (λ k. bit_at k (q % 64) ≡ 1) (sym at) (or_right (old w) bits (q % 64) h))

  pub put_new : (q : ℕ) → BitOf new q → BitOf old q ⊎ ((q / 64 ≡ w) × (bit_at bits (q % 64) ≡ 1))
  put_new q h = elim (same_or_not (q / 64) w) [
    | inl e ↦ elim (or_either (old w) bits (q % 64) (subst (λ k. bit_at k (q % 64) ≡ 1) at (subst (λ v. bit_at (new v) (q % 64) ≡ 1) e h))) [
      | inl i ↦ inl (subst (λ v. bit_at (old v) (q % 64) ≡ 1) (sym e) i)
      | inr i ↦ inr (e, i)
    ]
    | inr d ↦ inl (subst (λ k. bit_at k (q % 64) ≡ 1) (rest (q / 64) d) h)
  ]

-- one bit
shifted_same : (p : ℕ) → bit_at (1 * 2 ^ (p % 64) % 2 ^ 64) (p % 64) ≡ 1
shifted_same p =
    let below : p % 64 < 64 = omega arith in
    let one = bit_at_set_same w64 0 (p % 64) below in
    let none = bit_at-zero (p % 64) in
    let e = bit_at_or 0 (1 * 2 ^ (p % 64) % 2 ^ 64) (p % 64) in
    elim (or_either 0 (1 * 2 ^ (p % 64) % 2 ^ 64) (p % 64) one) [ inl i ↦ absurd (omega (arith, i, none)) | inr i ↦ i ]

shifted_only : (p q : ℕ) → bit_at (1 * 2 ^ (p % 64) % 2 ^ 64) (q % 64) ≡ 1 → q % 64 ≡ p % 64
shifted_only p q h = elim (same_or_not (q % 64) (p % 64)) [
  | inl e ↦ e
  | inr d ↦
      (let below : p % 64 < 64 = omega arith in
      let other = bit_at_set_other w64 0 (p % 64) below (q % 64) d in
      let there = or_right 0 (1 * 2 ^ (p % 64) % 2 ^ 64) (q % 64) h in
      let none = bit_at-zero (q % 64) in
      absurd (omega (arith, other, there, none)))
]

module _ (old new : ℕ → ℕ) (p : ℕ) (at : new (p / 64) ≡ bit_or (old (p / 64)) (1 * 2 ^ (p % 64) % 2 ^ 64)) (rest : (v : ℕ) → v ≢ p / 64 → new v ≡ old v) where
  pub one_same : BitOf new p
  one_same = put_there old new (p / 64) (1 * 2 ^ (p % 64) % 2 ^ 64) at rest p refl (shifted_same p)

  pub one_old : (q : ℕ) → BitOf old q → BitOf new q
  one_old q h = put_old old new (p / 64) (1 * 2 ^ (p % 64) % 2 ^ 64) at rest q h

  pub one_new : (q : ℕ) → BitOf new q → (q ≡ p) ⊎ BitOf old q
  one_new q h = elim (put_new old new (p / 64) (1 * 2 ^ (p % 64) % 2 ^ 64) at rest q h) [
    | inl i ↦ inr i
    | inr i ↦ (let word = i.0 in let bit = shifted_only p q i.1 in inl (omega (arith, word, bit)))
  ]

-- no bit is put in
pub or_none : (a b : ℕ) → b ≡ 0 → a ≡ bit_or a b
or_none a b e = sym (subst (λ k. bit_or a k ≡ a) (sym e) (or_zero_r a))

-- the bits of a word that are not in another one
pub left_over : (a b i : ℕ) → b < 2 ^ 64 → i < 64 → bit_at (bit_and a (bit_not w64 b)) i ≡ min (bit_at a i) (1 - bit_at b i)
left_over a b i small below = bit_at_and a (bit_not w64 b) i ∙ ap (min (bit_at a i)) (bit_at_not w64 b i small below)

pub left_in : (a b i : ℕ) → b < 2 ^ 64 → i < 64 → bit_at (bit_and a (bit_not w64 b)) i ≡ 1 → bit_at a i ≡ 1
left_in a b i small below h = (let e = left_over a b i small below in let l = bit_at-lt a i in omega (arith, e, h, l))

pub left_or : (a b i : ℕ) → b < 2 ^ 64 → i < 64 → bit_at a i ≡ 1 → (bit_at (bit_and a (bit_not w64 b)) i ≡ 1) ⊎ (bit_at b i ≡ 1)
left_or a b i small below h = elim (same_or_not (bit_at b i) 1) [
  | inl e ↦ inr e
  | inr d ↦ (let e = left_over a b i small below in let l = bit_at-lt b i in let none : bit_at b i ≡ 0 = omega (arith, l, d) in inl (omega (arith, e, h, none)))
]

-- a word that is not 0 has a position
pub some_bit : (words : ℕ → ℕ) (w word : ℕ) → 0 < word → word < 2 ^ 64 → words w ≡ word → (p : ℕ) × BitOf words p
some_bit words w word some small e =
    let low = bit_at-trailing_zeros w64 word some small in
    let k = trailing_zeros w64 word in
    let below : k < 64 = low.0 in
    let at : (w * 64 + k) / 64 ≡ w = omega (arith, below) in
    let bit : (w * 64 + k) % 64 ≡ k = omega (arith, below) in
    (w * 64 + k, subst (λ v. bit_at (words v) ((w * 64 + k) % 64) ≡ 1) (sym at) (subst (λ i. bit_at (words w) i ≡ 1) (sym bit) (subst (λ x. bit_at x k ≡ 1) (sym e) (low.1))))

pub no_bit : (words : ℕ → ℕ) (q : ℕ) → words (q / 64) ≡ 0 → BitOf words q → ⊥
no_bit words q e h = (let n = bit_at-zero (q % 64) in let z : bit_at 0 (q % 64) ≡ 1 = subst (λ x. bit_at x (q % 64) ≡ 1) e h in absurd (omega (arith, n, z)))

-- ---- word by word

pub next_or_below : (m n : ℕ) → m < n + 1 → (m < n) ⊎ (m ≡ n)
next_or_below m n l = elim (same_or_not m n) [ inl e ↦ inr e | inr d ↦ inl (omega (arith, l, d)) ]

pub word_bit : (words : ℕ → ℕ) (n word q : ℕ) → words n ≡ word → q / 64 ≡ n → BitOf words q → bit_at word (q % 64) ≡ 1
word_bit words n word q kept e h = subst (λ x. bit_at x (q % 64) ≡ 1) kept (subst (λ v. bit_at (words v) (q % 64) ≡ 1) e h)

pub bit_of_word : (words : ℕ → ℕ) (n word q : ℕ) → words n ≡ word → q / 64 ≡ n → bit_at word (q % 64) ≡ 1 → BitOf words q
bit_of_word words n word q kept e h = subst (λ v. bit_at (words v) (q % 64) ≡ 1) (sym e) (subst (λ x. bit_at x (q % 64) ≡ 1) (sym kept) h)

-- the words of a set, by their numbers
abbrev pub words_in : PositionSet → ℕ → ℕ
words_in set w = word_of set.first set.words.items w

pub kept_in : (set : PositionSet) (items : List ℕ) (i : ℕ) → items ≡ set.words.items → words_in set (set.first + i) ≡ get_or items i 0
kept_in set items i is = word_kept set.first set.words.items i ∙ ap (λ x. get_or x i 0) (sym is)

-- a word of the other set is put in
module _ (start other old new : ℕ → ℕ) (n word : ℕ) (kept : other n ≡ word) (at : new n ≡ bit_or (old n) word) (rest : (v : ℕ) → v ≢ n → new v ≡ old v) where
  pub add_old : ((q : ℕ) → BitOf start q → BitOf old q) → (q : ℕ) → BitOf start q → BitOf new q
  add_old f q h = put_old old new n word at rest q (f q h)

  pub add_added : ((q : ℕ) → q / 64 < n → BitOf other q → BitOf old q) → (q : ℕ) → q / 64 < n + 1 → BitOf other q → BitOf new q
  add_added f q l h = elim (next_or_below (q / 64) n l) [
    | inl k ↦ put_old old new n word at rest q (f q k h)
    | inr e ↦ put_there old new n word at rest q e (word_bit other n word q kept e h)
  ]

  pub add_new : ((q : ℕ) → BitOf old q → BitOf start q ⊎ BitOf other q) → (q : ℕ) → BitOf new q → BitOf start q ⊎ BitOf other q
  add_new f q h = elim (put_new old new n word at rest q h) [
    | inl i ↦ f q i
    | inr i ↦ inr (bit_of_word other n word q kept i.0 i.1)
  ]

-- what a word has beside the other set's word is put in
module _ (one other old new : ℕ → ℕ) (n word out : ℕ) (kept : one n ≡ word) (is : out ≡ other n) (small : out < 2 ^ 64) (at : new n ≡ bit_or (old n) (bit_and word (bit_not w64 out))) (rest : (v : ℕ) → v ≢ n → new v ≡ old v) where
  pub without_sound : ((q : ℕ) → BitOf old q → BitOf one q) → (q : ℕ) → BitOf new q → BitOf one q
  without_sound f q h = elim (put_new old new n (bit_and word (bit_not w64 out)) at rest q h) [
    | inl i ↦ f q i
    | inr i ↦ bit_of_word one n word q kept i.0 (left_in word out (q % 64) small (omega arith) i.1)
  ]

  pub without_complete : ((q : ℕ) → q / 64 < n → BitOf one q → BitOf old q ⊎ BitOf other q) → (q : ℕ) → q / 64 < n + 1 → BitOf one q → BitOf new q ⊎ BitOf other q
  without_complete f q l h = elim (next_or_below (q / 64) n l) [
    | inl k ↦ elim (f q k h) [ inl i ↦ inl (put_old old new n (bit_and word (bit_not w64 out)) at rest q i) | inr i ↦ inr i ]
    | inr e ↦ elim (left_or word out (q % 64) small (omega arith) (word_bit one n word q kept e h)) [
      | inl i ↦ inl (put_there old new n (bit_and word (bit_not w64 out)) at rest q e i)
      | inr i ↦ inr (bit_of_word other n out q (sym is) e i)
    ]
  ]

-- no bit is before the words that are kept, or after them
pub bit_in_front : (first : ℕ) (words : List ℕ) (q : ℕ) → q / 64 < first + 0 → BitOf (word_of first words) q → ⊥
bit_in_front first words q l h = no_bit (word_of first words) q (word_before first words (q / 64) (omega (arith, l))) h

pub bit_behind : (first : ℕ) (words : List ℕ) (q : ℕ) → first + length words ≤ q / 64 → BitOf (word_of first words) q → ⊥
bit_behind first words q l h = no_bit (word_of first words) q (word_behind first words (q / 64) l) h

-- ---- the first bits of a word

first_ones : (last : ℕ) → last < 64 → 18446744073709551615 / 2 ^ (63 - last) ≡ 2 ^ (last + 1) - 1
first_ones last below =
    let size : 64 - (63 - last) ≡ last + 1 = omega (arith, below) in
    ones_shr 64 (63 - last) (omega arith) ∙ ap (λ k. 2 ^ k - 1) size

pub first_bits_within : (last i word : ℕ) → last < 64 → word ≡ 18446744073709551615 / 2 ^ (63 - last) → bit_at word i ≡ 1 → i ≤ last
first_bits_within last i word below is h = elim (below_or_not last i) [
  | inl l ↦ absurd (let none = bit_at_ones_above (last + 1) i (omega (arith, l)) in let some : bit_at (2 ^ (last + 1) - 1) i ≡ 1 = subst (λ n. bit_at n i ≡ 1) (is ∙ first_ones last below) h in omega (arith, none, some))
  | inr l ↦ l
]

pub first_bits_each : (last i word : ℕ) → last < 64 → word ≡ 18446744073709551615 / 2 ^ (63 - last) → i ≤ last → bit_at word i ≡ 1
first_bits_each last i word below is l = subst (λ n. bit_at n i ≡ 1) (sym (is ∙ first_ones last below)) (bit_at_ones (last + 1) i (omega (arith, l)))
