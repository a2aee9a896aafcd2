-- The positions of the set bits of a word, lowest first.
use Rattle.std.proofs.Common.{◌≡◌, ℕ, zero, suc, ◌+◌, ◌-◌, ◌^◌, ◌<◌, ◌≤◌, ◌==◌, Bool, true, false, cond, List, [], ◌∷◌, ◌++◌, length, refl, sym, ap, ap₂, ◌∙◌, arith, w64, ◌⊎◌, inl, inr}
use Rattle.std.specs.List.{filter, range_with_len}
use Rattle.std.specs.Int.{trailing_zeros}
use lib.Bits.{bit_and}
use Rattle.std.proofs.lemmas.Bool.{cases_lt}
use Rattle.std.proofs.lemmas.Bool.Decides.{eqb_tells}
use Rattle.jp_lanes.specs.Word.{bit}
use Rattle.jp_model.proofs.LowestBit.{lowest, is_cleared, is_kept}
use Rattle.jp_masks.specs.Positions.{set_bits}
use Rattle.jp_masks.proofs.Bits.{bit_zero}

pub filter_same : (p q : ℕ → Bool) (a n : ℕ) → ((i : ℕ) → a ≤ i → i < a + n → p i ≡ q i) → filter p (range_with_len a n) ≡ filter q (range_with_len a n)
filter_same p q a zero same = refl
filter_same p q a (suc n) same =
    let here = same a (omega arith) (omega arith) in
    let rest = filter_same p q (a + 1) n (λ i low high. same i (omega arith) (omega arith)) in
    λ t. cond (here t) (a ∷ rest t) (rest t)

pub filter_none : (p : ℕ → Bool) (a n : ℕ) → ((i : ℕ) → a ≤ i → i < a + n → p i ≡ false) → filter p (range_with_len a n) ≡ []
filter_none p a zero none = refl
filter_none p a (suc n) none =
    ap (λ x. cond x (a ∷ filter p (range_with_len (a + 1) n)) (filter p (range_with_len (a + 1) n))) (none a (omega arith) (omega arith))
    ∙ filter_none p (a + 1) n (λ i low high. none i (omega arith) (omega arith))

-- the first that passes comes first
pub filter_first : (p q : ℕ → Bool) (first a n : ℕ) → a ≤ first → first < a + n → p first ≡ true → q first ≡ false
    → ((i : ℕ) → a ≤ i → i < first → p i ≡ false) → ((i : ℕ) → a ≤ i → i < a + n → (i ≡ first → ⊥) → q i ≡ p i)
    → filter p (range_with_len a n) ≡ first ∷ filter q (range_with_len a n)
filter_first p q first a zero low high there gone none same = let no : ⊥ = omega arith in absurd no
filter_first p q first a (suc n) low high there gone none same =
    go (cases_lt a first)
    (λ below. filter_first p q first (a + 1) n (omega arith) (omega arith) there gone (λ i l h. none i (omega arith) h) (λ i l h other. same i (omega arith) (omega arith) other))
  where
    rest : (ℕ → Bool) → List ℕ
    rest r = filter r (range_with_len (a + 1) n)

    go : (a < first) ⊎ (first ≤ a) → (a < first → rest p ≡ first ∷ rest q) → filter p (range_with_len a (suc n)) ≡ first ∷ filter q (range_with_len a (suc n))
    go (inl below) later =
        let p_clear : p a ≡ false = none a (omega arith) below in
        let q_clear : q a ≡ false = same a (omega arith) (omega arith) (λ e. omega arith) ∙ p_clear in
        ap (λ x. cond x (a ∷ rest p) (rest p)) p_clear ∙ later below ∙ sym (ap (λ x. first ∷ cond x (a ∷ rest q) (rest q)) q_clear)
    go (inr above) later =
        let here : a ≡ first = omega arith in
        let p_set : p a ≡ true = ap p here ∙ there in
        let q_clear : q a ≡ false = ap q here ∙ gone in
        let agree : rest p ≡ rest q = filter_same p q (a + 1) n (λ i l h. sym (same i (omega arith) (omega arith) (λ e. omega arith))) in
        ap (λ x. cond x (a ∷ rest p) (rest p)) p_set ∙ ap₂ (λ x y. x ∷ y) here agree ∙ sym (ap (λ x. first ∷ cond x (a ∷ rest q) (rest q)) q_clear)

-- one that passes parts those that pass
pub filter_split : (p below above : ℕ → Bool) (position a n : ℕ) → a ≤ position → position < a + n → p position ≡ true
    → ((i : ℕ) → i < position → below i ≡ p i) → ((i : ℕ) → position ≤ i → i < a + n → below i ≡ false)
    → ((i : ℕ) → i ≤ position → above i ≡ false) → ((i : ℕ) → position < i → i < a + n → above i ≡ p i)
    → filter p (range_with_len a n) ≡ filter below (range_with_len a n) ++ position ∷ filter above (range_with_len a n)
filter_split p below above position a zero low high there b0 b1 a0 a1 = let no : ⊥ = omega arith in absurd no
filter_split p below above position a (suc n) low high there b0 b1 a0 a1 =
    go (cases_lt a position) (λ later. filter_split p below above position (a + 1) n (omega arith) (omega arith) there b0 (λ i l h. b1 i l (omega arith)) a0 (λ i l h. a1 i l (omega arith)))
  where
    rest : (ℕ → Bool) → List ℕ
    rest r = filter r (range_with_len (a + 1) n)

    taken : (b : Bool) (w x y : List ℕ) → w ≡ x ++ position ∷ y → cond b (a ∷ w) w ≡ cond b (a ∷ x) x ++ position ∷ y
    taken true w x y e = ap (λ l. a ∷ l) e
    taken false w x y e = e

    go : (a < position) ⊎ (position ≤ a) → (a < position → rest p ≡ rest below ++ position ∷ rest above) → filter p (range_with_len a (suc n)) ≡ filter below (range_with_len a (suc n)) ++ position ∷ filter above (range_with_len a (suc n))
    go (inl before) later =
        taken (p a) (rest p) (rest below) (rest above) (later before)
        ∙ sym (λ t. cond (b0 a before t) (a ∷ rest below) (rest below) ++ position ∷ cond (a0 a (omega arith) t) (a ∷ rest above) (rest above))
    go (inr behind) later =
        let here : a ≡ position = omega arith in
        let set : p a ≡ true = ap p here ∙ there in
        let agree : rest p ≡ rest above = filter_same p above (a + 1) n (λ i l h. sym (a1 i (omega arith) (omega arith))) in
        let nothing : rest below ≡ [] = filter_none below (a + 1) n (λ i l h. b1 i (omega arith) (omega arith)) in
        ap (λ x. cond x (a ∷ rest p) (rest p)) set ∙ ap₂ (λ x y. x ∷ y) here agree
        ∙ sym (λ t. cond (b1 a (omega arith) (omega arith) t) (a ∷ nothing t) (nothing t) ++ position ∷ cond (a0 a (omega arith) t) (a ∷ rest above) (rest above))

-- `word & (word - 1)`
abbrev pub without_lowest : ℕ → ℕ
without_lowest word = bit_and word (word - 1)

module _ (word : ℕ) (some : 0 < word) (small : word < 2 ^ 64) where
  pub lowest_within : trailing_zeros w64 word < 64
  lowest_within = (lowest word some small).0

  pub lowest_set : bit word (trailing_zeros w64 word) ≡ true
  unfolding bit
  lowest_set = ap (λ n. n == 1) (lowest word some small).1

  pub none_below : (i : ℕ) → i < trailing_zeros w64 word → bit word i ≡ false
  unfolding bit
  none_below i low = ap (λ n. n == 1) ((lowest word some small).2 i low)

  pub lowest_gone : bit (without_lowest word) (trailing_zeros w64 word) ≡ false
  unfolding bit
  lowest_gone = ap (λ n. n == 1) (is_cleared word some small)

  pub others_stay : (i : ℕ) → (i ≡ trailing_zeros w64 word → ⊥) → bit (without_lowest word) i ≡ bit word i
  unfolding bit
  others_stay i other = ap (λ n. n == 1) (is_kept word some small i other)

  -- a bit that is left was there
  pub was_there : (i : ℕ) → bit (without_lowest word) i ≡ true → bit word i ≡ true
  was_there i set = go (eqb_tells i (trailing_zeros w64 word))
    where
      go : ((i == trailing_zeros w64 word) ≡ true) × (i ≡ trailing_zeros w64 word) ⊎ ((i == trailing_zeros w64 word) ≡ false) × (i ≡ trailing_zeros w64 word → ⊥) → bit word i ≡ true
      go (inl is) = ap (bit word) is.1 ∙ lowest_set
      go (inr not_it) = sym (others_stay i not_it.1) ∙ set

  pub lowest_first : set_bits word ≡ trailing_zeros w64 word ∷ set_bits (without_lowest word)
  unfolding set_bits
  lowest_first =
      filter_first (bit word) (bit (without_lowest word)) (trailing_zeros w64 word) 0 64 (omega arith) (omega (arith, lowest_within)) lowest_set lowest_gone
      (λ i low below. none_below i below) (λ i low within other. others_stay i other)

pub set_bits_none : set_bits 0 ≡ []
unfolding set_bits
set_bits_none = filter_none (bit 0) 0 64 (λ i low high. bit_zero i)

-- no more pass than there are
pub length-filter_range : (p : ℕ → Bool) (a n : ℕ) → length (filter p (range_with_len a n)) ≤ n
length-filter_range p a zero = omega arith
length-filter_range p a (suc n) = one (p a) (length-filter_range p (a + 1) n)
  where
    one : (b : Bool) → length (filter p (range_with_len (a + 1) n)) ≤ n → length (cond b (a ∷ filter p (range_with_len (a + 1) n)) (filter p (range_with_len (a + 1) n))) ≤ suc n
    one true short = omega arith
    one false short = omega arith

pub length-set_bits : (word : ℕ) → length (set_bits word) ≤ 64
unfolding set_bits
length-set_bits word = length-filter_range (bit word) 0 64
