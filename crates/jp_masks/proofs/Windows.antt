-- Runs and sums of bits, by windows that double.
use Rattle.std.proofs.Common.{◌≡◌, ℕ, zero, suc, ◌+◌, ◌-◌, ◌<◌, ◌≤◌, Bool, true, false, not, ◌&&◌, ◌||◌, cond, refl, sym, ap, ap₂, ◌∙◌, arith, suc-add, zero-add, add-one, ◌⊎◌, inl, inr}
use Rattle.std.proofs.lemmas.Bool.{cases_lt, false≢true}
use lib.Bits.{bit_and, bit_or, bit_xor}
use Rattle.jp_lanes.specs.Word.{bit, Says}
use Rattle.jp_lanes.proofs.Cases.{of_three}
use Rattle.jp_masks.specs.Machine.{xor}
use Rattle.jp_masks.specs.Runs.{odd_run, parity}
use Rattle.jp_lanes.proofs.Words.{bit-or}
use Rattle.jp_masks.proofs.Bits.{bit-and, bit-xor, bit-not, flipped, shifted, shifted_lt, bit-shifted_low, bit-shifted_high}

-- the k bits directly before bit i are all set
abbrev pub all_before : ℕ → ℕ → ℕ → Bool
all_before word i zero = true
all_before word zero (suc k) = false
all_before word (suc i) (suc k) = bit word i && all_before word i k

-- an odd number of set bits stands directly before bit i, when no more than k are looked at
abbrev pub odd_within : ℕ → ℕ → ℕ → Bool
odd_within word i zero = false
odd_within word zero (suc k) = false
odd_within word (suc i) (suc k) = bit word i && not (odd_within word i k)

-- the xor of the k bits directly before bit i
abbrev pub xor_within : ℕ → ℕ → ℕ → Bool
xor_within word i zero = false
xor_within word zero (suc k) = false
xor_within word (suc i) (suc k) = xor (xor_within word i k) (bit word i)

abbrev is_odd : ℕ → Bool
is_odd zero = false
is_odd (suc k) = not (is_odd k)

and-assoc : (a b c : Bool) → (a && (b && c)) ≡ ((a && b) && c)
and-assoc true b c = refl
and-assoc false b c = refl

and-true : (a : Bool) → (a && true) ≡ a
and-true true = refl
and-true false = refl

and-false : (a : Bool) → (a && false) ≡ false
and-false true = refl
and-false false = refl

or-false : (a : Bool) → (a || false) ≡ a
or-false true = refl
or-false false = refl

xor_shuffle : (a b c : Bool) → xor (xor a b) c ≡ xor (xor a c) b
xor_shuffle = of_three (λ a b c. xor (xor a b) c ≡ xor (xor a c) b) refl refl refl refl refl refl refl refl

-- ---- two windows, one below the other

all_before-add : (word i k m : ℕ) → all_before word i (k + m) ≡ (all_before word i k && all_before word (i - k) m)
all_before-add word i zero m = ap₂ (all_before word) (omega arith) (zero-add m)
all_before-add word zero (suc k) m = ap (all_before word zero) (suc-add k m)
all_before-add word (suc i) (suc k) m =
    let down : i - k ≡ suc i - suc k = omega arith in
    ap (all_before word (suc i)) (suc-add k m) ∙ ap (λ x. bit word i && x) (all_before-add word i k m)
    ∙ and-assoc (bit word i) (all_before word i k) (all_before word (i - k) m) ∙ ap (λ j. (bit word i && all_before word i k) && all_before word j m) down

all_before_short : (word i k : ℕ) → i < k → all_before word i k ≡ false
all_before_short word i zero short = let no : ⊥ = omega arith in absurd no
all_before_short word zero (suc k) short = refl
all_before_short word (suc i) (suc k) short = ap (λ x. bit word i && x) (all_before_short word i k (omega arith)) ∙ and-false (bit word i)

turn : (b full odd one other : Bool) → (b && not (cond full (xor one other) odd)) ≡ cond (b && full) (xor (not one) other) (b && not odd)
turn true true odd true other = ap not (refl) ∙ twice other
  where
    twice : (x : Bool) → not (not x) ≡ x
    twice true = refl
    twice false = refl
turn true true odd false other = refl
turn true false odd one other = refl
turn false full odd one other = refl

odd_within-add : (word i k m : ℕ) → odd_within word i (k + m) ≡ cond (all_before word i k) (xor (is_odd k) (odd_within word (i - k) m)) (odd_within word i k)
odd_within-add word i zero m = ap₂ (odd_within word) (omega arith) (zero-add m)
odd_within-add word zero (suc k) m = ap (odd_within word zero) (suc-add k m)
odd_within-add word (suc i) (suc k) m =
    let down : i - k ≡ suc i - suc k = omega arith in
    ap (odd_within word (suc i)) (suc-add k m) ∙ ap (λ x. bit word i && not x) (odd_within-add word i k m)
    ∙ turn (bit word i) (all_before word i k) (odd_within word i k) (is_odd k) (odd_within word (i - k) m)
    ∙ ap (λ j. cond (bit word i && all_before word i k) (xor (not (is_odd k)) (odd_within word j m)) (bit word i && not (odd_within word i k))) down

odd_of_full : (word i k : ℕ) → all_before word i k ≡ true → odd_within word i k ≡ is_odd k
odd_of_full word i zero full = refl
odd_of_full word zero (suc k) full = absurd (false≢true full)
odd_of_full word (suc i) (suc k) full = go (bit word i) full (odd_of_full word i k)
  where
    go : (b : Bool) → (b && all_before word i k) ≡ true → (all_before word i k ≡ true → odd_within word i k ≡ is_odd k) → (b && not (odd_within word i k)) ≡ not (is_odd k)
    go true h below = ap not (below h)
    go false h below = absurd (false≢true h)

pick : (full odd one other : Bool) → one ≡ false → (full ≡ true → odd ≡ one) → cond full (xor one other) odd ≡ (odd || (full && other))
pick true odd one other e h = ap (λ x. xor x other) e ∙ ap (λ x. x || other) (sym (h refl ∙ e))
pick false odd one other e h = sym (or-false odd)

-- below a window of an even number of bits
odd_within_even : (word i k m : ℕ) → is_odd k ≡ false → odd_within word i (k + m) ≡ (odd_within word i k || (all_before word i k && odd_within word (i - k) m))
odd_within_even word i k m even =
    odd_within-add word i k m ∙ pick (all_before word i k) (odd_within word i k) (is_odd k) (odd_within word (i - k) m) even (odd_of_full word i k)

odd_within_whole : (word i k : ℕ) → i ≤ k → odd_within word i k ≡ odd_run word i
unfolding odd_run
odd_within_whole word zero zero within = refl
odd_within_whole word zero (suc k) within = refl
odd_within_whole word (suc i) zero within = let no : ⊥ = omega arith in absurd no
odd_within_whole word (suc i) (suc k) within = ap (λ x. bit word i && not x) (odd_within_whole word i k (omega arith))

odd_of_two : (word i : ℕ) → odd_within word i 2 ≡ (all_before word i 1 && not (all_before word (i - 1) 1))
odd_of_two word zero = refl
odd_of_two word (suc zero) = ap (λ x. x && true) (sym (and-true (bit word 0)))
odd_of_two word (suc (suc i)) =
    let down : suc i ≡ suc (suc i) - 1 = omega arith in
    ap (λ x. x && not (bit word i && true)) (sym (and-true (bit word (suc i)))) ∙ ap (λ j. (bit word (suc i) && true) && not (all_before word j 1)) down

-- ---- words

abbrev pub TellsAll : ℕ → ℕ → ℕ → Type 0
TellsAll word k full = Says full (λ i. all_before word i k)

abbrev pub TellsOdd : ℕ → ℕ → ℕ → Type 0
TellsOdd word k odd = Says odd (λ i. odd_within word i k)

all_one : (word : ℕ) → TellsAll word 1 (shifted 1 word)
all_one word zero within = bit-shifted_low 1 word 0 (omega arith) within
all_one word (suc i) within =
    let down : suc i - 1 ≡ i = omega arith in
    bit-shifted_high 1 word (suc i) (omega arith) within ∙ ap (bit word) down ∙ sym (and-true (bit word i))

all_double : (word k full : ℕ) → TellsAll word k full → TellsAll word (k + k) (bit_and full (shifted k full))
all_double word k full tells i within = bit-and full (shifted k full) i ∙ go (cases_lt i k) ∙ sym (all_before-add word i k k)
  where
    go : (i < k) ⊎ (k ≤ i) → (bit full i && bit (shifted k full) i) ≡ (all_before word i k && all_before word (i - k) k)
    go (inl low) = ap (λ x. x && bit (shifted k full) i) (tells i within ∙ all_before_short word i k low) ∙ ap (λ x. x && all_before word (i - k) k) (sym (all_before_short word i k low))
    go (inr high) = ap₂ (λ x y. x && y) (tells i within) (bit-shifted_high k full i high within ∙ tells (i - k) (omega arith))

odd_two : (word full : ℕ) → TellsAll word 1 full → TellsOdd word 2 (bit_and full (flipped (shifted 1 full)))
odd_two word full tells i within =
    bit-and full (flipped (shifted 1 full)) i ∙ ap (λ x. bit full i && x) (bit-not (shifted 1 full) i (shifted_lt 1 full) within) ∙ go (cases_lt i 1) ∙ sym (odd_of_two word i)
  where
    go : (i < 1) ⊎ (1 ≤ i) → (bit full i && not (bit (shifted 1 full) i)) ≡ (all_before word i 1 && not (all_before word (i - 1) 1))
    go (inl low) = ap (λ x. x && not (bit (shifted 1 full) i)) (tells i within ∙ all_before_short word i 1 low) ∙ ap (λ x. x && not (all_before word (i - 1) 1)) (sym (all_before_short word i 1 low))
    go (inr high) = ap₂ (λ x y. x && not y) (tells i within) (bit-shifted_high 1 full i high within ∙ tells (i - 1) (omega arith))

odd_double : (word k full odd : ℕ) → is_odd k ≡ false → TellsAll word k full → TellsOdd word k odd → TellsOdd word (k + k) (bit_or odd (bit_and full (shifted k odd)))
odd_double word k full odd even all tells i within =
    bit-or odd (bit_and full (shifted k odd)) i ∙ ap₂ (λ x y. x || y) (tells i within) (bit-and full (shifted k odd) i ∙ go (cases_lt i k)) ∙ sym (odd_within_even word i k k even)
  where
    go : (i < k) ⊎ (k ≤ i) → (bit full i && bit (shifted k odd) i) ≡ (all_before word i k && odd_within word (i - k) k)
    go (inl low) = ap (λ x. x && bit (shifted k odd) i) (all i within ∙ all_before_short word i k low) ∙ ap (λ x. x && odd_within word (i - k) k) (sym (all_before_short word i k low))
    go (inr high) = ap₂ (λ x y. x && y) (all i within) (bit-shifted_high k odd i high within ∙ tells (i - k) (omega arith))

abbrev pub more_full : ℕ → ℕ → ℕ
more_full k full = bit_and full (shifted k full)

abbrev pub more_odd : ℕ → ℕ → ℕ → ℕ
more_odd k full odd = bit_or odd (bit_and full (shifted k odd))

pub odd_runs_lem : (word : ℕ)
    → let f1 = shifted 1 word in let o2 = bit_and f1 (flipped (shifted 1 f1)) in
    let f2 = more_full 1 f1 in let o4 = more_odd 2 f2 o2 in
    let f4 = more_full 2 f2 in let o8 = more_odd 4 f4 o4 in
    let f8 = more_full 4 f4 in let o16 = more_odd 8 f8 o8 in
    let f16 = more_full 8 f8 in let o32 = more_odd 16 f16 o16 in
    let f32 = more_full 16 f16 in Says (more_odd 32 f32 o32) (odd_run word)
odd_runs_lem word i within =
    let f1 = shifted 1 word in let o2 = bit_and f1 (flipped (shifted 1 f1)) in
    let t1 = all_one word in let s2 = odd_two word f1 t1 in
    let f2 = more_full 1 f1 in let t2 = all_double word 1 f1 t1 in
    let o4 = more_odd 2 f2 o2 in let s4 = odd_double word 2 f2 o2 refl t2 s2 in
    let f4 = more_full 2 f2 in let t4 = all_double word 2 f2 t2 in
    let o8 = more_odd 4 f4 o4 in let s8 = odd_double word 4 f4 o4 refl t4 s4 in
    let f8 = more_full 4 f4 in let t8 = all_double word 4 f4 t4 in
    let o16 = more_odd 8 f8 o8 in let s16 = odd_double word 8 f8 o8 refl t8 s8 in
    let f16 = more_full 8 f8 in let t16 = all_double word 8 f8 t8 in
    let o32 = more_odd 16 f16 o16 in let s32 = odd_double word 16 f16 o16 refl t16 s16 in
    let f32 = more_full 16 f16 in let t32 = all_double word 16 f16 t16 in
    odd_double word 32 f32 o32 refl t32 s32 i within ∙ odd_within_whole word i 64 (omega arith)

-- ---- sums

xor_within-add : (word i k m : ℕ) → xor_within word i (k + m) ≡ xor (xor_within word i k) (xor_within word (i - k) m)
xor_within-add word i zero m = ap₂ (xor_within word) (omega arith) (zero-add m)
xor_within-add word zero (suc k) m = ap (xor_within word zero) (suc-add k m) ∙ sym (at_zero (zero - suc k) m (omega arith))
  where
    at_zero : (j n : ℕ) → j ≡ 0 → xor_within word j n ≡ false
    at_zero zero zero e = refl
    at_zero zero (suc n) e = refl
    at_zero (suc j) n e = let no : ⊥ = omega arith in absurd no
xor_within-add word (suc i) (suc k) m =
    let down : i - k ≡ suc i - suc k = omega arith in
    ap (xor_within word (suc i)) (suc-add k m) ∙ ap (λ x. xor x (bit word i)) (xor_within-add word i k m)
    ∙ xor_shuffle (xor_within word i k) (xor_within word (i - k) m) (bit word i) ∙ ap (λ j. xor (xor (xor_within word i k) (bit word i)) (xor_within word j m)) down

xor_within_none : (word j n : ℕ) → j ≡ 0 → xor_within word j n ≡ false
xor_within_none word zero zero e = refl
xor_within_none word zero (suc n) e = refl
xor_within_none word (suc j) n e = let no : ⊥ = omega arith in absurd no

xor_within_whole : (word i k : ℕ) → i ≤ k → xor_within word i k ≡ parity word i
unfolding parity
xor_within_whole word zero zero within = refl
xor_within_whole word zero (suc k) within = refl
xor_within_whole word (suc i) zero within = let no : ⊥ = omega arith in absurd no
xor_within_whole word (suc i) (suc k) within = ap (λ x. xor x (bit word i)) (xor_within_whole word i k (omega arith))

abbrev pub TellsSum : ℕ → ℕ → ℕ → Type 0
TellsSum word k sums = Says sums (λ i. xor_within word (suc i) k)

abbrev pub more_sums : ℕ → ℕ → ℕ
more_sums k sums = bit_xor sums (shifted k sums)

sums_double : (word k sums : ℕ) → TellsSum word k sums → TellsSum word (k + k) (more_sums k sums)
sums_double word k sums tells i within = bit-xor sums (shifted k sums) i ∙ ap₂ xor (tells i within) (go (cases_lt i k)) ∙ sym (xor_within-add word (suc i) k k)
  where
    go : (i < k) ⊎ (k ≤ i) → bit (shifted k sums) i ≡ xor_within word (suc i - k) k
    go (inl low) = bit-shifted_low k sums i low within ∙ sym (xor_within_none word (suc i - k) k (omega arith))
    go (inr high) =
        let down : suc (i - k) ≡ suc i - k = omega arith in
        bit-shifted_high k sums i high within ∙ tells (i - k) (omega arith) ∙ ap (λ j. xor_within word j k) down

sums_one : (word : ℕ) → TellsSum word 1 word
sums_one word i within = refl

pub prefix_xor_lem : (word : ℕ) → Says (more_sums 32 (more_sums 16 (more_sums 8 (more_sums 4 (more_sums 2 (more_sums 1 word)))))) (λ i. parity word (i + 1))
prefix_xor_lem word i within =
    sums_double word 32 _ (sums_double word 16 _ (sums_double word 8 _ (sums_double word 4 _ (sums_double word 2 _ (sums_double word 1 word (sums_one word)))))) i within
    ∙ xor_within_whole word (suc i) 64 (omega arith) ∙ ap (parity word) (sym (add-one i))
