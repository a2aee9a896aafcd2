-- How many brackets are open in front of a byte, by words whose bits tell which bytes open one and which close one.
use Rattle.std.proofs.Common.{◌≡◌, ℕ, zero, suc, ◌+◌, ◌-◌, ◌/◌, ◌%◌, ◌^◌, ◌<◌, ◌≤◌, Bool, true, false, ◌||◌, ◌==◌, arith, refl, sym, ap, ap₂, subst, ◌∙◌, shr-shr, inl, inr, w64}
use Rattle.std.proofs.lemmas.Bool.{cases_lt}
use Rattle.std.proofs.lemmas.Nat.Bits.{bit_at-zero, bit_at-lt, bit_at_above, bit_at-trailing_zeros, shr_and_one}
use Rattle.std.proofs.Math.Nat.{div-le_self}
use Rattle.std.specs.Int.{bit_at, trailing_zeros}
use Rattle.std.specs.Prelude.{if◌then◌else◌}
use lib.Bits.{bit_and, bit_or}
use Rattle.jp_lanes.specs.Word.{bit}
use Rattle.jp_lanes.proofs.Words.{bit-or}
use Rattle.jp_cut.specs.Passing.{open_before}

-- ---- the first bit that is set, from one on

shifted : (word from i : ℕ) → from ≤ i → bit_at word i ≡ bit_at (word / 2 ^ from) (i - from)
shifted word from i order =
    let there : i ≡ from + (i - from) = omega arith in
    ap (bit_at word) there ∙ ap (λ n. n % 2) (sym (shr-shr word from (i - from)))

pub none_from : (word from : ℕ) → word / 2 ^ from ≡ 0 → (i : ℕ) → from ≤ i → bit word i ≡ false
unfolding bit
none_from word from none i order =
    ap (λ n. n == 1) (shifted word from i order ∙ ap (λ n. bit_at n (i - from)) none ∙ bit_at-zero (i - from))

-- it stands there, and none before it
pub record IsFirst (word from at : ℕ) : Type 0 where
  pub within : at < 64
  pub there : bit word at ≡ true
  pub between : (i : ℕ) → from ≤ i → i < at → bit word i ≡ false

pub is_first : (word from : ℕ) → word < 2 ^ 64 → (word / 2 ^ from ≡ 0 → ⊥) → IsFirst word from (from + trailing_zeros w64 (word / 2 ^ from))
unfolding bit
is_first word from few some =
    let rest : ℕ = word / 2 ^ from in
    let small : rest < 2 ^ 64 = let d = div-le_self word (2 ^ from) in omega arith in
    let above : 0 < rest = elim (cases_lt 0 rest) [ inl low ↦ low | inr high ↦ let z : rest ≡ 0 = omega arith in absurd (some z) ] in
    let zeros = bit_at-trailing_zeros w64 rest above small in
    let n : ℕ = trailing_zeros w64 rest in
    let back : from + n - from ≡ n = omega arith in
    let one : bit_at word (from + n) ≡ 1 = shifted word from (from + n) (omega arith) ∙ ap (bit_at rest) back ∙ zeros.1 in
    record {
      within = elim (cases_lt (from + n) 64) [
        | inl low ↦ low
        | inr high ↦ absurd (let none = bit_at_above word 64 (from + n) few high in omega (arith, one, none))
      ];
      there = ap (λ k. k == 1) one;
      between = λ i order low. ap (λ k. k == 1) (shifted word from i order ∙ zeros.2 (i - from) (omega (arith, order, low)));
    }

-- ---- the test of one

pub bit_true : (word i : ℕ) → bit_and (word / 2 ^ i) 1 ≡ 1 → bit word i ≡ true
unfolding bit
bit_true word i e = ap (λ n. n == 1) (sym (shr_and_one word i) ∙ e)

not_one : (n : ℕ) → n < 2 → (n ≡ 1 → ⊥) → (n == 1) ≡ false
not_one zero small other = refl
not_one (suc zero) small other = absurd (other refl)
not_one (suc (suc n)) small other = absurd (let bad : n + 2 < 2 = omega (arith, small) in let none : ⊥ = omega arith in none)

pub bit_false : (word i : ℕ) → (bit_and (word / 2 ^ i) 1 ≡ 1 → ⊥) → bit word i ≡ false
unfolding bit
bit_false word i other = not_one (bit_at word i) (bit_at-lt word i) (λ e. other (shr_and_one word i ∙ e))

-- ---- between brackets as many stay open

neither : (a b : Bool) → (a || b) ≡ false → (a ≡ false) × (b ≡ false)
neither true b e = absurd (cc)
neither false b e = (refl, e)

second : (a b : Bool) → (a || b) ≡ true → a ≡ false → b ≡ true
second true b e other = absurd (cc)
second false b e other = e

module _ (opening closing depth : ℕ) where
  abbrev before : ℕ → ℕ
  before i = open_before opening closing depth i

  pub opened : (i : ℕ) → bit opening i ≡ true → before (i + 1) ≡ before i + 1
  unfolding open_before
  opened i e = let next : i + 1 ≡ suc i = omega arith in ap before next ∙ ap (λ b. if b then before i + 1 else (if bit closing i then before i - 1 else before i)) e

  pub closes_there : (i : ℕ) → bit (bit_or opening closing) i ≡ true → bit opening i ≡ false → bit closing i ≡ true
  closes_there i some other = second (bit opening i) (bit closing i) (sym (bit-or opening closing i) ∙ some) other

  pub closed : (i : ℕ) → bit (bit_or opening closing) i ≡ true → bit opening i ≡ false → before (i + 1) ≡ before i - 1
  unfolding open_before
  closed i some other =
      let next : i + 1 ≡ suc i = omega arith in
      ap before next ∙ ap₂ (λ a b. if a then before i + 1 else (if b then before i - 1 else before i)) other (closes_there i some other)

  kept : (i : ℕ) → bit (bit_or opening closing) i ≡ false → before (suc i) ≡ before i
  unfolding open_before
  kept i e =
      let both = neither (bit opening i) (bit closing i) (sym (bit-or opening closing i) ∙ e) in
      ap₂ (λ a b. if a then before i + 1 else (if b then before i - 1 else before i)) both.0 both.1

  same_after : (from n : ℕ) → ((i : ℕ) → from ≤ i → i < from + n → bit (bit_or opening closing) i ≡ false) → before (from + n) ≡ before from
  same_after from zero none = let e : from + 0 ≡ from = omega arith in ap before e
  same_after from (suc n) none =
      let e : from + suc n ≡ suc (from + n) = omega arith in
      ap before e ∙ kept (from + n) (none (from + n) (omega arith) (omega arith)) ∙ same_after from n (λ i order low. none i order (omega (arith, low)))

  pub same_until : (from to : ℕ) → from ≤ to → ((i : ℕ) → from ≤ i → i < to → bit (bit_or opening closing) i ≡ false) → before to ≡ before from
  same_until from to order none =
      let e : to ≡ from + (to - from) = omega arith in
      ap before e ∙ same_after from (to - from) (λ i low high. none i low (omega (arith, low, high)))

  -- and so one stays open up to the next
  pub stays_until : (from to : ℕ) → ((i : ℕ) → from ≤ i → i < to → bit (bit_or opening closing) i ≡ false) → ((i : ℕ) → i ≤ from → 0 < before i) → (i : ℕ) → i ≤ to → 0 < before i
  stays_until from to none some i within = elim (cases_lt from i) [
    | inl low ↦ subst (λ n. 0 < n) (sym (same_until from i (omega (arith, low)) (λ k order high. none k order (omega (arith, high, within))))) (some from (omega arith))
    | inr high ↦ some i high
  ]

  -- and after it
  pub stays_more : (at : ℕ) → ((i : ℕ) → i ≤ at → 0 < before i) → 0 < before (at + 1) → (i : ℕ) → i ≤ at + 1 → 0 < before i
  stays_more at some more i within = elim (cases_lt i (at + 1)) [
    | inl low ↦ some i (omega (arith, low))
    | inr high ↦ let e : i ≡ at + 1 = omega (arith, high, within) in subst (λ n. 0 < n) (sym (ap before e)) more
  ]
