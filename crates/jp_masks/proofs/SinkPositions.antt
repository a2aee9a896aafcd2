-- The positions of a block are taken in: the marks between two ends at once, and each end by itself.
use Rattle.std.proofs.Common.{◌≡◌, ℕ, suc, ◌+◌, ◌-◌, ◌^◌, ◌<◌, ◌≤◌, nat_lt, Bool, true, false, not, ◌&&◌, ◌||◌, cond, List, [], ◌∷◌, ◌++◌, length, map, get_or, refl, sym, ap, ap₂, ◌∙◌, arith, append_assoc, append-nil, w64, ◌⊎◌, inl, inr}
use Rattle.std.specs.Int.{trailing_zeros}
use Rattle.std.proofs.lemmas.Bool.{cases_lt, lt-ltb, le-ltb, false≢true}
use lib.Bits.{bit_and, bit_or}
use Rattle.jp_model.specs.declared.Framing.{Framing}
use Rattle.jp_lanes.specs.Word.{bit, Says}
use Rattle.jp_lanes.proofs.Words.{bit-or}
use Rattle.jp_masks.specs.Positions.{set_bits}
use Rattle.jp_masks.specs.Sinks.{Sink, close_at, mark_at, add_position, add_positions}
use Rattle.jp_masks.proofs.Bits.{bit-and, flipped, bit-not, bit_zero}
use Rattle.jp_masks.proofs.LineBlocks.{and-true, and-false}
use Rattle.jp_masks.proofs.SetBits.{marked}
use Rattle.jp_masks.proofs.Positions.{filter_same, filter_split, without_lowest, lowest_within, lowest_set, none_below, lowest_gone, others_stay}

-- marks that come after the others
abbrev pub marks_at : Sink → ℕ → List ℕ → Sink
marks_at sink base positions = record { rows = sink.rows; positions = sink.positions ++ map (λ i. base + i - sink.start) positions; before = sink.before; start = sink.start }

module _ (framing : Framing) (ends base : ℕ) where
  -- positions that end no line are marks
  marks_added : (positions : List ℕ) → ((k : ℕ) → k < length positions → bit ends (get_or positions k 0) ≡ false) → (sink : Sink) → add_positions framing ends base sink positions ≡ marks_at sink base positions
  unfolding add_positions
  marks_added [] clear sink = λ t. record { rows = sink.rows; positions = sym (append-nil sink.positions) t; before = sink.before; start = sink.start }
  marks_added (position ∷ rest) clear sink =
      ap (λ b. add_positions framing ends base (cond b (close_at framing sink (base + position)) (mark_at sink (base + position))) rest) (clear 0 (omega arith))
      ∙ marks_added rest (λ k within. clear (suc k) (omega arith)) (mark_at sink (base + position))
      ∙ (λ t. record { rows = sink.rows; positions = append_assoc sink.positions ((base + position - sink.start) ∷ []) (map (λ i. base + i - sink.start) rest) t; before = sink.before; start = sink.start })

  pub marks_taken : (word : ℕ) → ((i : ℕ) → i < 64 → bit word i ≡ true → bit ends i ≡ false) → (sink : Sink) → add_positions framing ends base sink (set_bits word) ≡ marks_at sink base (set_bits word)
  marks_taken word clear = marks_added (set_bits word) (λ k within. let there = marked word k (set_bits word) refl within in clear _ there.0 there.1)

  both_added : (sink : Sink) (some more : List ℕ) → add_positions framing ends base sink (some ++ more) ≡ add_positions framing ends base (add_positions framing ends base sink some) more
  unfolding add_positions
  both_added sink [] more = refl
  both_added sink (position ∷ some) more = both_added (add_position framing ends base sink position) some more

  -- marks, and then the end of their line
  pub line_taken : (word position : ℕ) → ((i : ℕ) → i < 64 → bit word i ≡ true → bit ends i ≡ false) → bit ends position ≡ true → (rest : List ℕ) (sink : Sink)
      → add_positions framing ends base sink (set_bits word ++ position ∷ rest) ≡ add_positions framing ends base (close_at framing (marks_at sink base (set_bits word)) (base + position)) rest
  unfolding add_positions
  line_taken word position clear set rest sink =
      both_added sink (set_bits word) (position ∷ rest)
      ∙ ap (λ s. add_positions framing ends base s (position ∷ rest)) (marks_taken word clear sink)
      ∙ ap (λ b. add_positions framing ends base (cond b (close_at framing (marks_at sink base (set_bits word)) (base + position)) (mark_at (marks_at sink base (set_bits word)) (base + position))) rest) set

-- `word & !ends`
abbrev pub but : ℕ → ℕ → ℕ
but word ends = bit_and word (flipped ends)

or-false : (a b : Bool) → b ≡ false → (a || b) ≡ a
or-false true b e = refl
or-false false b e = e

or-true : (a b : Bool) → b ≡ true → (a || b) ≡ true
or-true true b e = refl
or-true false b e = e

not_end_or_end : (a b : Bool) → (a || b) ≡ ((a && not b) || b)
not_end_or_end true true = refl
not_end_or_end true false = refl
not_end_or_end false true = refl
not_end_or_end false false = refl

not_end : (a b : Bool) → (a && not b) ≡ true → ((a || b) ≡ true) × (b ≡ false)
not_end true false e = (refl, refl)
not_end true true e = absurd (false≢true e)
not_end false b e = absurd (false≢true e)

bit-but : (word ends i : ℕ) → ends < 2 ^ 64 → i < 64 → bit (but word ends) i ≡ (bit word i && not (bit ends i))
bit-but word ends i small within = bit-and word (flipped ends) i ∙ ap (λ b. bit word i && b) (bit-not ends i small within)

-- a mark at an end is none
pub same_positions : (marks ends : ℕ) → ends < 2 ^ 64 → set_bits (bit_or marks ends) ≡ set_bits (bit_or (but marks ends) ends)
unfolding set_bits
same_positions marks ends small = filter_same _ _ 0 64 (λ i low within.
    bit-or marks ends i ∙ not_end_or_end (bit marks i) (bit ends i)
    ∙ sym (bit-or (but marks ends) ends i ∙ ap (λ b. b || bit ends i) (bit-but marks ends i small (omega arith))))

pub is_no_end : (marks ends i : ℕ) → ends < 2 ^ 64 → i < 64 → bit (but marks ends) i ≡ true → (bit (bit_or marks ends) i ≡ true) × (bit ends i ≡ false)
is_no_end marks ends i small within set =
    let told = not_end (bit marks i) (bit ends i) (sym (bit-but marks ends i small within) ∙ set) in
    (bit-or marks ends i ∙ told.0, told.1)

pub set_left : (a b i : ℕ) → bit (bit_and a b) i ≡ true → bit a i ≡ true
set_left a b i set = left (bit a i) (bit b i) (sym (bit-and a b i) ∙ set)
  where
    left : (x y : Bool) → (x && y) ≡ true → x ≡ true
    left true y e = refl
    left false y e = e

pub set_second : (a b i : ℕ) → bit (bit_and a b) i ≡ true → bit b i ≡ true
set_second a b i set = second (bit a i) (bit b i) (sym (bit-and a b i) ∙ set)
  where
    second : (x y : Bool) → (x && y) ≡ true → y ≡ true
    second true y e = e
    second false y e = absurd (cc)

pub set_right : (a b i : ℕ) → bit b i ≡ true → bit (bit_or a b) i ≡ true
set_right a b i set = bit-or a b i ∙ or-true (bit a i) (bit b i) set

pub no_mark : (mark end : Bool) → (mark ≡ true → end ≡ false) → end ≡ true → mark ≡ false
no_mark false end apart is = refl
no_mark true end apart is = absurd (false≢true (sym (apart refl) ∙ is))

-- the positions are the marks before the next end, that end, and what is after it
module _ (marks ends below : ℕ) (some : 0 < ends) (small : ends < 2 ^ 64) (ones_small : below < 2 ^ 64) (at_below : Says below (λ i. nat_lt i (trailing_zeros w64 ends))) (clear : bit marks (trailing_zeros w64 ends) ≡ false) where
  abbrev position : ℕ
  position = trailing_zeros w64 ends

  kept_below : (i : ℕ) → i < position → bit (bit_and marks below) i ≡ bit (bit_or marks ends) i
  kept_below i low =
      bit-and marks below i ∙ and-true (bit marks i) (bit below i) (at_below i (omega (arith, lowest_within ends some small)) ∙ lt-ltb i position low)
      ∙ sym (bit-or marks ends i ∙ or-false (bit marks i) (bit ends i) (none_below ends some small i low))

  none_behind : (i : ℕ) → position ≤ i → i < 64 → bit (bit_and marks below) i ≡ false
  none_behind i high within = bit-and marks below i ∙ and-false (bit marks i) (bit below i) (at_below i within ∙ le-ltb i position high)

  mark_later : (i : ℕ) → i < position → bit (but marks below) i ≡ false
  mark_later i low =
      let within : i < 64 = omega (arith, lowest_within ends some small) in
      bit-but marks below i ones_small within ∙ and-false (bit marks i) (not (bit below i)) (ap not (at_below i within ∙ lt-ltb i position low))

  none_before : (i : ℕ) → (i < position) ⊎ (position ≤ i) → i ≤ position → bit (bit_or (but marks below) (without_lowest ends)) i ≡ false
  none_before i (inl low) le =
      bit-or (but marks below) (without_lowest ends) i
      ∙ or-false (bit (but marks below) i) (bit (without_lowest ends) i) (others_stay ends some small i (λ e. omega (arith, e, low)) ∙ none_below ends some small i low)
      ∙ mark_later i low
  none_before i (inr high) le =
      let here : i ≡ position = omega arith in
      ap (bit (bit_or (but marks below) (without_lowest ends))) here
      ∙ bit-or (but marks below) (without_lowest ends) position
      ∙ or-false (bit (but marks below) position) (bit (without_lowest ends) position) (lowest_gone ends some small)
      ∙ bit-and marks (flipped below) position ∙ ap (λ b. b && bit (flipped below) position) clear

  kept_behind : (i : ℕ) → position < i → i < 64 → bit (bit_or (but marks below) (without_lowest ends)) i ≡ bit (bit_or marks ends) i
  kept_behind i high within =
      bit-or (but marks below) (without_lowest ends) i
      ∙ ap₂ (λ (x y : Bool). x || y)
      (bit-but marks below i ones_small within ∙ and-true (bit marks i) (not (bit below i)) (ap not (at_below i within ∙ le-ltb i position (omega arith))))
      (others_stay ends some small i (λ e. omega (arith, e, high)))
      ∙ sym (bit-or marks ends i)

  pub positions_parted : set_bits (bit_or marks ends) ≡ set_bits (bit_and marks below) ++ position ∷ set_bits (bit_or (but marks below) (without_lowest ends))
  unfolding set_bits
  positions_parted =
      filter_split (bit (bit_or marks ends)) (bit (bit_and marks below)) (bit (bit_or (but marks below) (without_lowest ends))) position 0 64 (omega arith) (omega (arith, lowest_within ends some small))
      (bit-or marks ends position ∙ or-true (bit marks position) (bit ends position) (lowest_set ends some small))
      kept_below (λ i high within. none_behind i high (omega arith)) (λ i le. none_before i (cases_lt i position) le) (λ i high within. kept_behind i high (omega arith))

-- no end is left
pub marks_alone : (marks ends : ℕ) → 0 ≡ ends → set_bits (bit_or marks ends) ≡ set_bits marks
unfolding set_bits
marks_alone marks ends none = filter_same _ _ 0 64 (λ i low within. bit-or marks ends i ∙ or-false (bit marks i) (bit ends i) (ap (λ n. bit n i) (sym none) ∙ bit_zero i))
