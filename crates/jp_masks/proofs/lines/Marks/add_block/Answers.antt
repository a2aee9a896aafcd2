use Rattle.std.proofs.Common.{◌≡◌, ℕ, ◌+◌, ◌-◌, ◌^◌, ◌<◌, ◌≤◌, nat_lt, Bool, true, false, not, inl, inr, ◌++◌, length, map, refl, sym, ap, ◌∙◌, arith, w64}
use Rattle.std.proofs.lemmas.Bool.{cases_lt, lt-ltb, false≢true}
use Rattle.std.specs.Int.{trailing_zeros}
use lib.Bits.{bit_and, bit_or}
use Rattle.jp_lanes.specs.Word.{bit, Says}
use Rattle.jp_masks.specs.Written.{written}
use Rattle.jp_masks.specs.Positions.{set_bits}
use Rattle.jp_masks.specs.Found.{is_line}
use Rattle.jp_masks.specs.Sinks.{Sink, row_if, close_at, add_positions}
use Rattle.jp_masks.specs.Scanned.{stored}
use Rattle.jp_masks.proofs.Bits.{bit-not, flipped}
use Rattle.jp_masks.proofs.Growth.{grows_not, grows_by}
use Rattle.jp_masks.proofs.Positions.{lowest_within, lowest_set, was_there, without_lowest}
use Rattle.jp_masks.proofs.SinkPositions.{but, marks_at, same_positions, is_no_end, set_left, set_second, set_right, no_mark, positions_parted, line_taken, marks_taken, marks_alone}
use Rattle.jp_masks.proofs.lines.Marks.add_block.Goals as goal

pub loop-later_ends-init : goal.loop-later_ends-init
loop-later_ends-init c =
    let m = c.args.self.now in
    record {
      added = ap (add_positions c.args.framing c.args.ends c.args.base (stored m.rows.items (written m.positions) m.positions_before c.args.from)) (sym (same_positions c.args.marks c.args.ends c.ranges.ends.fits));
      marks_left = λ i within set. is_no_end c.args.marks c.args.ends i c.ranges.ends.fits within set;
      ends_left = λ i within set. set;
      behind = λ i within set. omega (arith, c.requires.order);
      near = omega (arith, c.requires.order);
      grown = grows_not m;
    }

-- the next end is in the block, and leaves room for the byte after it
end_fits : (marks ends base later : ℕ) → 0 < later → later < 2 ^ 64 → ((i : ℕ) → i < 64 → bit (bit_or marks ends) i ≡ true → base + i + 1 < 2 ^ 32) → ((i : ℕ) → i < 64 → bit later i ≡ true → bit ends i ≡ true)
    → base + trailing_zeros w64 later + 1 < 2 ^ 32
end_fits marks ends base later some small fits left =
    let within = lowest_within later some small in
    fits (trailing_zeros w64 later) within (set_right marks ends (trailing_zeros w64 later) (left (trailing_zeros w64 later) within (lowest_set later some small)))

pub overflow_add-at : goal.overflow_add-at
overflow_add-at c =
    let l = c.loop-later_ends in
    let room = end_fits c.args.marks c.args.ends c.args.base l.later_ends (omega arith) l.auto.later_ends-fits.fits c.requires.fits l.invariant.ends_left in
    record { fits = omega (arith, room) }

pub add_marks-requires : goal.add_marks-requires
add_marks-requires c =
    let l = c.loop-later_ends in
    let left = λ (i : ℕ) (set : bit (bit_and l.later_marks c.first_bits-below.result) i ≡ true). set_left l.later_marks c.first_bits-below.result i set in
    record {
      fits = λ i within set. (let room = c.requires.fits i within (l.invariant.marks_left i within (left i set)).0 in omega (arith, room));
      order = λ i within set. l.invariant.behind i within (left i set);
    }

pub add_marks-requires-2 : goal.add_marks-requires-2
add_marks-requires-2 c =
    let l = c.loop-later_ends in
    record {
      fits = λ i within set. (let room = c.requires.fits i within (l.invariant.marks_left i within set).0 in omega (arith, room));
      order = λ i within set. l.invariant.behind i within set;
    }

-- a mark that is left and no end is after the end
behind_end : (later below ends position i : ℕ) → below < 2 ^ 64 → Says below (λ j. nat_lt j position) → i < 64 → bit (but later below) i ≡ true → bit ends i ≡ false → bit ends position ≡ true → position + 1 ≤ i
behind_end later below ends position i small says within set other end =
    let high : bit below i ≡ false = not_true (bit below i) (sym (bit-not below i small within) ∙ set_second later (flipped below) i set) in
    elim (cases_lt i position) [
      | inl lt ↦ absurd (false≢true (sym high ∙ says i within ∙ lt-ltb i position lt))
      | inr le ↦ elim (cases_lt position i) [
        | inl lt ↦ omega (arith, lt)
        | inr ge ↦ (let same : i ≡ position = omega (arith, le, ge) in absurd (false≢true (sym other ∙ ap (bit ends) same ∙ end)))
      ]
    ]
  where
    not_true : (b : Bool) → not b ≡ true → b ≡ false
    not_true false e = refl
    not_true true e = absurd (cc)

pub overflow_add-start : goal.overflow_add-start
overflow_add-start c =
    let l = c.loop-later_ends in
    let room = end_fits c.args.marks c.args.ends c.args.base l.later_ends (omega arith) l.auto.later_ends-fits.fits c.requires.fits l.invariant.ends_left in
    record { fits = omega (arith, room) }

pub loop-later_ends-preserved : goal.loop-later_ends-preserved
loop-later_ends-preserved c =
    let l = c.loop-later_ends in
    let some : 0 < l.later_ends = omega arith in
    let small = l.auto.later_ends-fits.fits in
    let below = c.first_bits-below.result in
    let position = trailing_zeros w64 l.later_ends in
    let at = c.args.base + position in
    let word = bit_and l.later_marks below in
    let rest = set_bits (bit_or (but l.later_marks below) (without_lowest l.later_ends)) in
    let old = stored l.self.rows.items (written l.self.positions) l.self.positions_before l.start in
    let more = map (λ i. c.args.base + i - l.start) (set_bits word) in
    let marked = c.in_ok-add_marks.ensures in
    let closed = c.in_ok-close.ensures in
    let new = c.close.new.self in
    let apart : (i : ℕ) → i < 64 → bit word i ≡ true → bit c.args.ends i ≡ false = λ i within set. (l.invariant.marks_left i within (set_left l.later_marks below i set)).1 in
    let within = lowest_within l.later_ends some small in
    let end = l.invariant.ends_left position within (lowest_set l.later_ends some small) in
    let clear = no_mark (bit l.later_marks position) (bit c.args.ends position) (λ set. (l.invariant.marks_left position within set).1) end in
    let parted = positions_parted l.later_marks l.later_ends below some small c.first_bits-below.type_inv c.first_bits-below.ensures clear in
    let taken = line_taken c.args.framing c.args.ends c.args.base word position apart end rest old in
    let positions_are : (written new.positions) ≡ (written l.self.positions) ++ more = ap written closed.positions ∙ marked.positions in
    let rows_are : new.rows.items ≡ l.self.rows.items ++ row_if (is_line c.args.framing l.start at) l.start at l.self.positions_before (length ((written l.self.positions) ++ more)) =
    closed.rows ∙ (λ t. (marked.rows t).items ++ row_if (c.is_line.ensures t) l.start at (marked.before t) (length (marked.positions t))) in
    let before_is : new.positions_before ≡ length ((written l.self.positions) ++ more) = closed.before ∙ ap length marked.positions in
    let step : stored new.rows.items (written new.positions) new.positions_before (at + 1) ≡ close_at c.args.framing (marks_at old c.args.base (set_bits word)) at =
    λ t. record { rows = rows_are t; positions = positions_are t; before = before_is t; start = at + 1 } in
    record {
      added = ap (λ (s : Sink). add_positions c.args.framing c.args.ends c.args.base s rest) step
          ∙ sym taken ∙ sym (ap (add_positions c.args.framing c.args.ends c.args.base old) parted) ∙ l.invariant.added;
      marks_left = λ i within set. l.invariant.marks_left i within (set_left l.later_marks (flipped below) i set);
      ends_left = λ i within set. l.invariant.ends_left i within (was_there l.later_ends some small i set);
      behind = λ i within set. (
          let left = set_left l.later_marks (flipped below) i set in
          let far = behind_end l.later_marks below c.args.ends position i c.first_bits-below.type_inv c.first_bits-below.ensures within set (l.invariant.marks_left i within left).1 end in
          omega (arith, far)
          );
      near = omega (arith, within);
      grown = grows_by c.args.self.now l.self new _ more l.invariant.grown rows_are positions_are (closed.utf8 ∙ marked.utf8);
    }

pub returns-clause-added : goal.returns-clause-added
returns-clause-added c =
    let l = c.loop-later_ends in
    let none : 0 ≡ l.later_ends = omega arith in
    let old = stored l.self.rows.items (written l.self.positions) l.self.positions_before l.start in
    let marked = c.in_ok-add_marks-2.ensures in
    let new = c.add_marks-2.new.self in
    let step : stored new.rows.items (written new.positions) new.positions_before l.start ≡ marks_at old c.args.base (set_bits l.later_marks) =
    λ t. record { rows = (marked.rows t).items; positions = marked.positions t; before = marked.before t; start = l.start } in
    step ∙ sym (marks_taken c.args.framing c.args.ends c.args.base l.later_marks (λ i within set. (l.invariant.marks_left i within set).1) old)
    ∙ sym (ap (add_positions c.args.framing c.args.ends c.args.base old) (marks_alone l.later_marks l.later_ends none)) ∙ l.invariant.added
