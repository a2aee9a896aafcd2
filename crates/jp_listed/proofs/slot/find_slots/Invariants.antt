-- The lines so far and those from here on are all.
use Rattle.std.proofs.Common.{◌≡◌, ◌≤◌, ◌-◌, ◌++◌, All, drop, length}
use Rattle.jp_model.specs.Lines.{closed_lines}
use Rattle.jp_listed.specs.Slots.{IsHashed, texts_at}
use Rattle.jp_listed.proofs.slot.find_slots.Given as goal

abbrev pub invariant-loop-length : goal.invariant-loop-length
invariant-loop-length l =
    (texts_at l.bytes l.slots.items ++ closed_lines (drop l.start l.bytes) ≡ closed_lines l.bytes)
    × All (IsHashed l.bytes) l.slots.items × (l.start ≤ length l.bytes)

abbrev pub decreases-loop-length : goal.decreases-loop-length
decreases-loop-length l = length l.bytes - l.start
