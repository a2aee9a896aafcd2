-- The buckets so far begin at their places, and all before the last of these belong to them.
use Rattle.std.proofs.Common.{◌≡◌, ◌<◌, ◌≤◌, ◌/◌, length}
use Rattle.std.specs.List.{AllWithin}
use Rattle.jp_listed.specs.Slots.{AreStarts}
use Rattle.jp_listed.proofs.slot.find_starts.Given as goal

abbrev pub invariant-loop-bucket : goal.invariant-loop-bucket
invariant-loop-bucket l = AreStarts l.width l.slots l.starts.items × (length l.starts.items ≡ l.bucket) × (l.first ≤ length l.slots)
    × AllWithin (λ slot. slot.hash / l.width < l.bucket) l.slots 0 l.first
