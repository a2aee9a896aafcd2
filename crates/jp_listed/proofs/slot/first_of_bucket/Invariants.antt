-- Those that were passed belong to earlier buckets.
use Rattle.std.proofs.Common.{◌<◌, ◌≤◌, ◌/◌, ◌-◌, length}
use Rattle.std.specs.List.{AllWithin}
use Rattle.jp_listed.proofs.slot.first_of_bucket.Given as goal

abbrev pub invariant-loop-first : goal.invariant-loop-first
invariant-loop-first l = (l.from ≤ l.first) × (l.first ≤ length l.slots) × AllWithin (λ slot. slot.hash / l.width < l.bucket) l.slots l.from l.first

abbrev pub decreases-loop-first : goal.decreases-loop-first
decreases-loop-first l = length l.slots - l.first
