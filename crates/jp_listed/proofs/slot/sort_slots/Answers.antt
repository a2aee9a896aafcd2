-- The closure compares by hashes, and then by texts.
use Rattle.std.proofs.Common.{rules}
use Rattle.std.specs.Ordering.{is_lt}
use Rattle.std.proofs.lemmas.Fn.{always_returns_same}
use Rattle.std.proofs.lemmas.List.Sorted.{ranks_by}
use Rattle.jp_listed.specs.Slots.{slot_order}
use Rattle.jp_listed.proofs.Order.{key, keys_total}
use Rattle.jp_listed.proofs.slot.sort_slots.Goals as goal

pub returns-clause-sorted : goal.returns-clause-sorted
returns-clause-sorted c =
    let bytes = c.args.bytes.now in
    c.sort_unstable_by.ensures.sorted (λ a b. is_lt (slot_order bytes a b)) (ranks_by keys_total (key bytes)) (always_returns_same _ _ _ (λ a r q k. search rules))
