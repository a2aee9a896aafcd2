-- The closure compares with the text.
use Rattle.std.proofs.Common.{◌∙◌, rules}
use Rattle.std.proofs.lemmas.Fn.{always_returns_same}
use Rattle.jp_listed.specs.Slots.{order_with}
use Rattle.jp_listed.proofs.Order.{found}
use Rattle.jp_listed.proofs.slot.has_slot.Goals as goal

pub returns : goal.returns
returns c =
    c.is_ok.ensures.value ∙ found c.args.bytes.now c.args.slots.now c.args.hash c.args.text.now c.binary_search_by-found.result c.requires.sorted c.requires.hashed c.requires.hash
    c.binary_search_by-found.ensures.bound
    (c.binary_search_by-found.ensures.position (order_with c.args.bytes.now c.args.hash c.args.text.now) (always_returns_same _ _ _ (λ a r q k. search rules)))
