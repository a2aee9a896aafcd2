use Rattle.std.proofs.Common.{rules, ◌≡◌, ◌+◌, ◌∷◌, drop, get_or, map, add-one, drop-cons, subst}
use Rattle.jp_iregexp.specs.declared.class.Item.TheVariants.{Range}
use Rattle.jp_iregexp.specs.Nodes.{item_of}
use Rattle.jp_iregexp.proofs.AsciiSets.{nothing_left, IsPartCodes, no_items, one_item, all_items}
use Rattle.jp_iregexp.proofs.codes.codes_of_items.Goals as goal

pub loop-item-init : goal.loop-item-init
loop-item-init c = no_items (map item_of c.args.items.now)

pub loop-item-preserved : goal.loop-item-preserved
loop-item-preserved c =
    let l = c.loop-item in
    let items = c.args.items.now in
    let item = get_or items l.item-index (Range 0 0) in
    let whole = map item_of items in
    let cut : drop l.item-index items ≡ item ∷ drop (l.item-index + 1) items = rw add-one (drop-cons items l.item-index (Range 0 0) c.loop-item-test.true) in
    one_item whole (map item_of (drop (l.item-index + 1) items)) (item_of item) l.all c.codes_of_item-all.result (subst (λ r. IsPartCodes whole (map item_of r) l.all) cut l.invariant) c.codes_of_item-all.ensures

pub returns : goal.returns
returns c =
    let l = c.loop-item in
    let items = map item_of c.args.items.now in
    all_items items l.all (subst (λ r. IsPartCodes items (map item_of r) l.all) (nothing_left c.args.items.now l.item-index (search rules)) l.invariant)
