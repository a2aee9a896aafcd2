use Rattle.std.proofs.Common.{◌≡◌, drop, map}
use Rattle.std.specs.List.{list_any}
use Rattle.jp_model.specs.Pattern.Classes.{in_item}
use Rattle.jp_iregexp.specs.Nodes.{item_of}
use Rattle.jp_iregexp.proofs.class.has_some_item.Given as goal

abbrev pub invariant-loop-item : goal.invariant-loop-item
invariant-loop-item l = list_any (in_item l.scalar) (map item_of (drop l.item-index l.items)) ≡ list_any (in_item l.scalar) (map item_of l.items)
