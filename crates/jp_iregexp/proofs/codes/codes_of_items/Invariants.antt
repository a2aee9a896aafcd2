use Rattle.std.proofs.Common.{drop, map}
use Rattle.jp_iregexp.specs.Nodes.{item_of}
use Rattle.jp_iregexp.proofs.AsciiSets.{IsPartCodes}
use Rattle.jp_iregexp.proofs.codes.codes_of_items.Given as goal

abbrev pub invariant-loop-item : goal.invariant-loop-item
invariant-loop-item l = IsPartCodes (map item_of l.items) (map item_of (drop l.item-index l.items)) l.all
