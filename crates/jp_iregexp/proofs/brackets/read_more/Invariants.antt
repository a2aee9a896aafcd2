use Rattle.std.proofs.Common.{◌≡◌, ◌++◌, ◌-◌, map, Some}
use Rattle.jp_model.specs.Pattern.Reading.{then_read, read_items}
use Rattle.jp_iregexp.specs.Nodes.{item_of}
use Rattle.jp_iregexp.proofs.brackets.read_more.Given as goal

abbrev pub invariant-loop-turn : goal.invariant-loop-turn
invariant-loop-turn l =
    then_read (read_items (l.limit - l.turn) l.left) (λ more rest. Some (map item_of l.items.items ++ more, rest))
    ≡ then_read (read_items l.limit l.text) (λ more rest. Some (map item_of l.fn.items.items ++ more, rest))
