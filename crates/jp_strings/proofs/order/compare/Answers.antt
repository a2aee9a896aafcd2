use Rattle.std.proofs.Common.{◌∙◌}
use Rattle.jp_strings.proofs.Orders.{plain_ordered}
use Rattle.jp_strings.proofs.order.compare.Goals as goal

pub returns-then-are_plain : goal.returns-then-are_plain
returns-then-are_plain c =
    c.cmp.ensures ∙ plain_ordered c.args.a.now c.args.b.now c.requires.first c.requires.second (c.are_plain.ensures.first c.if-are_plain.true) (c.are_plain.ensures.second c.if-are_plain.true)
