-- As many as there are texts.
use Rattle.std.proofs.Common.{◌∙◌, sym}
use Rattle.jp_grep.proofs.ReadLengths.{items_long}
use Rattle.jp_grep.proofs.items.ReadItems.count.Goals as goal

pub returns : goal.returns
returns c = c.line_count.ensures ∙ sym (items_long c.args.self c.requires)
