use Rattle.std.proofs.Common.{arith}
use Rattle.std.proofs.lemmas.List.{length-map}
use Rattle.jp_masks.specs.Written.{written}
use Rattle.jp_masks.specs.Found.{found, line_of}
use Rattle.jp_masks.proofs.lines.Marks.line_count.Goals as goal

pub returns : goal.returns
unfolding found
returns c = omega (arith, length-map c.args.self.now.rows.items (line_of (written c.args.self.now.positions)))
