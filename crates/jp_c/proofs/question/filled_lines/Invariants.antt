use Rattle.std.proofs.Common.{◌≡◌, ◌++◌, drop, length, map}
use Rattle.jp_model.specs.Lines.{pieces, without_empty}
use Rattle.jp_c.proofs.question.filled_lines.Given as goal

abbrev pub invariant-loop-line : goal.invariant-loop-line
invariant-loop-line l = map (λ line. line.now) l.lines.items ++ without_empty (drop (length l.yielded) (pieces 0x0A l.fn.text)) ≡ without_empty (pieces 0x0A l.fn.text)
