use Rattle.jp_tape.proofs.Ahead.{some_is_first}
use Rattle.jp_tape.proofs.builder.scan.next_mark.Goals as goal

pub returns : goal.returns
returns c = record { value = λ end. some_is_first c.args.marks.now end 0 c.requires.some }
