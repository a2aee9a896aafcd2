use Rattle.jp_nodes.proofs.Trees.{tape_made, spelled_text, spelled_only}
use Rattle.jp_nodes.proofs.tape.tapes_are_of_lines.Goals as goal

pub returns : goal.returns
returns c = record { made = tape_made; text = λ words line h. spelled_text line h.spelled_line; only = spelled_only }
