use Rattle.jp_strings.proofs.Slices.{body_of_slice, body_in_line}
use Rattle.jp_strings.proofs.Texts.{points_of_spelled}
use Rattle.jp_strings.proofs.laws.bodies_are_read.Goals as goal

pub returns-clause-alone : goal.returns-clause-alone
returns-clause-alone c line points start end order within = (body_of_slice line points start end within, body_in_line line points start end order within)

pub returns-clause-points : goal.returns-clause-points
returns-clause-points c = points_of_spelled
