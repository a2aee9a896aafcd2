use Rattle.jp_masks.proofs.LinesLaw.{lines_stand}
use Rattle.jp_masks.proofs.TextLines.{bytes_are, marks_are}
use Rattle.jp_masks.proofs.laws.lines_are_those_of_the_text.Goals as goal

pub returns-clause-bytes : goal.returns-clause-bytes
returns-clause-bytes c = bytes_are

pub returns-clause-marks : goal.returns-clause-marks
returns-clause-marks c = marks_are

pub returns-clause-within : goal.returns-clause-within
returns-clause-within c framing text k d l = let stands = lines_stand framing text k d l in (stands.order, stands.within)
