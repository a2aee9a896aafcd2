use Rattle.jp_laws.proofs.PatternShapes.{pattern_sayable}
use Rattle.jp_laws.proofs.PatternTexts.{pattern_spelled}
use Rattle.jp_laws.proofs.texts.each_pattern_has_a_text.Goals as goal

pub returns-clause-spelled : goal.returns-clause-spelled
returns-clause-spelled c = pattern_spelled

pub returns-clause-only : goal.returns-clause-only
returns-clause-only c = pattern_sayable
