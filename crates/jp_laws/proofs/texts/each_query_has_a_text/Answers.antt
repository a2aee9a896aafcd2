use Rattle.jp_laws.proofs.QueryShapes.{query_sayable}
use Rattle.jp_laws.proofs.QueryTexts.{query_said, query_bytes}
use Rattle.jp_laws.proofs.texts.each_query_has_a_text.Goals as goal

pub returns-clause-spelled : goal.returns-clause-spelled
returns-clause-spelled c = query_said

pub returns-clause-bytes : goal.returns-clause-bytes
returns-clause-bytes c = query_bytes

pub returns-clause-only : goal.returns-clause-only
returns-clause-only c = query_sayable
