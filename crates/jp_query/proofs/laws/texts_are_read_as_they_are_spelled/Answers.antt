use Rattle.jp_query.proofs.Statuses.{text_complete, text_sound}
use Rattle.jp_query.proofs.laws.texts_are_read_as_they_are_spelled.Goals as goal

pub returns : goal.returns
returns c = record { spelled = text_complete; read = text_sound }
