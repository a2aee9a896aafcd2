-- A row that is shown stays so, and one that is shown later stands after all that was shown.
use Rattle.jp_context.proofs.Stays.{text_stays}
use Rattle.jp_context.proofs.laws.what_is_shown_stays.Goals as goal

pub returns : goal.returns
returns c = text_stays
