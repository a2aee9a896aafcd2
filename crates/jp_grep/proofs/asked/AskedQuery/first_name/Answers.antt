-- There is no name, so it is empty.
use Rattle.std.proofs.Common.{◌∙◌, ap, sym}
use Rattle.std.proofs.lemmas.Str.{chars-nil}
use Rattle.jp_grep.specs.Asked.{name_or_empty}
use Rattle.jp_grep.proofs.asked.AskedQuery.first_name.Goals as goal

pub returns-in-None : goal.returns-in-None
returns-in-None c = chars-nil ∙ ap name_or_empty (sym c.in-None.is)
