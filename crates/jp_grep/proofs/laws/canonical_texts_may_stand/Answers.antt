-- Value by value.
use Rattle.jp_grep.proofs.Unbroken.{canonical_unbroken}
use Rattle.jp_grep.proofs.laws.canonical_texts_may_stand.Goals as goal

pub returns : goal.returns
returns c = canonical_unbroken
