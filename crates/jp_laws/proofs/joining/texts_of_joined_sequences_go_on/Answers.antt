use Rattle.jp_laws.proofs.JoinedParts.{texts_go_on}
use Rattle.jp_laws.proofs.joining.texts_of_joined_sequences_go_on.Goals as goal

pub returns : goal.returns
returns c = texts_go_on
