use Rattle.jp_laws.proofs.JoinedParts.{in_turn}
use Rattle.jp_laws.proofs.joining.selectors_are_asked_in_turn.Goals as goal

pub returns : goal.returns
returns c = in_turn
