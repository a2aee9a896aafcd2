use Rattle.jp_laws.proofs.JoinedParts.{begins_in_turn}
use Rattle.jp_laws.proofs.joining.descendants_begin_in_turn.Goals as goal

pub returns : goal.returns
returns c = begins_in_turn
