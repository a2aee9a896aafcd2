-- A gap ends what is looked at and what is still to follow.
use Rattle.jp_context.proofs.Apart.{shown_apart}
use Rattle.jp_context.proofs.laws.streams_are_shown_apart.Goals as goal

pub returns : goal.returns
returns c = shown_apart
