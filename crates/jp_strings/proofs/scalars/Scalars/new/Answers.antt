use Rattle.std.proofs.Common.{refl}
use Rattle.jp_strings.specs.Points.{points_of}
use Rattle.jp_strings.proofs.Texts.{text_of_body}
use Rattle.jp_strings.proofs.scalars.Scalars.new.Goals as goal

pub invariant_of-result : goal.invariant_of-result
invariant_of-result c = record { text = text_of_body c.args.body.now c.requires }

pub returns : goal.returns
unfolding points_of
returns c = refl
