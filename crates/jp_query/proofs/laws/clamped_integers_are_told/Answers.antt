use Rattle.std.proofs.Common.{sym}
use Rattle.jp_query.proofs.IntegerChanges.{clamp_keeps, clamp_tells}
use Rattle.jp_query.proofs.laws.clamped_integers_are_told.Goals as goal

pub returns : goal.returns
returns c = record { kept = λ q. sym (clamp_tells q); same = clamp_keeps }
