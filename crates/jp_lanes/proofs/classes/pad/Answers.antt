use Rattle.std.proofs.Common.{ℕ, List, ◌++◌, length, ap₂}
use Rattle.std.proofs.lemmas.List.{drop-replicate}
use Rattle.jp_lanes.proofs.classes.pad.Goals as goal

pub returns : goal.returns
returns c = ap₂ (λ (x y : List ℕ). x ++ y) c.copy_from_slice.ensures.after (drop-replicate (length c.args.bytes.now) 64 0)
