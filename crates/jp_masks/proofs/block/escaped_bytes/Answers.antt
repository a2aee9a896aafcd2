use Rattle.std.proofs.Common.{◌≡◌, arith, subst}
use Rattle.jp_lanes.specs.Word.{Says}
use mir.Val.{bool_byte}
use Rattle.jp_masks.specs.Runs.{escaped_at}
use Rattle.jp_masks.proofs.Escapes.{escaped_says, none_escaped}
use Rattle.jp_masks.proofs.block.escaped_bytes.Goals as goal

pub returns : goal.returns
returns c = escaped_says c.args.backslash c.args.first c.odd_runs.result c.odd_runs.ensures

pub returns-then-backslash-eq0 : goal.returns-then-backslash-eq0
returns-then-backslash-eq0 c =
    let none : 0 ≡ c.args.backslash = omega arith in
    subst (λ n. Says (bool_byte c.args.first) (escaped_at n c.args.first)) none (none_escaped c.args.first)
