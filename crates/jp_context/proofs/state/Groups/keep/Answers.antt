-- Where no row is wanted before one that is selected, none is kept.
use Rattle.std.proofs.Common.{ℕ, Global, Vec, arith}
use Rattle.std.proofs.lemmas.List.{length-map}
use Rattle.jp_context.specs.Steps.{kept_texts}
use Rattle.jp_context.proofs.Kept.{not_kept}
use Rattle.jp_context.proofs.state.Groups.keep.Goals as goal

pub returns-then-self-eq0-clause-shows : goal.returns-then-self-eq0-clause-shows
returns-then-self-eq0-clause-shows c more =
    let s = c.args.self.now in
    let same = length-map s.kept.items (λ (r : Vec ℕ Global). r.items) in
    not_kept s.layout.coloured s.layout.before s.layout.after s.left s.shown c.parted-self.result (kept_texts s) c.args.row.now more c.if-self-eq0.true c.requires
    (omega (arith, s.few, same)) c.parted-self.ensures
