use Rattle.std.proofs.Common.{◌≡◌, ◌+◌, ◌++◌, ◌∷◌, [], ℕ, List, take, get_or, sym, ap, subst, ◌∙◌}
use Rattle.std.proofs.lemmas.List.{take_more}
use Rattle.jp_cut.specs.Machine.{step}
use Rattle.jp_cut.specs.Passing.{Keeps}
use Rattle.jp_cut.specs.declared.machine.Known.{Known}
use Rattle.jp_cut.specs.declared.machine.Step.{Step}
use Rattle.jp_cut.proofs.Passing.{keeps_more}
use Rattle.jp_cut.proofs.skipping.pass_kept.Goals as goal

pub loop-index-preserved : goal.loop-index-preserved
loop-index-preserved c =
    let l = c.loop-index in
    let bytes = c.args.bytes.now in
    let byte = get_or bytes l.index 0 in
    let next = c.step_on-next.ensures in
    let more : take (l.index + 1) bytes ≡ take l.index bytes ++ byte ∷ [] = take_more bytes l.index 0 c.loop-index-test.true in
    record {
      keeps = subst (λ (k : Known). Keeps c.args.pieces c.args.known (take (l.index + 1) bytes) k) (ap (λ (s : Step). s.known) (sym next))
          (subst (λ (xs : List ℕ). Keeps c.args.pieces c.args.known xs (step c.args.pieces l.now byte).known) (sym more)
          (keeps_more c.args.pieces c.args.known l.now (take l.index bytes) byte l.invariant.keeps (ap (λ (s : Step). s.turn) (sym next) ∙ c.in-Kept.is)));
      none = c.if-next-eq0.true;
    }
