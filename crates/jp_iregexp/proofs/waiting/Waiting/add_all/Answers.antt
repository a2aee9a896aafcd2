use Rattle.std.proofs.Common.{get_or, take, arith, sym, subst}
use Rattle.std.proofs.lemmas.List.{take_all, take_more}
use Rattle.jp_iregexp.specs.Waiting.{Adds}
use Rattle.jp_iregexp.proofs.Entering.{none_in}
use Rattle.jp_iregexp.proofs.Marks.{adds_none, adds_more}
use Rattle.jp_iregexp.proofs.waiting.Waiting.add_all.Goals as goal

pub loop-state-init : goal.loop-state-init
loop-state-init c = adds_none _ c.args.self.now c.requires (λ s h l. absurd (none_in s h))

pub loop-state-preserved : goal.loop-state-preserved
loop-state-preserved c =
    let l = c.loop-state in
    let states = c.args.states.now in
    subst (λ xs. Adds xs c.args.self.now c.add.new.self) (sym (take_more states l.state-index 0 (omega arith)))
    (adds_more (take l.state-index states) c.args.self.now l.self c.add.new.self (get_or states l.state-index 0) l.invariant c.in_ok-add.ensures)

pub returns : goal.returns
returns c =
    let l = c.loop-state in
    subst (λ xs. Adds xs c.args.self.now l.self) (take_all l.state-index c.args.states.now (omega arith)) l.invariant
