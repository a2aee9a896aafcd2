use Rattle.std.proofs.Common.{get_or, take, arith, sym, subst}
use Rattle.std.proofs.lemmas.List.{take_all, take_more}
use Rattle.jp_iregexp.proofs.Entering.{none_in}
use Rattle.jp_iregexp.proofs.Marks.{IsUnmarked, unmarked_more}
use Rattle.jp_iregexp.proofs.waiting.unmark.Goals as goal

pub loop-state-init : goal.loop-state-init
loop-state-init c = λ s h. (h, λ i. none_in s i)

pub loop-state-preserved : goal.loop-state-preserved
loop-state-preserved c =
    let l = c.loop-state in
    let states = c.args.states.now in
    subst (λ xs. IsUnmarked xs c.args.has.now c.unmark_one.new.has) (sym (take_more states l.state-index 0 (omega arith)))
    (unmarked_more (take l.state-index states) (get_or states l.state-index 0) c.args.has.now l.has c.unmark_one.new.has l.invariant c.unmark_one.ensures)

pub returns : goal.returns
returns c =
    let l = c.loop-state in
    subst (λ xs. IsUnmarked xs c.args.has.now l.has) (take_all l.state-index c.args.states.now (omega arith)) l.invariant
