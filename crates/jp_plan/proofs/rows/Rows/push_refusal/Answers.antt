-- The line stands after the others.
use Rattle.std.proofs.Common.{◌∙◌, List, ap, sym, subst}
use Rattle.jp_plan.specs.ByLine.{expanded, AreInTurn}
use Rattle.jp_plan.specs.declared.rows.LineRows.{LineRows}
use Rattle.jp_plan.proofs.ByLine.{refusal_expanded, refusal_in_turn}
use Rattle.jp_plan.proofs.rows.Rows.push_refusal.Goals as goal

pub returns-clause-rows : goal.returns-clause-rows
returns-clause-rows c =
    let old = c.args.self.now in
    ap (λ (ls : List LineRows). expanded ls old.places.items) c.in_ok-push.ensures.items ∙ refusal_expanded c.args.line c.args.fault old.lines.items old.places.items

pub returns-clause-turn : goal.returns-clause-turn
returns-clause-turn c =
    let old = c.args.self.now in
    subst (λ (ls : List LineRows). AreInTurn ls old.places.items) (sym c.in_ok-push.ensures.items) (refusal_in_turn c.args.line c.args.fault old.lines.items old.places.items c.requires)
