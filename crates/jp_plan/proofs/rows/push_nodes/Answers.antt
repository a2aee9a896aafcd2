-- Each place leads to the node whose row it is, on the line that was opened.
use Rattle.std.proofs.Common.{sym, subst}
use Rattle.jp_plan.specs.Found.{AreOnTheirLines}
use Rattle.jp_plan.proofs.ByLine.{row_more, on_line_more}
use Rattle.jp_plan.proofs.rows.push_nodes.Goals as goal

pub loop-place-preserved : goal.loop-place-preserved
loop-place-preserved c = record {
  rows = row_more c.args.line c.args.view c.args.places.now c.loop-place.place-index c.loop-place-test.true c.at-cursor.result (c.at-cursor.ensures.line) c.at-cursor.ensures.place _ _ _ c.in_ok-push.ensures.items c.loop-place.invariant.rows;
  lines = λ lines here all. on_line_more c.args.line c.args.view lines c.at-cursor.result c.at-cursor.ensures.line _ _ c.in_ok-push.ensures.items (here c.loop-place.place-index 0 c.loop-place-test.true) (c.loop-place.invariant.lines lines here all);
}

pub returns-in_err-push-clause-lines : goal.returns-in_err-push-clause-lines
returns-in_err-push-clause-lines c = λ lines here all. subst (AreOnTheirLines lines) (sym c.in_err-push.ensures.items) (c.loop-place.invariant.lines lines here all)

pub returns-clause-lines : goal.returns-clause-lines
returns-clause-lines c = c.loop-place.invariant.lines
