-- One condition more was asked.
use Rattle.std.proofs.Common.{arith}
use Rattle.std.proofs.lemmas.Grind.{common_steps}
use Rattle.jp_lines.specs.Views.{text_of_view}
use Rattle.jp_grep.specs.LineAnswers.{KnowsCondition}
use Rattle.jp_grep.proofs.Knowing.{condition_known, item_at, known_at}
use Rattle.jp_grep.proofs.question.Question.all_hold.Goals as goal

pub holds-requires-clause-knows : goal.holds-requires-clause-knows
holds-requires-clause-knows c =
    let conditions = c.args.self.now.conditions.items in
    let known = c.loop-index.invariant.knows.conditions in
    let at = item_at conditions c.deref-condition-items.ensures.value c.loop-index.index c.condition-item.result c.loop-index-test.true c.condition-item.is in
    known_at (KnowsCondition (text_of_view c.args.asked.now.line)) conditions c.loop-index.answers.conditions.items known c.loop-index.index c.condition-item.result c.index_mut.result.now at c.index_mut.ensures.value

pub returns-then-not-branch-clause-knows : goal.returns-then-not-branch-clause-knows
returns-then-not-branch-clause-knows c =
    let at = item_at c.args.self.now.conditions.items c.deref-condition-items.ensures.value c.loop-index.index c.condition-item.result c.loop-index-test.true c.condition-item.is in
    condition_known c.args.self.now (text_of_view c.args.asked.now.line) c.loop-index.answers c.loop-index.invariant.knows c.loop-index.index c.holds.new.answer c.condition-item.result at c.in_ok-holds.ensures.knows

pub loop-index-preserved : goal.loop-index-preserved
loop-index-preserved c =
    let at = item_at c.args.self.now.conditions.items c.deref-condition-items.ensures.value c.loop-index.index c.condition-item.result c.loop-index-test.true c.condition-item.is in
    record {
      knows = condition_known c.args.self.now (text_of_view c.args.asked.now.line) c.loop-index.answers c.loop-index.invariant.knows c.loop-index.index c.holds.new.answer c.condition-item.result at c.in_ok-holds.ensures.knows;
      truth = grind (arith, common_steps);
    }
