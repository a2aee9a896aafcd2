-- The pattern that was read is the one that the query spells.
use Rattle.std.proofs.Common.{◌≡◌, ◌∙◌, Bool, Option, Some, sym, ap, subst}
use Rattle.std.specs.Prelude.{IfOk, option_map}
use Rattle.std.proofs.Math.Logic.{∥∥₁_elim}
use Rattle.jp_model.specs.Json.Tree.{Value}
use Rattle.jp_model.specs.Meaning.Functions.{in_pattern, single_value, literal_value}
use Rattle.jp_iregexp.specs.Trees.{pattern_view}
use Rattle.jp_syntax.specs.View.{literal_view}
use Rattle.jp_nodes.specs.declared.cursor.Cursor.{Cursor}
use Rattle.jp_children.specs.Found.{node_list}
use Rattle.jp_eval.specs.Functions.{passing}
use Rattle.jp_eval.specs.Questions.{answered}
use Rattle.jp_eval.specs.declared.leaves.LiteralPattern.{LiteralPattern}
use Rattle.jp_eval.specs.declared.question.Question.{Question}
use Rattle.jp_eval.proofs.Patterns.{told, one_proof}
use Rattle.jp_eval.proofs.question.Question.answer.Goals as goal

pub returns-in-Some : goal.returns-in-Some
returns-in-Some c =
    let pattern : LiteralPattern = c.in-Passes.pattern.value in
    let spelled : Option Value = Some (literal_value (literal_view pattern.constant.literal)) in
    let own : Option Value = single_value (node_list (Some c.in-Some.node)) in
    let test = passing c.in-Passes.whole in
    let is : in_pattern test own spelled ≡ answered c.args.self.now (node_list c.args.end) =
    sym (ap (λ (q : Question). answered q (node_list (Some c.in-Some.node))) c.in-Passes.is) ∙ sym (ap (λ (o : Option Cursor). answered c.args.self.now (node_list o)) c.in-Some.is) in
    ∥∥₁_elim pattern.spelled (one_proof c.read_passes.result _)
    (λ e. subst (λ (b : Bool). IfOk c.read_passes.result (λ a. a ≡ b)) is (told c.read_passes.result test _ own spelled (ap (λ (p : LiteralPattern). option_map pattern_view p.read) c.deref-in-Some.ensures ∙ e) c.read_passes.ensures))

pub returns-in-None : goal.returns-in-None
returns-in-None c =
    sym (ap (λ (q : Question). answered q (node_list c.args.end)) c.in-Passes.is ∙ ap (λ (o : Option Cursor). in_pattern (passing c.in-Passes.whole) (single_value (node_list o)) (Some (literal_value (literal_view c.in-Passes.pattern.value.constant.literal)))) c.in-None.is)
