use Rattle.std.proofs.Common.{◌≡◌, ◌∙◌, ap, sym, arith}
use Rattle.jp_model.specs.Query.Syntax as syntax
use Rattle.jp_model.specs.Query.Singular.{singular_step}
use Rattle.jp_syntax.specs.View.{segment_view, selectors_view, argument_step, comparable_step, logical_step, segment_step, selector_step, call_step, path_step}
use Rattle.jp_syntax.specs.declared.tree.Segment.{fold-roll-Segment}
use Rattle.jp_syntax.specs.declared.tree.Segment.TheVariants.{rolls-Child}
use Rattle.jp_syntax.specs.declared.tree.Argument.TheOpen.{Segment-F}
use Rattle.jp_syntax.proofs.SingularWalk.{not_singular}
use Rattle.jp_syntax.proofs.paths.only_selector.Goals as goal

pub returns-else-len-eq1 : goal.returns-else-len-eq1
returns-else-len-eq1 c =
    let held = c.in-Child.selectors in
    let seen : segment_view c.args.segment.now ≡ syntax.child_segment (selectors_view held.items) =
    ap segment_view (c.in-Child.is ∙ sym (rolls-Child held))
    ∙ fold-roll-Segment syntax.Argument syntax.Comparable syntax.Logical syntax.Segment syntax.Selector syntax.Call syntax.Path argument_step comparable_step logical_step segment_step selector_step call_step path_step (Segment-F.Child held) in
    ap singular_step seen ∙ not_singular held.items (λ one. c.if-len-eq1.false (omega arith))
