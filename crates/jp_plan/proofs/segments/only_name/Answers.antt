-- One selector stands alone, and no other number of them does.
use Rattle.std.proofs.Common.{◌≡◌, List, None, Some, MatchOption, chars, sym, subst}
use Rattle.jp_syntax.specs.View.{selector_view, selectors_view}
use Rattle.jp_syntax.specs.declared.tree.Selector.{Selector}
use Rattle.jp_plan.specs.Walks.{name_alone}
use Rattle.jp_plan.proofs.Guards.{alone}
use Rattle.jp_plan.proofs.Walks.{not_alone}
use Rattle.jp_plan.proofs.segments.only_name.Goals as goal

pub returns-then-selectors-eq1 : goal.returns-then-selectors-eq1
returns-then-selectors-eq1 c =
    subst (λ (xs : List Selector). MatchOption c.selector_name.result (name_alone (selectors_view xs) ≡ None) (λ name. name_alone (selectors_view xs) ≡ Some (chars name.now)))
    (sym (alone c.args.selectors.now c.index-selectors-0.result c.index-selectors-0.is c.if-selectors-eq1.true)) c.selector_name.ensures

pub returns-else-selectors-eq1 : goal.returns-else-selectors-eq1
returns-else-selectors-eq1 c = not_alone selector_view c.args.selectors.now c.if-selectors-eq1.false
