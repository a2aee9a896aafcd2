-- The number of selectors is told.
use Rattle.std.proofs.Common.{◌≡◌, ◌∙◌, ◌++◌, ap, append_assoc, codes, decimal, encode_utf8_all, length, List, ℕ}
use Rattle.jp_model.specs.Plans.{segment_text}
use Rattle.jp_model.specs.Query.Syntax.{child_segment}
use Rattle.jp_model.specs.Rows.{line_feed}
use Rattle.jp_syntax.specs.View.{selector_view, selectors_view}
use Rattle.jp_plan.proofs.Walks.{child_counted, selectors_counted, ends}
use Rattle.jp_plan.proofs.segments.push_children.Goals as goal

pub returns : goal.returns
returns c =
    let number : List ℕ = encode_utf8_all (decimal (length c.args.selectors.now)) in
    let text : segment_text (child_segment (selectors_view c.args.selectors.now)) ≡ codes "child " ++ (number ++ line_feed) =
    child_counted (selectors_view c.args.selectors.now) (length c.args.selectors.now) (selectors_counted selector_view c.args.selectors.now) in
    let told : c.push_decimal.new.out.items ≡ c.args.out.now.items ++ (codes "child " ++ number) =
    c.in_ok-push_decimal.ensures ∙ (ap (λ b. b ++ number) c.in_ok-extend_from_slice.ensures.items ∙ append_assoc c.args.out.now.items (codes "child ") number) in
    ends c.extend_from_slice-2.result c.args.out.now.items c.push_decimal.new.out.items c.extend_from_slice-2.new.self.items _ (codes "child " ++ number) line_feed c.extend_from_slice-2.ensures.items told text
