-- The number of selectors is told.
use Rattle.std.proofs.Common.{◌≡◌, ◌∙◌, ◌++◌, ap, append_assoc, codes, decimal, encode_utf8_all, length, List, ℕ}
use Rattle.jp_model.specs.Plans.{segment_text}
use Rattle.jp_model.specs.Query.Syntax.{descendant_segment}
use Rattle.jp_model.specs.Rows.{line_feed}
use Rattle.jp_syntax.specs.View.{selector_view, selectors_view}
use Rattle.jp_plan.proofs.Walks.{descent_counted, selectors_counted, ends}
use Rattle.jp_plan.proofs.segments.push_descendants.Goals as goal

pub returns-in_ok-push_decimal-in-None : goal.returns-in_ok-push_decimal-in-None
returns-in_ok-push_decimal-in-None c =
    let number : List ℕ = encode_utf8_all (decimal (length c.args.selectors.now)) in
    let text : segment_text (descendant_segment (selectors_view c.args.selectors.now)) ≡ codes "descend " ++ (number ++ line_feed) =
    descent_counted (selectors_view c.args.selectors.now) (length c.args.selectors.now) (selectors_counted selector_view c.args.selectors.now) c.in-None.ensures in
    let told : c.push_decimal.new.out.items ≡ c.args.out.now.items ++ (codes "descend " ++ number) =
    c.in_ok-push_decimal-in-None.ensures ∙ (ap (λ b. b ++ number) c.in_ok-extend_from_slice-in-None.ensures.items ∙ append_assoc c.args.out.now.items (codes "descend ") number) in
    ends c.extend_from_slice-in-None-2.result c.args.out.now.items c.push_decimal.new.out.items c.extend_from_slice-in-None-2.new.self.items _ (codes "descend " ++ number) line_feed c.extend_from_slice-in-None-2.ensures.items told text
