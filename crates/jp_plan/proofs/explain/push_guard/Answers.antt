-- The pieces of the line follow one another.
use Rattle.std.proofs.Common.{◌∙◌, ◌++◌, ℕ, List, ap, codes, encode_utf8_all}
use Rattle.jp_model.specs.Meaning.Paths.{literal_text, op_text, path_text}
use Rattle.jp_model.specs.Plans.{guard_text}
use Rattle.jp_model.specs.Rows.{line_feed}
use Rattle.jp_syntax.specs.SingularPaths.{path_steps}
use Rattle.jp_syntax.specs.View.{literal_view, op_view}
use Rattle.jp_plan.specs.Paths.{guard_at, guard_of_steps}
use Rattle.jp_plan.proofs.Explained.{more, guard_pieces}
use Rattle.jp_plan.proofs.Walks.{ends}
use Rattle.jp_plan.proofs.explain.push_guard.Goals as goal

pub returns : goal.returns
returns c =
    let g = c.in-Some.guard in
    let text =
    ap (λ o. guard_text (guard_at c.args.store.now.state.paths o)) c.in-Some.is
    ∙ (ap (λ s. guard_text (guard_of_steps g s)) c.path_at.ensures
    ∙ guard_pieces (record { steps = path_steps c.path_at.result.now; op = op_view g.op; literal = literal_view g.literal.now })) in
    let old : List ℕ = c.args.out.now.items in
    let one : List ℕ = codes "guard " ++ path_text (path_steps c.path_at.result.now) in
    let two : List ℕ = one ++ codes " " in
    let three : List ℕ = two ++ op_text (op_view g.op) in
    let four : List ℕ = three ++ codes " " in
    let five : List ℕ = four ++ encode_utf8_all (literal_text (literal_view g.literal.now)) in
    let path = more old _ _ (codes "guard ") _ c.in_ok-extend_from_slice.ensures.items c.in_ok-push_to.ensures.text in
    let blank = more old _ _ one _ path c.in_ok-extend_from_slice-2.ensures.items in
    let op = more old _ _ two _ blank (c.in_ok-extend_from_slice-3.ensures.items ∙ ap (λ b. c.extend_from_slice-2.new.self.items ++ b) c.op_text.ensures) in
    let other_blank = more old _ _ three _ op c.in_ok-extend_from_slice-4.ensures.items in
    let literal = more old _ _ four _ other_blank c.in_ok-push_literal.ensures in
    ends c.extend_from_slice-5.result old _ c.extend_from_slice-5.new.self.items _ five line_feed c.extend_from_slice-5.ensures.items literal text
