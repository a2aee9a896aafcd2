-- What is selected is put, and where nothing is the row around selected ones.
use Rattle.std.proofs.Common.{◌≡◌, ◌<◌, arith, inl, inr, subst, Ok, Some, true, Bool}
use Rattle.std.specs.Prelude.{◌⊎◌}
use Rattle.jp_grep.specs.Items.{judged}
use Rattle.jp_grep.specs.ReadItems.{status_by}
use Rattle.jp_grep.specs.Rows.{events_around}
use Rattle.jp_grep.specs.Searching.{PutsFirst}
use Rattle.jp_grep.proofs.Around.{around_in_part, around_lost, around_put, selected_alone, selected_in_part}
use Rattle.jp_grep.proofs.answer.Answerer.put_item.Goals.{then-verdict-gt0-via-then-verdict-gt0, then-verdict-gt0-via-else-verdict-gt0+then-verdict}
use Rattle.jp_grep.proofs.answer.Answerer.put_item.Goals as goal

pub returns-in_err-verdict-clause-answers : goal.returns-in_err-verdict-clause-answers
returns-in_err-verdict-clause-answers g c =
    let status = status_by c.args.item.state in
    selected_in_part c.args.self.question.now c.args.self.form.now c.args.number c.args.item.text.now c.args.most (judged (Some c.args.most) status) status g.S.Sink.stands g.S.Sink.stopped c.args.sink.now c.put_wanted.new.sink
    c.in_err-verdict.field-0.0 c.from_residual.result c.from_residual.ensures.0 c.in_err-verdict.ensures.answers

pub returns-then-verdict-gt0-clause-answers : goal.returns-then-verdict-gt0-clause-answers
returns-then-verdict-gt0-clause-answers g c =
    let status = status_by c.args.item.state in
    let verdict = c.in_ok-verdict.verdict in
    let ends : (0 < verdict.selected) ⊎ (verdict.given_up ≡ true) = elim c.then-verdict-gt0.branch [
      | then-verdict-gt0-via-then-verdict-gt0 w ↦ inl w.if-verdict-gt0.true
      | then-verdict-gt0-via-else-verdict-gt0+then-verdict w ↦ inr w.if-verdict.true
    ] in
    selected_alone c.args.self.question.now c.args.self.form.now c.args.number c.args.item.text.now c.args.most (judged (Some c.args.most) status) status g.S.Sink.stands g.S.Sink.stopped c.args.sink.now c.put_wanted.new.sink
    verdict ends c.in_ok-verdict.ensures.answers

pub returns-in_err-put_around-clause-answers : goal.returns-in_err-put_around-clause-answers
returns-in_err-put_around-clause-answers g c =
    let status = status_by c.args.item.state in
    around_in_part c.args.self.question.now c.args.self.form.now c.args.number c.args.item.text.now c.args.most (judged (Some c.args.most) status) status g.S.Sink.stands g.S.Sink.stopped c.args.sink.now c.put_wanted.new.sink
    c.in_ok-verdict.verdict (omega (arith, c.if-verdict-gt0.false)) c.if-verdict.false c.in_ok-verdict.ensures.answers c.put_around.new.sink
    c.in_err-put_around.field-0.0 c.from_residual-in_err-put_around.result c.from_residual-in_err-put_around.ensures.0 c.in_err-put_around.ensures.rows

pub returns-then-not-branch-clause-answers : goal.returns-then-not-branch-clause-answers
returns-then-not-branch-clause-answers g c =
    let status = status_by c.args.item.state in
    let number = c.args.number in
    let f = c.args.self.form.now in
    let put = subst (λ (b : Bool). PutsFirst g.S.Sink.stands g.S.Sink.stopped c.put_wanted.new.sink c.put_around.new.sink (Ok b) (λ (is_whole : Bool). is_whole) (events_around f.shown f number c.args.item.text.now 0 status))
    c.if-not-branch.true c.in_ok-put_around.ensures.rows in
    around_lost c.args.self.question.now f number c.args.item.text.now c.args.most (judged (Some c.args.most) status) status g.S.Sink.stands g.S.Sink.stopped c.args.sink.now c.put_wanted.new.sink
    c.in_ok-verdict.verdict (omega (arith, c.if-verdict-gt0.false)) c.if-verdict.false c.in_ok-verdict.ensures.answers c.put_around.new.sink
    c.of_given_up.result c.of_given_up.ensures.selected c.of_given_up.ensures.refused c.of_given_up.ensures.given_up put

pub returns-clause-answers : goal.returns-clause-answers
returns-clause-answers g c =
    let status = status_by c.args.item.state in
    let number = c.args.number in
    let f = c.args.self.form.now in
    let put = subst (λ (b : Bool). PutsFirst g.S.Sink.stands g.S.Sink.stopped c.put_wanted.new.sink c.put_around.new.sink (Ok b) (λ (is_whole : Bool). is_whole) (events_around f.shown f number c.args.item.text.now 0 status))
    c.if-not-branch.false c.in_ok-put_around.ensures.rows in
    around_put c.args.self.question.now f number c.args.item.text.now c.args.most (judged (Some c.args.most) status) status g.S.Sink.stands g.S.Sink.stopped c.args.sink.now c.put_wanted.new.sink
    c.in_ok-verdict.verdict (omega (arith, c.if-verdict-gt0.false)) c.if-verdict.false c.in_ok-verdict.ensures.answers c.put_around.new.sink put
