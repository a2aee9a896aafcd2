-- The text was searched to its end, or has the mark of another format.
use Rattle.std.proofs.Common.{arith, ◌≡◌, ◌∙◌, ◌-◌, ℕ, List, ap, sym, true, Some}
use denote.Ref.{Bor}
use Rattle.jp_devices.specs.Devices.{Device}
use Rattle.jp_form.specs.declared.form.Summary.{Summary}
use Rattle.jp_grep.specs.Items.{Item, items_come}
use Rattle.jp_grep.specs.Rows.{refused_count, selected_count, stream_events, summary_of}
use Rattle.jp_grep.specs.Watching.{answered_of, is_whole}
use Rattle.jp_c.proofs.Asking.{all_answered, all_came, first_came, foreign_mark}
use Rattle.jp_c.proofs.Whole.{all_counted, come_judged, taken_as}
use Rattle.jp_c.proofs.searching.search_text.Goals as goal

pub returns-in-Ok-clause-found : goal.returns-in-Ok-clause-found
returns-in-Ok-clause-found g c =
    let o = c.in-Ok.ensures.output in
    let question = c.args.question.now in
    let form = c.args.form.now in
    let came = o.0 in
    let outcomes = o.1 in
    let found = c.in-Ok.came in
    let whole : is_whole found ≡ true = sym c.is_whole.ensures ∙ c.if-not-is_whole.false in
    let text_is = ap (λ (r : Device (Bor (List ℕ))). Some r.device.now) c.new-input.ensures.reader ∙ ap (λ (b : Bor (List ℕ)). Some b.now) c.new.ensures.device in
    let all = all_answered question form c.args.text.now came outcomes found whole c.if-came-form.false o.5.end o.5.counts (λ ended. all_came _ (Some c.search.new.input.reader.device.now) c.args.text.now came.bytes text_is o.2.0.left (o.2.3 ended)) in
    let rows = o.5.rows in
    let none = rows.1.none (ap (λ (s : Summary). summary_of s form (selected_count question (answered_of question form 0 outcomes)) (is_whole found)) c.requires.summary) in
    taken_as g.S.Sink.stands _ _ _ _ _ none (ap (λ (items : List Item). stream_events question form items) all) rows.2

pub returns-in-Ok-clause-refused : goal.returns-in-Ok-clause-refused
returns-in-Ok-clause-refused g c =
    let o = c.in-Ok.ensures.output in
    let question = c.args.question.now in
    let form = c.args.form.now in
    let came = o.0 in
    let outcomes = o.1 in
    let found = c.in-Ok.came in
    let whole : is_whole found ≡ true = sym c.is_whole.ensures ∙ c.if-not-is_whole.false in
    let text_is = ap (λ (r : Device (Bor (List ℕ))). Some r.device.now) c.new-input.ensures.reader ∙ ap (λ (b : Bor (List ℕ)). Some b.now) c.new.ensures.device in
    let all = all_answered question form c.args.text.now came outcomes found whole c.if-came-form.false o.5.end o.5.counts (λ ended. all_came _ (Some c.search.new.input.reader.device.now) c.args.text.now came.bytes text_is o.2.0.left (o.2.3 ended)) in
    let items = items_come form.units true c.args.text.now in
    let most : ℕ = form.most - 0 in
    let selected : selected_count question (answered_of question form 0 items) ≡ found.counts.selected = sym (o.5.counts.selected ∙ ap (selected_count question) all) in
    o.5.counts.refused ∙ ap refused_count all
    ∙ all_counted question most form.trailing items (come_judged form.units true c.args.text.now) (λ e. c.if-came-form.false (sym selected ∙ e ∙ omega arith))

pub returns-in-Err-Foreign-clause-fault : goal.returns-in-Err-Foreign-clause-fault
returns-in-Err-Foreign-clause-fault g c =
    let o = c.in-Err-Foreign.ensures.output in
    let text_is = ap (λ (r : Device (Bor (List ℕ))). Some r.device.now) c.new-input.ensures.reader ∙ ap (λ (b : Bor (List ℕ)). Some b.now) c.new.ensures.device in (
      o.0.bytes,
      first_came _ (Some c.search.new.input.reader.device.now) c.args.text.now o.0.bytes text_is o.2.0.left,
      c.in-Err-Foreign.field-0-0,
      foreign_mark _ _ _ c.args.question.now c.args.form.now _ _ _ _ c.in-Err-Foreign.field-0 o.0 o.1 c.in-Err-Foreign.field-0-0 c.in-Err-Foreign.field-0-is o.5,
    )
