-- What the search wrote are the lines of the list.
use Rattle.std.proofs.Common.{◌≡◌, ◌∙◌, ◌++◌, ◌-◌, [], List, ℕ, append-nil, ap, subst, sym, true, inl, inr}
use Rattle.std.specs.Prelude.{◌⊎◌}
use Rattle.jp_canon.specs.Canonical.{value_text}
use Rattle.jp_listed.specs.Slots.{has_text}
use Rattle.jp_model.specs.Lines.{closed_lines}
use Rattle.jp_form.specs.declared.form.Form.{Form}
use Rattle.jp_grep.specs.Items.{Item, items_come}
use Rattle.jp_grep.specs.Lists.{list_form}
use Rattle.jp_grep.specs.Rows.{output_from, selected_count, stream_events, summary_of}
use Rattle.jp_sink.specs.Events.{Event, text_of}
use Rattle.jp_grep.specs.Watching.{AreCounts, EndsWith, answered_of, is_whole}
use Rattle.jp_grep.proofs.Coming.{none_lost}
use Rattle.jp_devices.specs.Devices.{Received}
use Rattle.std.proofs.Common.{Option}
use Rattle.std.proofs.lemmas.Bool.{false≢true}
use Rattle.jp_devices.specs.Devices.{Came, Device}
use Rattle.jp_model.specs.declared.Framing.TheVariants as framings
use Rattle.jp_grep.specs.Faults.{is_front_fault}
use Rattle.jp_grep.specs.Fronts.{IsRefused}
use Rattle.jp_grep.specs.Items.{framing_by}
use Rattle.jp_grep.specs.Lists.{list_fault}
use Rattle.jp_grep.specs.Watching.{SearchStopped}
use Rattle.jp_grep.specs.declared.fault.SearchFault.{SearchFault}
use Rattle.jp_grep.specs.declared.fault.SearchFault.TheVariants as faults
use Rattle.jp_grep.specs.declared.question.Question.{Question}
use Rattle.jp_grep.specs.Told.{told_of}
use Rattle.jp_grep.proofs.SoFar.{whole_came, whole_end, whole_kept}
use Rattle.jp_grep.proofs.list.read_list.Goals as goal

-- a stream of lines is refused by the fault that a list tells
refused_by : {S E : Type 0} (stands stopped : S → List Event → Type 0) (messages_in : E → Option (List ℕ)) (question : Question) (form : Form) (sink0 sink1 : S) (told0 told1 : Device E) (fault : SearchFault) (came : Came) (outcomes : List Item)
    → is_front_fault (list_fault fault) ≡ true → SearchStopped stands stopped messages_in question form sink0 sink1 told0 told1 fault came outcomes → IsRefused (framing_by form.units) came (list_fault fault)
refused_by stands stopped messages_in question form sink0 sink1 told0 told1 faults.Read came outcomes e ended = absurd (false≢true e)
refused_by stands stopped messages_in question form sink0 sink1 told0 told1 faults.Framing came outcomes e ended = ended.0
refused_by stands stopped messages_in question form sink0 sink1 told0 told1 (faults.Foreign format) came outcomes e ended = ended.0
refused_by stands stopped messages_in question form sink0 sink1 told0 told1 faults.Size came outcomes e ended = absurd (false≢true e)
refused_by stands stopped messages_in question form sink0 sink1 told0 told1 faults.Write came outcomes e ended = absurd (false≢true e)
refused_by stands stopped messages_in question form sink0 sink1 told0 told1 faults.Report came outcomes e ended = absurd (false≢true e)
refused_by stands stopped messages_in question form sink0 sink1 told0 told1 faults.Memory came outcomes e ended = absurd (false≢true e)

pub returns-in-Err-clause-refused : goal.returns-in-Err-clause-refused
returns-in-Err-clause-refused g c front =
    let o = c.in-Err.ensures.output in
    let form = c.list_form.result in
    let told = c.fault_of_list.ensures in
    let refused = refused_by _ _ g.E.Write.contents c.new-question.result form _ _ c.args.messages.now c.search.new.messages c.in-Err.fault o.0 o.1 (ap is_front_fault (sym told) ∙ front) o.5 in
    (o.0, o.2, subst (IsRefused framings.Lines o.0) (sym told) (subst (λ (f : Form). IsRefused (framing_by f.units) o.0 (list_fault c.in-Err.fault)) c.list_form.ensures refused))

ended_or_most : {A B C : Type 0} → A ⊎ (B × C) → A ⊎ B
ended_or_most (inl a) = inl a
ended_or_most (inr both) = inr both.0

pub returns-in-Ok-of_lines-clause-list : goal.returns-in-Ok-of_lines-clause-list
returns-in-Ok-of_lines-clause-list g c =
    let o = c.in-Ok.ensures.output in
    let question = c.new-question.result in
    let form = list_form c.args.name in
    let came = o.0 in
    let outcomes = o.1 in
    let found = c.in-Ok.found in
    let whole : is_whole found ≡ true = sym c.is_whole.ensures ∙ c.if-not-is_whole.false in
    let ends = subst (λ (f : Form). EndsWith question f came outcomes found) c.list_form.ensures o.5.end in
    let counts = subst (λ (f : Form). AreCounts question found.counts (answered_of question f 0 outcomes)) c.list_form.ensures o.5.counts in
    let all : answered_of question form 0 outcomes ≡ answered_of question form 0 (items_come form.units came.ended came.bytes) =
    none_lost question (form.most - 0) form.trailing (items_come form.units came.ended came.bytes) outcomes (whole_came question form came outcomes found whole ends) (sym counts.given_up ∙ whole_kept question form found whole) in
    let begun = o.5.rows.2 [] c.new-texts.ensures.text in
    let none : o.5.rows.0 ≡ [] = o.5.rows.1.none (ap (λ (f : Form). summary_of f.summary f (selected_count question (answered_of question f 0 outcomes)) (is_whole found)) c.list_form.ensures) in
    let items : c.search.new.sink.text.items ≡ output_from question form 1 (answered_of question form 0 (items_come form.units came.ended came.bytes)) =
    begun
    ∙ ap (λ (l : List Event). text_of ([] ++ (stream_events question c.list_form.result (answered_of question c.list_form.result 0 outcomes) ++ l))) none
    ∙ ap text_of (append-nil (stream_events question c.list_form.result (answered_of question c.list_form.result 0 outcomes)))
    ∙ ap (λ (f : Form). output_from question f 1 (answered_of question f 0 outcomes)) c.list_form.ensures
    ∙ ap (λ (ls : List Item). output_from question form 1 ls) all in
    let told = subst (λ (f : Form). Received g.E.Write.contents c.args.messages.now c.search.new.messages (told_of f (answered_of question f 0 outcomes))) c.list_form.ensures o.5.messages in (
      came,
      o.2,
      record {
        question = question;
        asks = record { each = c.new-question.ensures.each; purpose = c.new-question.ensures.purpose; queries = c.new-question.ensures.queries; conditions = c.new-question.ensures.conditions; wanted = c.new-question.ensures.wanted };
        values = λ value. c.in-Ok-of_lines.ensures.lines value ∙ ap (λ bytes. has_text (closed_lines bytes) (value_text value)) items;
        messages = subst (λ (ls : List Item). Received g.E.Write.contents c.args.messages.now c.search.new.messages (told_of form ls)) all told;
        counted = subst (λ (ls : List Item). AreCounts question found.counts ls) all counts;
        all = ended_or_most (whole_end question form came outcomes found whole ends);
      },
    )
