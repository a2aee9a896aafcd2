-- What is said of the buffer of messages is said of the writer after it, as it is once it took what the buffer holds.
use Rattle.std.proofs.Common.{◌≡◌, ℕ, List, sym, subst, Option, Result, Err}
use Rattle.std.specs.Prelude.{MatchResult}
use Rattle.jp_devices.specs.Devices.{Came, Device, Received}
use Rattle.jp_sink.specs.Events.{Event}
use Rattle.jp_grep.specs.Items.{Item}
use Rattle.jp_grep.specs.Watching.{Answered, AnsweredInPart, AnsweredToEnd, SearchStopped}
use Rattle.jp_form.specs.declared.form.Form.{Form}
use Rattle.jp_grep.specs.declared.fault.SearchFault.{SearchFault}
use Rattle.jp_grep.specs.declared.fault.SearchFault.TheVariants as faults
use Rattle.jp_grep.specs.declared.question.Question.{Question}
use Rattle.jp_grep.proofs.run.Run.search.Goals as goal

at_err : {A E : Type 0} (P : A → Type 0) (Q : E → Type 0) (r : Result A E) (e : E) → r ≡ Err e → Q e → MatchResult r P Q
at_err P Q r e is q = subst (λ x. MatchResult x P Q) (sym is) q

module _ {S X Y : Type 0} (stands stopped : S → List Event → Type 0) {near : X → Option (List ℕ)} {far : Y → Option (List ℕ)} (question : Question) (form : Form) (s t : S) {a b : Device X} {c d : Device Y}
    (messages : (bytes : List ℕ) → Received near a b bytes → Received far c d bytes) where
  all_behind : (lines : List Item) → Answered stands stopped near question form s t a b lines → Answered stands stopped far question form s t c d lines
  all_behind lines h = record { rows = h.rows; messages = messages _ h.messages }

  told_behind : (lines : List Item) → AnsweredToEnd stands stopped near question form s t a b lines → AnsweredToEnd stands stopped far question form s t c d lines
  told_behind lines h = record { rows = h.rows; messages = messages _ h.messages }

  part_behind : (lines : List Item) → AnsweredInPart stands stopped near question form s t a b lines → AnsweredInPart stands stopped far question form s t c d lines
  part_behind lines h = record { rows = h.rows; messages = (h.messages.0, h.messages.1, messages h.messages.0 h.messages.2) }

  stopped_behind : (fault : SearchFault) (came : Came) (outcomes : List Item) → SearchStopped stands stopped near question form s t a b fault came outcomes → SearchStopped stands stopped far question form s t c d fault came outcomes
  stopped_behind faults.Read came outcomes h = (h.0, h.1, h.2, told_behind _ h.3)
  stopped_behind faults.Framing came outcomes h = (h.0, all_behind _ h.1)
  stopped_behind (faults.Foreign format) came outcomes h = (h.0, all_behind _ h.1)
  stopped_behind faults.Size came outcomes h = h
  stopped_behind faults.Write came outcomes h = (h.0, part_behind _ h.1)
  stopped_behind faults.Report came outcomes h = (h.0, part_behind _ h.1)
  stopped_behind faults.Memory came outcomes h = h

pub returns-in-Err-clause-output : goal.returns-in-Err-clause-output
returns-in-Err-clause-output g c =
    let told = c.in-Err.ensures.output in (
      told.0,
      told.1,
      told.2,
      told.3,
      told.4,
      at_err _ _ c.search-found.result c.in-Err.field-0 c.in-Err.is
          (stopped_behind g.S.Sink.stands g.S.Sink.stopped c.args.self.now.question.now c.args.form.now c.args.self.now.sink c.search-found.new.sink (λ bytes w. record { taken = w.held; held = tt }) c.in-Err.field-0 told.0 told.1 told.5),
    )
