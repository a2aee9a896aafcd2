-- What the steps of a search come to.
use Rattle.std.specs.Prelude.{◌≡◌, ℕ, ◌+◌, ◌-◌, ◌<◌, ◌≤◌, List, [], ◌++◌, length, Bool, true, false, is_some, None, Some, Option, Result, MatchOption, MatchResult, ⊤, IfOk, OnOk, IfErr}
use Rattle.jp_devices.specs.Devices.{Device, Received, Writes}
use Rattle.jp_sink.specs.Events.{Event}
use Rattle.jp_sink.specs.Telling.{Takes}
use Rattle.jp_model.specs.Json.Status.{LineStatus}
use Rattle.jp_model.specs.Lines.{is_framed}
use Rattle.jp_model.specs.Json.Tree.{Tree}
use Rattle.jp_model.specs.Meaning.Nodes.{Node}
use Rattle.jp_grep.specs.Faults.{is_front_fault, is_writer_fault}
use Rattle.jp_grep.specs.Formats.{format_of}
use Rattle.jp_grep.specs.Fronts.{AreRefused, IsOfLines}
use Rattle.jp_grep.specs.Matching.{is_selected}
use Rattle.jp_grep.specs.Items.{Item, framing_by, is_given_up, items_come, judged, unjudged_count}
use Rattle.jp_grep.specs.Outcomes.{CameOf, CameOfEach, given_up_count}
use Rattle.jp_grep.specs.Rows.{asked_events, events_from, item_events, item_message, messages_from, refused_count, refused_where, selected_count, selected_events, selected_where, status_events, stream_events, told_of_all}
use Rattle.jp_grep.specs.Sizes.{TellsOfSize}
use Rattle.jp_grep.specs.Stands.{Stands}
use Rattle.jp_grep.specs.Telling.{Puts}
use Rattle.jp_grep.specs.Watching.{AreCounts, answered_of, cut_to, up_to}
use Rattle.jp_grep.specs.declared.fault.SearchFault.{SearchFault}
use Rattle.jp_grep.specs.declared.fault.SearchFault.TheVariants as faults
use Rattle.jp_form.specs.declared.form.Form.{Form}
use Rattle.jp_grep.specs.declared.progress.Progress.{Progress}
use Rattle.jp_grep.specs.declared.progress.Verdict.{Verdict}
use Rattle.jp_grep.specs.declared.question.Question.{Question}
use Rattle.jp_grep.specs.declared.source.Source.{Source}

-- no more nodes are selected than are wanted, and no more items passed after them than are to be, and of the items so far each is
-- refused or given up at most once
pub record IsUnderWay (form : Form) (progress : Progress) : Type 0 where
  pub wanted : progress.counts.selected ≤ form.most
  pub passed : progress.trailed ≤ form.trailing
  pub fewer_refused : progress.counts.refused < progress.number
  pub fewer_given_up : progress.counts.given_up < progress.number

-- of some items those that are answered after this progress
abbrev pub answered_after : Question → Form → Progress → List Item → List Item
answered_after question form progress items = up_to question (form.most - progress.counts.selected) (form.trailing - progress.trailed) items

-- the progress goes on by these items
pub record GoesOnBy (question : Question) (form : Form) (before after : Progress) (items : List Item) : Type 0 where
  pub number : after.number ≡ before.number + length items
  pub selected : after.counts.selected ≡ before.counts.selected + selected_count question items
  pub refused : after.counts.refused ≡ before.counts.refused + refused_count items
  pub given_up : after.counts.given_up ≡ before.counts.given_up + given_up_count items
  pub trailed : after.trailed ≡ before.trailed + unjudged_count items
  pub under_way : IsUnderWay form after

-- the verdict is that of this line, from which no more nodes are wanted, given up or not
pub record IsVerdict (question : Question) (verdict : Verdict) (most : ℕ) (lost : Bool) (status : LineStatus) : Type 0 where
  pub selected : verdict.selected ≡ selected_where lost question (Some most) status
  pub refused : verdict.refused ≡ refused_where lost status
  pub given_up : verdict.given_up ≡ lost

-- The first of some events are told, at an Err a part of them, and all where it is said so.
pub record PutsFirst {S A : Type 0} (stands stopped : S → List Event → Type 0) (sink0 sink1 : S) (result : Result A SearchFault) (says_all : A → Bool) (events : List Event) : Type 0 where
  pub first : List Event
  pub others : List Event
  pub split : events ≡ first ++ others
  pub puts : Puts stands stopped sink0 sink1 result first
  pub all : IfOk result (λ answer. says_all answer ≡ true → others ≡ [])

-- A node is answered: its events are told, at an Err a part, and it is said whether it is selected. There is no answer where memory
-- was refused, and then the first of its events are told.
pub record AnswersNode {S : Type 0} (stands stopped : S → List Event → Type 0) (question : Question) (form : Form) (n : ℕ) (line : List ℕ) (sink0 sink1 : S) (result : Result (Option Bool) SearchFault) (t : Tree) (node : Node) : Type 0 where
  pub rows : PutsFirst stands stopped sink0 sink1 result is_some (asked_events question form n line t node)
  pub selected : IfOk result (λ answer. MatchOption answer ⊤ (λ selected. selected ≡ is_selected question t node))

-- A line from which no more nodes are wanted is answered or given up: of these events all or the first are told, at an Err a part.
pub record PutsRows {S : Type 0} (stands stopped : S → List Event → Type 0) (question : Question) (most : ℕ) (sink0 sink1 : S) (result : Result Verdict SearchFault) (status : LineStatus) (all : List Event) : Type 0 where
  pub given_up : Option ℕ
  pub rows : Puts stands stopped sink0 sink1 result (told_of_all given_up all)
  pub verdict : IfOk result (λ verdict. IsVerdict question verdict most (is_some given_up) status)

-- what is told of what is selected of a line
abbrev pub PutsSelected : {S : Type 0} → (stands stopped : S → List Event → Type 0) → Question → Form → ℕ → (line : List ℕ) → (most : ℕ) → (sink0 sink1 : S) → Result Verdict SearchFault → LineStatus → Type 0
PutsSelected stands stopped question form n line most sink0 sink1 result status =
    PutsRows stands stopped question most sink0 sink1 result status (selected_events question form n line (Some most) status)

-- all that is told of a line
abbrev pub AnswersStatus : {S : Type 0} → (stands stopped : S → List Event → Type 0) → Question → Form → ℕ → (line : List ℕ) → (most : ℕ) → (sink0 sink1 : S) → Result Verdict SearchFault → LineStatus → Type 0
AnswersStatus stands stopped question form n line most sink0 sink1 result status =
    PutsRows stands stopped question most sink0 sink1 result (judged (Some most) status) (status_events question form n line (Some most) status)

module _ {S E : Type 0} (stands stopped : S → List Event → Type 0) (messages_in : E → Option (List ℕ)) where
  -- An item is answered, as far as its nodes are wanted, or given up: its events are told, and its message is written, at an Err a
  -- part.
  pub record AnswersItem (question : Question) (form : Form) (progress : Progress) (sink0 sink1 : S) (told0 told1 : Device E) (result : Result Verdict SearchFault) (item : Item) : Type 0 where
    pub outcome : Item
    pub came : CameOf item outcome
    pub rows : Puts stands stopped sink0 sink1 result (item_events question form progress.number (cut_to (form.most - progress.counts.selected) outcome))
    pub message : Writes messages_in told0 told1 result (item_message form progress.counts.refused progress.number (cut_to (form.most - progress.counts.selected) outcome))
    pub verdict : IfOk result (λ verdict. IsVerdict question verdict (form.most - progress.counts.selected) (is_given_up outcome) (judged (Some (form.most - progress.counts.selected)) outcome.status))

  -- These items are answered, as far as they are wanted: the sink and the writer of messages received what is told of what came of
  -- them, at an Err a part.
  pub record AnswersEach (question : Question) (form : Form) (before after : Progress) (sink0 sink1 : S) (told0 told1 : Device E) (result : Result Unit SearchFault) (items : List Item) : Type 0 where
    pub outcomes : List Item
    pub each : CameOfEach items outcomes
    pub rows : Puts stands stopped sink0 sink1 result (events_from question form before.number (answered_after question form before outcomes))
    pub messages : Writes messages_in told0 told1 result (messages_from form before.counts.refused before.number (answered_after question form before outcomes))
    pub progress : OnOk result (GoesOnBy question form before after (answered_after question form before outcomes))

  -- The same, and nothing came of them where neither the sink nor that writer failed.
  pub record Answers (question : Question) (form : Form) (before after : Progress) (sink0 sink1 : S) (told0 told1 : Device E) (result : Result Unit SearchFault) (items : List Item) : Type 0 where
    pub outcomes : List Item
    pub each : CameOfEach items outcomes
    pub rows : Puts stands stopped sink0 sink1 result (events_from question form before.number (answered_after question form before outcomes))
    pub messages : Writes messages_in told0 told1 result (messages_from form before.counts.refused before.number (answered_after question form before outcomes))
    pub progress : OnOk result (GoesOnBy question form before after (answered_after question form before outcomes))
    pub unwritten : IfErr result (λ fault. is_writer_fault fault ≡ false → (sink1 ≡ sink0) × (told1 ≡ told0) × (after ≡ before))

  -- bytes of the stream came, and what ends in them is answered, whatever came before
  pub record Advances (question : Question) (form : Form) (source0 source1 : Source) (before after : Progress) (sink0 sink1 : S) (told0 told1 : Device E) (result : Result Unit SearchFault) (bytes : List ℕ) : Type 0 where
    pub items : List Item
    pub answers : Answers question form before after sink0 sink1 told0 told1 result items
    pub position : OnOk result ((came : List ℕ) (answered : List Item) → Stands form.units came source0 answered → Stands form.units (came ++ bytes) source1 (answered ++ items))
    pub first : (came : List ℕ) (answered : List Item) → Stands form.units came source0 answered
        → (others : List Item) × (items_come form.units false (came ++ bytes) ≡ (answered ++ items) ++ others)
    pub size : TellsOfSize result source0 (length bytes) before items
    pub refused : IfErr result (λ fault. is_front_fault fault ≡ true
        → (came : List ℕ) (answered : List Item) → Stands form.units came source0 answered → (answered ≡ []) × AreRefused (framing_by form.units) (came ++ bytes) fault)

  -- the stream has ended, and what its end leaves is answered, whatever came before
  pub record Ends (question : Question) (form : Form) (source : Source) (before after : Progress) (sink0 sink1 : S) (told0 told1 : Device E) (result : Result Unit SearchFault) : Type 0 where
    pub items : List Item
    pub answers : Answers question form before after sink0 sink1 told0 told1 result items
    pub all : OnOk result ((came : List ℕ) (answered : List Item) → Stands form.units came source answered → items_come form.units true came ≡ answered ++ items)
    pub first : (came : List ℕ) (answered : List Item) → Stands form.units came source answered
        → (others : List Item) × (items_come form.units true came ≡ (answered ++ items) ++ others)
    pub size : TellsOfSize result source 0 before items
    pub framed : (came : List ℕ) (answered : List Item) → Stands form.units came source answered
        → MatchResult result (λ _. IsOfLines (framing_by form.units) came) (λ fault. is_front_fault fault ≡ false → IsOfLines (framing_by form.units) came)
    pub refused : IfErr result (λ fault. is_front_fault fault ≡ true → (fault ≡ faults.Framing)
        × ((came : List ℕ) (answered : List Item) → Stands form.units came source answered → (answered ≡ []) × (format_of came ≡ None) × (is_framed (framing_by form.units) came ≡ false)))

  -- The stream came so far: these bytes, and these items are answered, of which that came.
  pub record HasAnswered (question : Question) (form : Form) (source : Source) (progress : Progress) (sink0 sink1 : S) (told0 told1 : Device E) (came : List ℕ) (answered outcomes : List Item) : Type 0 where
    pub position : Stands form.units came source answered
    pub each : CameOfEach answered outcomes
    pub rows : Takes stands sink0 sink1 (stream_events question form (answered_of question form 0 outcomes))
    pub messages : Received messages_in told0 told1 (messages_from form 0 1 (answered_of question form 0 outcomes))
    pub number : progress.number ≡ 1 + length (answered_of question form 0 outcomes)
    pub counts : AreCounts question progress.counts (answered_of question form 0 outcomes)
    pub trailed : progress.trailed ≡ unjudged_count (answered_of question form 0 outcomes)
    pub under_way : IsUnderWay form progress
