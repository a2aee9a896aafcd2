-- What passed in a search, by the fault that it answers.
use Rattle.std.specs.Prelude.{◌≡◌, ◌<◌, ℕ, zero, suc, map, take, ◌+◌, ◌-◌, List, [], ◌∷◌, ◌++◌, length, Bool, true, false, ◌&&◌, ◌==◌, is_none, Option, Some, None, MatchOption, ◌⊎◌}
use Rattle.jp_devices.specs.Devices.{Begins, Came, Device, Received}
use Rattle.jp_sink.specs.Events.{Event}
use Rattle.jp_sink.specs.Telling.{Takes}
use Rattle.jp_grep.specs.Formats.{format_of}
use Rattle.jp_grep.specs.Fronts.{IsOfLines, IsRefused}
use Rattle.jp_grep.specs.Items.{Item, framing_by, items_come, unjudged_count}
use Rattle.jp_grep.specs.Outcomes.{CameOfEach, given_up_count}
use Rattle.jp_grep.specs.Rows.{messages_from, refused_count, selected_count, selected_in, stream_events, summary_of}
use Rattle.jp_grep.specs.Sizes.{IsOversize}
use Rattle.jp_grep.specs.Telling.{AreParts, TakesPart}
use Rattle.jp_grep.specs.Told.{told_of}
use Rattle.jp_grep.specs.declared.fault.SearchFault.{SearchFault}
use Rattle.jp_grep.specs.declared.fault.SearchFault.TheVariants as faults
use Rattle.jp_form.specs.declared.form.Form.{Form}
use Rattle.jp_grep.specs.declared.found.Found.{Found}
use Rattle.jp_grep.specs.declared.found.Limit.TheVariants as limits
use Rattle.jp_grep.specs.declared.progress.Counts.{Counts}
use Rattle.jp_grep.specs.declared.question.Question.{Question}

-- an item from which no more nodes are wanted
abbrev pub cut_to : (most : ℕ) → Item → Item
cut_to most item = record { text = item.text; status = item.status; from_line = item.from_line; most = Some most; given_up = item.given_up }

-- The items up to the one with which `most` nodes are selected, and `trailing` after it, or all where there are fewer. Of each no
-- more nodes are wanted than are left of that number: of those after it none.
abbrev pub up_to : Question → (most trailing : ℕ) → List Item → List Item
up_to question zero trailing items = map (cut_to 0) (take trailing items)
up_to question (suc most) trailing [] = []
up_to question (suc most) trailing (item ∷ rest) = cut_to (suc most) item ∷ up_to question (suc most - selected_in question (cut_to (suc most) item)) trailing rest

-- of some items those that are answered, where `selected` nodes were selected before, and none was passed after the last of them
abbrev pub answered_of : Question → Form → ℕ → List Item → List Item
answered_of question form selected items = up_to question (form.most - selected) form.trailing items

-- as many nodes are selected as are wanted, and as many items were passed after them as are to be
abbrev pub IsEnough : Form → (selected trailed : ℕ) → Type 0
IsEnough form selected trailed = (selected ≡ form.most) × (trailed ≡ form.trailing)

-- fewer are
abbrev pub IsShort : Form → (selected trailed : ℕ) → Type 0
IsShort form selected trailed = (selected < form.most) ⊎ (trailed < form.trailing)

-- none is given up, and the rest of the stream was not passed over
abbrev pub is_whole : Found → Bool
is_whole found = is_none found.unread && (found.counts.given_up == 0)

-- the counts are those of these items
pub record AreCounts (question : Question) (counts : Counts) (items : List Item) : Type 0 where
  pub selected : counts.selected ≡ selected_count question items
  pub refused : counts.refused ≡ refused_count items
  pub given_up : counts.given_up ≡ given_up_count items

-- A search came to its end: all items that came have these outcomes, and the stream has ended, or as many lines were selected as
-- are wanted and as many passed after them as are to be. Or the rest of the stream was passed over, from the first line on that is
-- not answered, and for its size only where it is larger than can be held or counted.
abbrev pub EndsWith : Question → Form → Came → List Item → Found → Type 0
EndsWith question form came outcomes found = MatchOption found.unread
    ((format_of came.bytes ≡ None) × CameOfEach (items_come form.units came.ended came.bytes) outcomes × ((came.ended ≡ true) ⊎ IsEnough form found.counts.selected (unjudged_count (answered_of question form 0 outcomes))))
    (λ unread. (unread.line ≡ 1 + length (answered_of question form 0 outcomes)) × (unread.limit ≡ limits.Size → IsOversize form.units came outcomes))

module _ {S E : Type 0} (stands stopped : S → List Event → Type 0) (messages_in : E → Option (List ℕ)) where
  -- the sink took what is told of these items, the writer received the messages on them, and neither anything else
  pub record Answered (question : Question) (form : Form) (sink0 sink1 : S) (told0 told1 : Device E) (items : List Item) : Type 0 where
    pub rows : Takes stands sink0 sink1 (stream_events question form items)
    pub messages : Received messages_in told0 told1 (messages_from form 0 1 items)

  -- both received what is answered of these items, and after it what is told of all
  pub record AnsweredToEnd (question : Question) (form : Form) (sink0 sink1 : S) (told0 told1 : Device E) (items : List Item) : Type 0 where
    pub rows : Takes stands sink0 sink1 (stream_events question form items)
    pub messages : Received messages_in told0 told1 (told_of form items)

  -- The sink took what is told of these items, and after it a text by parts.
  abbrev pub TakesToEnd : Question → Form → (sink0 sink1 : S) → (all : Bool) → List Item → Type 0
  TakesToEnd question form sink0 sink1 all items = (parts : List Event) × AreParts (summary_of form.summary form (selected_count question items) all) parts
      × Takes stands sink0 sink1 (stream_events question form items ++ parts)

  -- It took a part of it.
  abbrev pub TakesSome : Question → Form → (sink0 sink1 : S) → List Item → Type 0
  TakesSome question form sink0 sink1 items = (all : Bool) × (parts : List Event) × AreParts (summary_of form.summary form (selected_count question items) all) parts
      × TakesPart stands stopped sink0 sink1 (stream_events question form items ++ parts)

  -- The sink took a part of it, and the writer received a beginning of the messages.
  pub record AnsweredInPart (question : Question) (form : Form) (sink0 sink1 : S) (told0 told1 : Device E) (items : List Item) : Type 0 where
    pub rows : TakesSome question form sink0 sink1 items
    pub messages : (part : List ℕ) × Begins part (told_of form items) × Received messages_in told0 told1 part

  -- What passed while the lines of a stream were answered, as far as they were.
  pub record SearchedLines (question : Question) (form : Form) (sink0 sink1 : S) (told0 told1 : Device E) (came : Came) (outcomes : List Item) (found : Found) : Type 0 where
    pub framed : came.ended ≡ true → IsOfLines (framing_by form.units) came.bytes
    pub all : Answered question form sink0 sink1 told0 told1 (answered_of question form 0 outcomes)
    pub counts : AreCounts question found.counts (answered_of question form 0 outcomes)
    pub end : EndsWith question form came outcomes found

  -- What passed in a search that came to its end, or passed over the rest of its stream.
  pub record Searched (question : Question) (form : Form) (sink0 sink1 : S) (told0 told1 : Device E) (came : Came) (outcomes : List Item) (found : Found) : Type 0 where
    pub framed : came.ended ≡ true → IsOfLines (framing_by form.units) came.bytes
    pub rows : TakesToEnd question form sink0 sink1 (is_whole found) (answered_of question form 0 outcomes)
    pub messages : Received messages_in told0 told1 (told_of form (answered_of question form 0 outcomes))
    pub counts : AreCounts question found.counts (answered_of question form 0 outcomes)
    pub end : EndsWith question form came outcomes found

  -- What passed in one that stopped, by the fault. A failed read leaves no line unanswered whose end came. Of a stream that is
  -- refused as a whole nothing is answered. After a write that failed the stream is one of lines, if it had ended. A size or a
  -- growth stops none.
  abbrev pub SearchStopped : Question → Form → S → S → Device E → Device E → SearchFault → Came → List Item → Type 0
  SearchStopped question form sink0 sink1 told0 told1 faults.Read came outcomes =
      (came.ended ≡ false) × (format_of came.bytes ≡ None) × CameOfEach (items_come form.units false came.bytes) outcomes
      × AnsweredToEnd question form sink0 sink1 told0 told1 (answered_of question form 0 outcomes)
  SearchStopped question form sink0 sink1 told0 told1 faults.Framing came outcomes =
      IsRefused (framing_by form.units) came faults.Framing × Answered question form sink0 sink1 told0 told1 []
  SearchStopped question form sink0 sink1 told0 told1 (faults.Foreign format) came outcomes =
      IsRefused (framing_by form.units) came (faults.Foreign format) × Answered question form sink0 sink1 told0 told1 []
  SearchStopped question form sink0 sink1 told0 told1 faults.Size came outcomes = ⊥
  SearchStopped question form sink0 sink1 told0 told1 faults.Memory came outcomes = ⊥
  SearchStopped question form sink0 sink1 told0 told1 fault came outcomes =
      (came.ended ≡ true → IsOfLines (framing_by form.units) came.bytes) × AnsweredInPart question form sink0 sink1 told0 told1 (answered_of question form 0 outcomes)
