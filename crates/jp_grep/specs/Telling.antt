-- What a sink and the writer of messages received.
use Rattle.std.specs.Prelude.{◌≡◌, Bool, List, [], ◌∷◌, ℕ, ◌++◌, false, true, Option, Result, MatchResult, IfErr, is_err, ◌⊎◌}
use Rattle.jp_devices.specs.Devices.{Device, Writes}
use Rattle.jp_sink.specs.Events.{Event, gap_event, text_of}
use Rattle.jp_sink.specs.Telling.{SinkState, Stops, Takes}
use Rattle.jp_grep.specs.Faults.{IsToldOf, is_report_fault, is_write_fault, is_writer_fault}
use Rattle.jp_grep.specs.declared.fault.SearchFault.{SearchFault}
use Rattle.jp_grep.specs.declared.fault.SearchFault.TheVariants as faults

-- A sink took the first of these events.
abbrev pub TakesFirst : {S : Type 0} → (stands : S → List Event → Type 0) → (old new : S) → List Event → Type 0
TakesFirst stands old new events = (first others : List Event) × (events ≡ first ++ others) × Takes stands old new first

-- It took the first of them, or stopped among them.
abbrev pub TakesPart : {S : Type 0} → (stands stopped : S → List Event → Type 0) → (old new : S) → List Event → Type 0
TakesPart stands stopped old new events = TakesFirst stands old new events ⊎ Stops stands stopped old new events

-- It took all of them, or at an Err a part.
abbrev pub Puts : {S A E : Type 0} → (stands stopped : S → List Event → Type 0) → (old new : S) → Result A E → List Event → Type 0
Puts stands stopped old new result events = MatchResult result
    (λ _. Takes stands old new events)
    (λ _. TakesPart stands stopped old new events)

-- what tells a text by parts: nothing where there is none
pub record AreParts (text : List ℕ) (parts : List Event) : Type 0 where
  pub says : text_of parts ≡ text
  pub none : text ≡ [] → parts ≡ []

-- It took a text by parts, or at an Err some of them.
abbrev pub PutsText : {S A E : Type 0} → (stands stopped : S → List Event → Type 0) → (old new : S) → Result A E → List ℕ → Type 0
PutsText stands stopped old new result text = (parts : List Event) × (text_of parts ≡ text) × Puts stands stopped old new result parts

-- It took a text by parts, and nothing where there is none, or at an Err some of them.
abbrev pub PutsEnd : {S A E : Type 0} → (stands stopped : S → List Event → Type 0) → (old new : S) → Result A E → List ℕ → Type 0
PutsEnd stands stopped old new result text = (parts : List Event) × AreParts text parts × Puts stands stopped old new result parts

-- what is told of a line, by whether it is given up: what comes next does not follow it then
abbrev pub gap_where : (given_up : Bool) → List Event
gap_where false = []
gap_where true = gap_event ∷ []

-- neither the sink nor the writer of messages failed
abbrev pub AreOpen : {E : Type 0} → SinkState → Device E → Type 0
AreOpen sink messages = (sink.failed ≡ false) × (messages.failed ≡ false)

-- The sink was called after no call that failed, and is set as it was.
abbrev pub IsKept : (old new : SinkState) → Type 0
IsKept old new = (new.after ≡ old.after) × (new.settings ≡ old.settings)

-- A sink that had not failed handed on what it held, and stands as it did, or it stopped there. One that had failed is as it was.
pub record HandsOn {S : Type 0} (stands stopped : S → List Event → Type 0) (old new : S) (before after : SinkState) : Type 0 where
  pub handed : before.failed ≡ false → after.failed ≡ false → Takes stands old new [] × (after.unflushed ≡ false)
  pub broke : before.failed ≡ false → after.failed ≡ true → TakesPart stands stopped old new []
  pub left : before.failed ≡ true → new ≡ old
  pub kept : IsKept before after

-- `Write` is the only fault, told exactly where the sink failed.
abbrev pub TellsOfSink : {A : Type 0} → Result A SearchFault → (old new : SinkState) → Type 0
TellsOfSink result old new = IsToldOf is_write_fault result new.failed × IfErr result (λ fault. fault ≡ faults.Write) × IsKept old new

-- It took a text by parts, and failed exactly where it did not take all.
abbrev pub TellsText : {S E : Type 0} → (stands stopped : S → List Event → Type 0) → (old new : S) → (before after : SinkState) → Result Unit E → List ℕ → Type 0
TellsText stands stopped old new before after result text = PutsText stands stopped old new result text × (after.failed ≡ is_err result) × IsKept before after

-- The same of a part after what was told before it, unless that was not.
abbrev pub TellsPart : {S E : Type 0} → (stands stopped : S → List Event → Type 0) → (old new : S) → (before after : SinkState) → (was result : Result Unit E) → List ℕ → Type 0
TellsPart {S} stands stopped old new before after was result part =
    ((start : S) (text : List ℕ) → PutsText stands stopped start old was text → PutsText stands stopped start new result (text ++ part)) × (after.failed ≡ is_err result) × IsKept before after

-- The same of the writer of messages: `Report` is the only fault, and no call of it follows one that failed.
abbrev pub TellsOfMessages : {W A : Type 0} → Result A SearchFault → Device W → Device W → Type 0
TellsOfMessages result old new = IsToldOf is_report_fault result new.failed × IfErr result (λ fault. is_report_fault fault ≡ true) × (new.after ≡ old.after)

-- The same of both: `Write` and `Report` are the only faults, told exactly where the sink and the writer of the messages failed.
abbrev pub TellsOfBoth : {E A : Type 0} → Result A SearchFault → (old new : SinkState) → Device E → Device E → Type 0
TellsOfBoth result old new was_told is_told = IsToldOf is_write_fault result new.failed × IsToldOf is_report_fault result is_told.failed
    × IfErr result (λ fault. is_writer_fault fault ≡ true) × IsKept old new × (is_told.after ≡ was_told.after)

-- The same of what a search does: no fault is one that `never` is.
abbrev pub TellsOfSearch : {E A : Type 0} → (never : SearchFault → Bool) → Result A SearchFault → (old new : SinkState) → Device E → Device E → Type 0
TellsOfSearch never result old new was_told is_told = IsToldOf is_write_fault result new.failed × IsToldOf is_report_fault result is_told.failed
    × IsToldOf never result false × IsKept old new × (is_told.after ≡ was_told.after)

-- A text was written, and the writer failed exactly where it was not. No call of it follows one that failed.
abbrev pub WritesText : {W E : Type 0} → (W → Option (List ℕ)) → Device W → Device W → Result Unit E → List ℕ → Type 0
WritesText contents old new result text = Writes contents old new result text × (new.failed ≡ is_err result) × (new.after ≡ old.after)

-- The same of a part after what was written before it, unless that was not.
abbrev pub WritesPart : {W E : Type 0} → (W → Option (List ℕ)) → Device W → Device W → (before result : Result Unit E) → List ℕ → Type 0
WritesPart {W} contents old new before result part =
    ((start : Device W) (text : List ℕ) → Writes contents start old before text → Writes contents start new result (text ++ part)) × (new.failed ≡ is_err result) × (new.after ≡ old.after)
