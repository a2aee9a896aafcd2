-- Texts that are told part by part.
use Rattle.std.proofs.Common.{◌≡◌, ◌∙◌, ◌++◌, ◌∷◌, [], ℕ, List, true, ap, append-nil, refl, sym, subst, Result, Ok, Err}
use Rattle.jp_sink.specs.Events.{Event, row_event, text_of}
use Rattle.jp_sink.specs.Telling.{Refuses, Stops, Takes, is_failure}
use Rattle.jp_sink.specs.declared.Untold.{Untold}
use Rattle.jp_sink.specs.declared.Untold.TheVariants as untold
use Rattle.std.proofs.lemmas.Bool.{false≢true}
use Rattle.jp_sink.proofs.Texts.{text_of_more}
use Rattle.jp_grep.specs.Faults.{write_of}
use Rattle.jp_grep.specs.Telling.{AreParts, PutsEnd, PutsText, TakesPart}
use Rattle.jp_grep.specs.declared.fault.SearchFault.{SearchFault}
use Rattle.jp_grep.proofs.Putting.{both_put, none_put, part_put, part_put_more}

-- a text in one part
pub in_one : (text : List ℕ) → (parts : List Event) × AreParts text parts
in_one [] = ([], record { says = refl; none = λ none. refl })
in_one (byte ∷ more) = (row_event true (byte ∷ more) ∷ [], record { says = append-nil (byte ∷ more); none = λ none. absurd (cc) })

module _ {S : Type 0} (stands stopped : S → List Event → Type 0) where
  -- a fault by which the sink failed stopped it
  pub stops_of : (old new : S) (events : List Event) (fault : Untold) → is_failure fault ≡ true → Refuses stands stopped old new events fault → Stops stands stopped old new events
  stops_of old new events untold.Line e h = absurd (false≢true e)
  stops_of old new events untold.Sink e h = h

  -- a text was told by parts, or a part of it
  abbrev pub Told : (old new : S) → List ℕ → Type 0
  Told old new text = (parts : List Event) × (text_of parts ≡ text) × Takes stands old new parts

  abbrev pub ToldPart : (old new : S) → List ℕ → Type 0
  ToldPart old new text = (parts : List Event) × (text_of parts ≡ text) × TakesPart stands stopped old new parts

  -- a text of no byte
  pub no_text : (sink : S) → Told sink sink []
  no_text sink = ([], refl, none_put stands stopped sink)

  part_text : (parts : List Event) (text part : List ℕ) → text_of parts ≡ text → text_of (parts ++ row_event true part ∷ []) ≡ text ++ part
  part_text parts text part is = text_of_more parts (row_event true part ∷ []) ∙ ap (λ l. l ++ (part ++ [])) is ∙ ap (λ l. text ++ l) (append-nil part)

  -- one part more was told
  pub part_told : (start old new : S) (text part : List ℕ) → Told start old text → Takes stands old new (row_event true part ∷ []) → Told start new (text ++ part)
  part_told start old new text part put takes = (put.0 ++ row_event true part ∷ [], part_text put.0 text part put.1, both_put stands stopped start old new put.0 (row_event true part ∷ []) put.2 takes)

  -- it was not
  pub part_untold : (start old new : S) (text part : List ℕ) → Told start old text → TakesPart stands stopped old new (row_event true part ∷ []) → ToldPart start new (text ++ part)
  part_untold start old new text part put takes = (put.0 ++ row_event true part ∷ [], part_text put.0 text part put.1, part_put stands stopped start old new put.0 (row_event true part ∷ []) put.2 takes)

  -- one before it was not
  pub part_left : (start old : S) (text part : List ℕ) → ToldPart start old text → ToldPart start old (text ++ part)
  part_left start old text part put = (put.0 ++ row_event true part ∷ [], part_text put.0 text part put.1, part_put_more stands stopped start old put.0 (row_event true part ∷ []) put.2)
