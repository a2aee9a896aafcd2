-- How a list is read.
use Rattle.std.specs.Prelude.{◌≡◌, List, [], ℕ, false, true, None, Option, ◌⊎◌}
use denote.Ref.{Bor}
use Rattle.jp_devices.specs.Devices.{Came, Device, Received}
use Rattle.jp_listed.specs.Sets.{HasLines}
use Rattle.jp_listed.specs.declared.listed.Listed.{Listed}
use Rattle.jp_model.specs.declared.Framing.TheVariants as framings
use Rattle.jp_model.specs.Lines.{closed_lines}
use Rattle.jp_form.specs.declared.form.Form.{Form}
use Rattle.jp_form.specs.declared.form.Shown.TheVariants as shown
use Rattle.jp_form.specs.declared.form.Spelling.TheVariants as spellings
use Rattle.jp_form.specs.declared.form.Summary.TheVariants as summaries
use Rattle.jp_form.specs.declared.form.Units.TheVariants as units
use Rattle.jp_grep.specs.Matching.{conditions_of, each_of, queries_of}
use Rattle.jp_grep.specs.Rows.{output_from}
use Rattle.jp_grep.specs.Items.{Item, items_come}
use Rattle.jp_grep.specs.Told.{told_of}
use Rattle.jp_grep.specs.Watching.{AreCounts, answered_of}
use Rattle.jp_grep.specs.declared.fault.SearchFault.{SearchFault}
use Rattle.jp_grep.specs.declared.fault.SearchFault.TheVariants as faults
use Rattle.jp_grep.specs.declared.progress.Counts.{Counts}
use Rattle.jp_grep.specs.declared.question.Queries.TheVariants as purposes
use Rattle.jp_grep.specs.declared.question.Question.{Question}
use Rattle.jp_grep.specs.declared.question.Wanted.TheVariants as wanted

-- nothing is asked for, so that each value is another than what is asked for
pub record AsksForNothing (question : Question) : Type 0 where
  pub each : each_of question ≡ None
  pub purpose : question.purpose ≡ purposes.Filter
  pub queries : queries_of question ≡ []
  pub conditions : conditions_of question ≡ []
  pub wanted : question.wanted ≡ wanted.Others

-- the lines that have a value, in canonical form
abbrev pub list_form : Bor (List ℕ) → Form
list_form name = record {
  units = units.Lines framings.Lines;
  shown = shown.Line false;
  spelling = spellings.Canonical;
  summary = summaries.Nothing;
  name = name;
  told_name = name;
  named = false;
  numbered = false;
  coloured = false;
  marked = false;
  silent = false;
  null = false;
  most = 18446744073709551615;
  trailing = 0;
}

-- what a fault of the search says of a list, the texts of which are written into memory
abbrev pub list_fault : SearchFault → SearchFault
list_fault faults.Write = faults.Memory
list_fault fault = fault

-- what is answered of the lines of a list that came
abbrev pub list_items : Question → Bor (List ℕ) → Came → List Item
list_items question name came = answered_of question (list_form name) 0 (items_come (list_form name).units came.ended came.bytes)

-- What passed when a list was read. It has the values of the lines that came and no other; its messages were told and it was
-- counted; and it is the whole stream, unless it has as many values as 64 bits count.
pub record ReadsList {E : Type 0} (messages_in : E → Option (List ℕ)) (name : Bor (List ℕ)) (told0 told1 : Device E) (came : Came) (listed : Listed) (counts : Counts) : Type 0 where
  pub question : Question
  pub asks : AsksForNothing question
  pub values : HasLines (closed_lines (output_from question (list_form name) 1 (list_items question name came))) listed
  pub messages : Received messages_in told0 told1 (told_of (list_form name) (list_items question name came))
  pub counted : AreCounts question counts (list_items question name came)
  pub all : (came.ended ≡ true) ⊎ (counts.selected ≡ 18446744073709551615)
