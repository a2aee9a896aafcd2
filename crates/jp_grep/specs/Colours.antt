-- What the output in colours has to do with that without.
use Rattle.std.specs.Prelude.{◌≡◌, ℕ, List, [], ◌∷◌, ◌++◌, All, map, Bool, false, true}
use Rattle.jp_context.specs.Groups.{context_text}
use Rattle.jp_context.specs.Told.{told_rows}
use Rattle.jp_form.specs.declared.form.Form.{Form}
use Rattle.jp_form.specs.declared.form.Spelling.TheVariants as spellings
use Rattle.jp_sink.specs.Events.{Event}
use Rattle.jp_paint.specs.Laws.{Paints}
use Rattle.jp_grep.specs.Items.{Item}
use Rattle.jp_grep.specs.Rows.{output_from, stream_events, summary_of}
use Rattle.jp_grep.specs.Tables.{header_text}
use Rattle.jp_grep.specs.declared.question.Question.{Question}

-- the same form without colours
abbrev pub without_colours : Form → Form
without_colours form = record {
  units = form.units;
  shown = form.shown;
  spelling = form.spelling;
  summary = form.summary;
  name = form.name;
  told_name = form.told_name;
  named = form.named;
  null = form.null;
  numbered = form.numbered;
  coloured = false;
  marked = false;
  silent = form.silent;
  most = form.most;
  trailing = form.trailing;
}

-- Nodes are coloured in lines that are printed as they stand, if in any.
abbrev pub MarksSources : Form → Type 0
MarksSources form = form.marked ≡ true → form.spelling ≡ spellings.Source

-- The text of what is told of a stream differs by escape sequences alone from that without colours, and so does its summary. A header
-- has none.
abbrev pub ColoursComeOffRows : Type 0
ColoursComeOffRows = (question : Question) (form : Form) → MarksSources form
    → (n : ℕ) (items : List Item) → Paints (output_from question (without_colours form) n items) (output_from question form n items)

abbrev pub ColoursComeOffSummaries : Type 0
ColoursComeOffSummaries = (form : Form) (count : ℕ) (all : Bool) → Paints (summary_of form.summary (without_colours form) count all) (summary_of form.summary form count all)

abbrev pub HeadersHaveNoColours : Type 0
HeadersHaveNoColours = (form : Form) (names : List (List ℕ)) → header_text form.shown form names ≡ header_text form.shown (without_colours form) names

-- a stream that is searched: in which form, and what plays its lines
pub record Searched : Type 0 where
  pub form : Form
  pub items : List Item

-- the same without colours
abbrev pub searched_without : Searched → Searched
searched_without one = record { form = without_colours one.form; items = one.items }

abbrev pub IsMarked : Searched → Type 0
IsMarked one = MarksSources one.form

-- what is told of some streams, one stream after another
abbrev pub events_of : Question → List Searched → List Event
events_of question [] = []
events_of question (one ∷ rest) = stream_events question one.form one.items ++ events_of question rest

-- What is shown around the selected lines of some streams differs by escape sequences alone from what is shown without colours.
abbrev pub ColoursComeOffContext : Type 0
ColoursComeOffContext = (question : Question) (streams : List Searched) → All IsMarked streams → (is_coloured : Bool) (before after : ℕ)
    → Paints (context_text false before after (told_rows (events_of question (map searched_without streams)))) (context_text is_coloured before after (told_rows (events_of question streams)))
