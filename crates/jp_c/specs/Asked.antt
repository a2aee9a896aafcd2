-- What the lines of a text are asked, and which rows are written of them.
use Rattle.std.specs.Prelude.{◌≡◌, ◌≢◌, ℕ, List, [], ◌∷◌, ◌++◌, codes, Bool, true, false, is_some, ◌⊎◌, MatchResult, Option, Some, None, Result, slice_get}
use denote.Ref.{Bor}
use Rattle.jp_devices.specs.Devices.{Begins}
use Rattle.jp_model.specs.declared.Framing.TheVariants as framings
use Rattle.jp_model.specs.declared.QueryFault.{QueryFault}
use Rattle.jp_model.specs.Lines.{pieces, without_empty}
use Rattle.jp_model.specs.Query.Singular.{singular_steps}
use Rattle.jp_model.specs.Query.Status.{query, refused_query}
use Rattle.jp_model.specs.Query.Syntax.{Logical, Path, Segments, path, root}
use Rattle.jp_query.specs.Conditions.{RefusesCondition}
use Rattle.jp_query.specs.Refusals.{IsConditionOf}
use Rattle.jp_query.specs.Status.{query_of}
use Rattle.jp_query.specs.declared.reading.Refusal.{Refusal}
use Rattle.jp_query.specs.declared.reading.Refusal.TheVariants as refusals
use Rattle.jp_form.specs.declared.form.Form.{Form}
use Rattle.jp_form.specs.declared.form.Shown.{Shown}
use Rattle.jp_form.specs.declared.form.Shown.TheVariants as shown
use Rattle.jp_form.specs.declared.form.Spelling.{Spelling}
use Rattle.jp_form.specs.declared.form.Spelling.TheVariants as spellings
use Rattle.jp_form.specs.declared.form.Summary.TheVariants as summaries
use Rattle.jp_form.specs.declared.form.Table.{Table}
use Rattle.jp_form.specs.declared.form.Table.TheVariants as tables
use Rattle.jp_form.specs.declared.form.Units.{Units}
use Rattle.jp_form.specs.declared.form.Units.TheVariants as unit
use Rattle.jp_grep.specs.Conditions.{Condition, expression}
use Rattle.jp_grep.specs.Formats.{format_of}
use Rattle.jp_grep.specs.Items.{items_come}
use Rattle.jp_grep.specs.Matching.{conditions_of, each_of, queries_of}
use Rattle.jp_grep.specs.Rows.{output_from, stream_events}
use Rattle.jp_grep.specs.Watching.{answered_of}
use Rattle.jp_grep.specs.declared.format.Format.{Format}
use Rattle.jp_grep.specs.declared.question.Queries.{Queries}
use Rattle.jp_grep.specs.declared.question.Queries.TheVariants as purposes
use Rattle.jp_grep.specs.declared.question.Question.{Question}
use Rattle.jp_grep.specs.declared.question.Wanted.TheVariants as wanted
use Rattle.jp_sink.specs.Events.{Event}
use Rattle.jp_c.specs.declared.filter.Rows.{Rows}
use Rattle.jp_c.specs.declared.question.FilterFault.{FilterFault}
use Rattle.jp_c.specs.declared.question.FilterFault.TheVariants as faults

-- some texts, or the text `$` where there is none
abbrev pub or_root : List (List ℕ) → List (List ℕ)
or_root [] = codes "$" ∷ []
or_root (text ∷ texts) = text ∷ texts

-- the texts of the queries: one on each line that is not empty
abbrev pub query_texts : List ℕ → List (List ℕ)
query_texts lines = or_root (without_empty (pieces 0x0A lines))

-- a query that is a column is singular (RFC 9535, section 2.3.5.1)
abbrev pub MayServe : Queries → Segments → Type 0
MayServe purposes.Filter q = Unit {0}
MayServe purposes.Columns q = is_some (singular_steps q) ≡ true

-- the queries are those that the texts spell, in their order, from the root on
abbrev pub AreQueries : Queries → List (List ℕ) → List Path → Type 0
AreQueries purpose [] [] = Unit {0}
AreQueries purpose [] (asked ∷ queries) = ⊥
AreQueries purpose (text ∷ texts) [] = ⊥
AreQueries purpose (text ∷ texts) (asked ∷ queries) =
    ((q : Segments) × (query_of text ≡ query q) × MayServe purpose q × (asked ≡ path root q)) × AreQueries purpose texts queries

-- the condition is the one that the text spells, unless it is empty
abbrev pub AreConditions : List ℕ → List Condition → Type 0
AreConditions [] conditions = conditions ≡ []
AreConditions (byte ∷ bytes) conditions = (l : Logical) × IsConditionOf (byte ∷ bytes) l × (conditions ≡ expression l ∷ [])

-- The question is what this condition and these queries ask of lines.
pub record Asks (condition queries : List ℕ) (purpose : Queries) (question : Question) : Type 0 where
  pub each : each_of question ≡ None
  pub conditions : AreConditions condition (conditions_of question)
  pub queries_are : AreQueries purpose (query_texts queries) (queries_of question)
  pub wanted : question.wanted ≡ wanted.Matching
  pub purpose_is : question.purpose ≡ purpose

-- a text is refused, as a query or since it is no column
abbrev pub IsRefusedQuery : Queries → List ℕ → Type 0
IsRefusedQuery purpose text = ((fault : QueryFault) × (query_of text ≡ refused_query fault))
    ⊎ ((purpose ≡ purposes.Columns) × (q : Segments) × (query_of text ≡ query q) × (is_some (singular_steps q) ≡ false))

-- one of some texts is
abbrev pub HasRefusedQuery : Queries → List (List ℕ) → Type 0
HasRefusedQuery purpose [] = ⊥
HasRefusedQuery purpose (text ∷ texts) = IsRefusedQuery purpose text ⊎ HasRefusedQuery purpose texts

-- a text that is not empty is refused as a condition
abbrev pub IsRefusedCondition : List ℕ → Type 0
IsRefusedCondition text = (text ≢ []) × (fault : QueryFault) × RefusesCondition text fault

-- the condition is refused, or one of the queries is
abbrev pub IsRefusedQuestion : (condition queries : List ℕ) → Queries → Type 0
IsRefusedQuestion condition queries purpose = IsRefusedCondition condition ⊎ HasRefusedQuery purpose (query_texts queries)

-- ---- why a question is not made: it is refused, or a growth was

abbrev pub fault_of : Refusal → FilterFault
fault_of (refusals.Fault place) = faults.Question
fault_of refusals.Memory = faults.Memory

abbrev pub IsRefusedOrMemory : FilterFault → Type 0 → Type 0
IsRefusedOrMemory faults.Question refused = refused
IsRefusedOrMemory faults.Memory refused = Unit {0}
IsRefusedOrMemory _ refused = ⊥

abbrev pub TellsRefusedQuery : FilterFault → Queries → List ℕ → Type 0
TellsRefusedQuery fault purpose text = IsRefusedOrMemory fault (IsRefusedQuery purpose text)

abbrev pub TellsRefusedQueries : FilterFault → Queries → List (List ℕ) → Type 0
TellsRefusedQueries fault purpose texts = IsRefusedOrMemory fault (HasRefusedQuery purpose texts)

abbrev pub TellsRefusedCondition : FilterFault → List ℕ → Type 0
TellsRefusedCondition fault text = IsRefusedOrMemory fault (IsRefusedCondition text)

abbrev pub TellsRefusedQuestion : FilterFault → (condition queries : List ℕ) → Queries → Type 0
TellsRefusedQuestion fault condition queries purpose = IsRefusedOrMemory fault (IsRefusedQuestion condition queries purpose)

-- the queries that the texts spell stand after the others
abbrev pub AddsQueries : Queries → List (List ℕ) → Question → Question → Type 0
AddsQueries purpose texts old new = (added : List Path) × AreQueries purpose texts added × (queries_of new ≡ queries_of old ++ added)

-- ---- rows

-- rows for which the queries filter
abbrev pub filtered : Shown → Spelling → Rows
filtered shows spelling = record { shown = shows; spelling = spelling; queries = purposes.Filter }

-- rows of a table, in which each query is a column
abbrev pub columns : Table → Rows
columns table = record { shown = shown.Cells table; spelling = spellings.Source; queries = purposes.Columns }

-- the lines themselves
abbrev pub line_rows : Rows
line_rows = filtered (shown.Line false) spellings.Source

-- the lines that are selected, told as nodes
abbrev pub node_rows : Rows
node_rows = filtered shown.Nodes spellings.Source

-- what is shown, by its number: nothing; lines; paths and values; CSV; TSV; lines in canonical form; paths and values in it; values
-- in it; values as they are spelled; values with strings as text
abbrev pub all_rows : List Rows
all_rows =
    filtered shown.Nothing spellings.Source
    ∷ line_rows
    ∷ filtered (shown.Values true) spellings.Source
    ∷ columns tables.Commas
    ∷ columns tables.Tabs
    ∷ filtered (shown.Line false) spellings.Canonical
    ∷ filtered (shown.Values true) spellings.Canonical
    ∷ filtered (shown.Values false) spellings.Canonical
    ∷ filtered (shown.Values false) spellings.Source
    ∷ filtered (shown.Values false) spellings.Text
    ∷ []

-- the rows of a number
abbrev pub rows_of : ℕ → Option Rows
rows_of number = slice_get all_rows number

-- how such rows are written of the units of a text, with their numbers or without; no name stands in them
abbrev pub form_of : Bor (List ℕ) → Units → Rows → Bool → Form
form_of name units rows numbered = record {
  units = units;
  shown = rows.shown;
  spelling = rows.spelling;
  summary = summaries.Nothing;
  name = name;
  told_name = name;
  named = false;
  null = false;
  numbered = numbered;
  coloured = false;
  marked = false;
  silent = true;
  most = 18446744073709551615;
  trailing = 0;
}

-- lines, as units of a text
abbrev pub of_lines : Units
of_lines = unit.Lines framings.Lines

-- what is told of the units of a text that answer a question
abbrev pub events_by : Question → Form → List ℕ → List Event
events_by question form text = stream_events question form (answered_of question form 0 (items_come form.units true text))

-- and what is written of them
abbrev pub found_by : Question → Form → List ℕ → List ℕ
found_by question form text = output_from question form 1 (answered_of question form 0 (items_come form.units true text))

-- such rows of them are found
abbrev pub IsFound : Question → Units → Rows → (numbered : Bool) → (text found : List ℕ) → Type 0
IsFound question units rows numbered text found = (name : Bor (List ℕ)) × (found ≡ found_by question (form_of name units rows numbered) text)

-- The rows of the lines that answer what this condition and these queries ask.
abbrev pub IsFiltered : (text condition queries : List ℕ) → Rows → (numbered : Bool) → (left : List ℕ) → Type 0
IsFiltered text condition queries rows numbered left =
    (question : Question) × Asks condition queries rows.queries question × IsFound question of_lines rows numbered text left

-- the same for the number of what is shown
abbrev pub IsFilteredBy : (text condition queries : List ℕ) → Option Rows → (numbered : Bool) → (left : List ℕ) → Type 0
IsFilteredBy text condition queries None numbered left = ⊥
IsFilteredBy text condition queries (Some rows) numbered left = IsFiltered text condition queries rows numbered left

-- the text begins with the mark of another format
abbrev pub IsForeign : List ℕ → Type 0
IsForeign text = (first : List ℕ) × Begins first text × (format : Format) × (format_of first ≡ Some format)

-- why no rows of a text are found
abbrev pub TellsUnread : FilterFault → List ℕ → Type 0
TellsUnread faults.Format text = IsForeign text
TellsUnread faults.Memory text = Unit {0}
TellsUnread _ text = ⊥

-- the condition or a query is refused, where some rows have the number
abbrev pub IsRefusedFor : (condition queries : List ℕ) → Option Rows → Type 0
IsRefusedFor condition queries None = ⊥
IsRefusedFor condition queries (Some rows) = IsRefusedQuestion condition queries rows.queries

-- why nothing is found: no rows have the number, the question is refused, or the text is of another format, unless memory ran out
abbrev pub TellsFilterFault : FilterFault → (text condition queries : List ℕ) → Option Rows → Type 0
TellsFilterFault faults.Number text condition queries rows = rows ≡ None
TellsFilterFault faults.Question text condition queries rows = IsRefusedFor condition queries rows
TellsFilterFault faults.Format text condition queries rows = IsForeign text
TellsFilterFault faults.Memory text condition queries rows = Unit {0}

-- where nothing has the number, that alone is told
abbrev pub TellsNumberFirst : {A B : Type 0} → Result A FilterFault → Option B → Type 0
TellsNumberFirst result numbered = numbered ≡ None → MatchResult result (λ _. ⊥) (λ fault. fault ≡ faults.Number)
