-- What the rows of a filter have to do with those of a query.
use Rattle.std.specs.Prelude.{◌≡◌, ℕ, List, [], ◌∷◌, ◌++◌, flat_map, codes, decimal, Bool, true, false, None, Some}
use denote.Ref.{Bor}
use Rattle.jp_model.specs.declared.Framing.TheVariants as framings
use Rattle.jp_model.specs.Json.Reader.{status_of}
use Rattle.jp_model.specs.Meaning.Paths.{path_text}
use Rattle.jp_model.specs.Query.Syntax.{Segments, no_segments, path, root}
use Rattle.jp_model.specs.Rows.{Row, node_row, refusal_row, line_feed, source, tab, status_rows as query_rows}
use Rattle.jp_grep.specs.Matching.{conditions_of, each_of, queries_of}
use Rattle.jp_grep.specs.Rows.{item_events, item_rows, selected_in}
use Rattle.jp_grep.specs.Items.{Item, line_item}
use Rattle.jp_form.specs.declared.form.Form.{Form}
use Rattle.jp_form.specs.declared.form.Shown.TheVariants as shown
use Rattle.jp_form.specs.declared.form.Spelling.TheVariants as spellings
use Rattle.jp_form.specs.declared.form.Units.TheVariants as unit
use Rattle.jp_form.specs.declared.form.Summary.{Summary}
use Rattle.jp_grep.specs.declared.question.Question.{Question}
use Rattle.jp_grep.specs.declared.question.Wanted.TheVariants as wanted

-- values with their paths and the numbers of their lines, as `-onp` prints them
abbrev pub numbered_values : Summary → (name told : Bor (List ℕ)) → Bool → ℕ → Form
numbered_values summary name told silent most = record {
  units = unit.Lines framings.Lines;
  shown = shown.Values true;
  spelling = spellings.Source;
  summary = summary;
  name = name;
  told_name = told;
  named = false;
  null = false;
  numbered = true;
  coloured = false;
  marked = false;
  silent = silent;
  most = most;
  trailing = 0;
}

-- a row of a query's answer with a colon after its number; that of a refused line is none
abbrev pub row_with_colon : List ℕ → Row → List ℕ
row_with_colon line (node_row n node) = (decimal n ++ codes ":") ++ ((path_text node.location ++ tab ++ source line node.tree) ++ line_feed)
row_with_colon line (refusal_row n fault) = []

-- Asked one query and no condition, the rows of each line are those that the query answers, node by node.
abbrev pub RowsAreThoseOfAQuery : Type 0
RowsAreThoseOfAQuery = (question : Question) (query : Segments) → each_of question ≡ None → queries_of question ≡ path root query ∷ [] → conditions_of question ≡ [] → question.wanted ≡ wanted.Matching
    → (summary : Summary) (name told : Bor (List ℕ)) (silent : Bool) (most n : ℕ) (line : List ℕ)
    → item_rows question (numbered_values summary name told silent most) n (line_item framings.Lines line) ≡ flat_map (row_with_colon line) (query_rows query n (status_of framings.Lines line))

-- two questions that ask the same, the one of each line, the other of each node that `$` selects, which is its root
pub record AsksEachRoot (lines each : Question) : Type 0 where
  pub of_lines : each_of lines ≡ None
  pub of_roots : each_of each ≡ Some no_segments
  pub queries : queries_of each ≡ queries_of lines
  pub purpose : each.purpose ≡ lines.purpose
  pub conditions : conditions_of each ≡ conditions_of lines
  pub wanted : each.wanted ≡ lines.wanted

-- They select alike, and what is told is the same.
abbrev pub EachRootIsItsLine : Type 0
EachRootIsItsLine = (lines each : Question) → AsksEachRoot lines each → (form : Form) (n : ℕ) (item : Item)
    → (item_events each form n item ≡ item_events lines form n item) × (selected_in each item ≡ selected_in lines item)
