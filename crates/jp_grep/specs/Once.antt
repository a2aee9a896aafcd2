-- What the query `$` and the question for refused lines have to do with each other.
use Rattle.std.specs.Prelude.{◌≡◌, ℕ, ◌+◌, List, [], ◌∷◌, ◌++◌, Bool, false, None}
use denote.Ref.{Bor}
use Rattle.jp_model.specs.declared.Framing.TheVariants as framings
use Rattle.jp_model.specs.Json.Reader.{status_of}
use Rattle.jp_model.specs.Json.Status.{blank}
use Rattle.jp_model.specs.Query.Syntax.{no_segments, path, root as from_root}
use Rattle.jp_model.specs.Rows.{line_feed}
use Rattle.jp_grep.specs.Matching.{conditions_of, each_of, queries_of}
use Rattle.jp_grep.specs.Rows.{item_rows, selected_in}
use Rattle.jp_grep.specs.Items.{Item, line_item}
use Rattle.jp_form.specs.declared.form.Form.{Form}
use Rattle.jp_form.specs.declared.form.Shown.TheVariants as shown
use Rattle.jp_form.specs.declared.form.Spelling.TheVariants as spellings
use Rattle.jp_form.specs.declared.form.Units.TheVariants as unit
use Rattle.jp_form.specs.declared.form.Summary.{Summary}
use Rattle.jp_grep.specs.declared.question.Question.{Question}
use Rattle.jp_grep.specs.declared.question.Wanted.TheVariants as wanted

-- lines as they are, with nothing in front
abbrev pub bare_lines : Summary → (name told : Bor (List ℕ)) → Bool → ℕ → Form
bare_lines summary name told silent most = record {
  units = unit.Lines framings.Lines;
  shown = shown.Line false;
  spelling = spellings.Source;
  summary = summary;
  name = name;
  told_name = told;
  named = false;
  null = false;
  numbered = false;
  coloured = false;
  marked = false;
  silent = silent;
  most = most;
  trailing = 0;
}

-- lines are asked the query `$`, which has no segments, and no condition
pub record AsksRoot (question : Question) : Type 0 where
  pub each : each_of question ≡ None
  pub queries : queries_of question ≡ path from_root no_segments ∷ []
  pub conditions : conditions_of question ≡ []
  pub wanted : question.wanted ≡ wanted.Matching

-- Each line that is not blank is selected by one of both questions, and not by the other. Of whichever selects it, the row is
-- the line and a line feed.
pub record IsSelectedOnce (root refused : Question) (form : Form) (n : ℕ) (line : Item) : Type 0 where
  pub once : selected_in root line + selected_in refused line ≡ 1
  pub same : item_rows root form n line ++ item_rows refused form n line ≡ line.text ++ line_feed

abbrev pub EachLineIsSelectedOnce : Type 0
EachLineIsSelectedOnce = (root refused : Question) → AsksRoot root → refused.wanted ≡ wanted.Refused
    → (summary : Summary) (name told : Bor (List ℕ)) (silent : Bool) (most n : ℕ) (line : List ℕ) → ¬ (status_of framings.Lines line ≡ blank)
    → IsSelectedOnce root refused (bare_lines summary name told silent most) n (line_item framings.Lines line)
