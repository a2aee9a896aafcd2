-- Which reads a search makes.
use Rattle.std.specs.Prelude.{◌≡◌, ℕ, List, ◌++◌, length, false, Result, Ok, Err, ◌⊎◌}
use Rattle.jp_grep.specs.Fronts.{MayGoOn}
use Rattle.jp_grep.specs.Items.{Item, framing_by, items_come, unjudged_count}
use Rattle.jp_grep.specs.Outcomes.{CameOfEach}
use Rattle.jp_grep.specs.Rows.{selected_count}
use Rattle.jp_grep.specs.Watching.{IsShort, answered_of}
use Rattle.jp_form.specs.declared.form.Form.{Form}
use Rattle.jp_grep.specs.declared.input.Input.{Input}
use Rattle.jp_grep.specs.declared.question.Question.{Question}

-- how many bytes a read brought
abbrev pub read_count : {E : Type 0} → Result ℕ E → ℕ
read_count (Ok count) = count
read_count (Err fault) = 0

-- After these bytes, whose items have these outcomes, a search reads on: they may go on as lines, and fewer of their lines are
-- selected than are wanted, or fewer were passed after these than are to be.
pub record WantsMore (question : Question) (form : Form) (bytes : List ℕ) (outcomes : List Item) : Type 0 where
  pub front : MayGoOn (framing_by form.units) bytes
  pub each : CameOfEach (items_come form.units false bytes) outcomes
  pub fewer : IsShort form (selected_count question (answered_of question form 0 outcomes)) (unjudged_count (answered_of question form 0 outcomes))

-- Some bytes came before the last read, and some items had come of them; after those more was wanted.
pub record ReadLast {R : Type 0} (question : Question) (form : Form) (new : Input R) (came : List ℕ) (outcomes : List Item) : Type 0 where
  pub before : List ℕ
  pub last : List ℕ
  pub bytes : came ≡ before ++ last
  pub count : length last ≡ new.last
  pub first : List Item
  pub others : List Item
  pub items : outcomes ≡ first ++ others
  pub wants : WantsMore question form before first

-- no read was made, or more was wanted after what had come before the last one
abbrev pub ReadOn : {R : Type 0} → Question → Form → Input R → Input R → List ℕ → List Item → Type 0
ReadOn question form old new came outcomes = (new ≡ old) ⊎ ReadLast question form new came outcomes
