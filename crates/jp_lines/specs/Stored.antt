-- How lines are kept that were read.
use Rattle.std.specs.Prelude.{◌≡◌, ℕ, ◌≤◌, List, length, Bool, true, false, Option, Some, None}
use Rattle.jp_model.specs.declared.Framing.{Framing}
use Rattle.jp_model.specs.Json.Places.{bytes_between}
use Rattle.jp_model.specs.Json.Status.{blank, refused, parsed}
use Rattle.jp_model.specs.Json.Reader.{status_of}
use Rattle.jp_model.specs.Json.Tree.{Tree}
use Rattle.jp_nodes.specs.Tapes.{spelled}
use Rattle.jp_nodes.specs.Forms.{IsAmong}
use Rattle.jp_lines.specs.declared.line.Line.{Line}
use Rattle.jp_lines.specs.declared.line.Line.TheVariants as lines
use Rattle.jp_lines.specs.declared.Status.{Status}
use Rattle.jp_lines.specs.declared.Status.TheVariants as told

-- the text of a stored line: some bytes of those that were loaded, or its own
abbrev pub stored_text : List ℕ → Line → List ℕ
stored_text bytes (lines.Loaded status nodes span tape) = bytes_between bytes span.start span.end
stored_text bytes (lines.Edited line) = line.value.text.items

-- a span is of the loaded bytes
abbrev pub IsWithin : List ℕ → Line → Type 0
IsWithin bytes (lines.Loaded status nodes span tape) = (span.start ≤ span.end) × (span.end ≤ length bytes)
IsWithin bytes (lines.Edited line) = Unit {0}

-- what is told of a stored line
abbrev pub told_of : Line → Status
told_of (lines.Loaded status nodes span tape) = status
told_of (lines.Edited line) = line.value.status

-- the line with this text is what is told of it
abbrev pub IsTold : Framing → Status → List ℕ → Type 0
IsTold framing told.Blank line = status_of framing line ≡ blank
IsTold framing (told.Refused fault) line = status_of framing line ≡ refused fault
IsTold framing told.Tree line = status_of framing line ≡ parsed (spelled line)

-- where a tree is told of, `nodes` nodes from the word `tape` of the tapes on are the tape of the line
abbrev pub IsTapeAmong : Status → (tapes : List ℕ) (tape nodes : ℕ) → List ℕ → Type 0
IsTapeAmong told.Tree tapes tape nodes line = IsAmong tapes tape nodes line
IsTapeAmong status tapes tape nodes line = Unit {0}

-- a stored line has its tape, among those that were loaded or alone
abbrev pub HasTape : List ℕ → Line → List ℕ → Type 0
HasTape tapes (lines.Loaded status nodes span tape) text = IsTapeAmong status tapes tape nodes text
HasTape tapes (lines.Edited line) text = IsTapeAmong line.value.status line.value.tape.items 0 line.value.nodes text

-- a status that tells of a tree
abbrev pub is_tree_status : Status → Bool
is_tree_status told.Tree = true
is_tree_status status = false

-- one that tells of a fault
abbrev pub is_fault_status : Status → Bool
is_fault_status (told.Refused fault) = true
is_fault_status status = false

-- the tree of a line by what is told of it, where it has one
abbrev pub told_tree : Status → List ℕ → Option Tree
told_tree told.Tree line = Some (spelled line)
told_tree status line = None

-- a stored line is read
pub record IsRead (framing : Framing) (bytes tapes : List ℕ) (line : Line) : Type 0 where
  pub within : IsWithin bytes line
  pub told : IsTold framing (told_of line) (stored_text bytes line)
  pub tape : HasTape tapes line (stored_text bytes line)

-- the same in some framing
pub record IsReadSomehow (bytes tapes : List ℕ) (line : Line) : Type 0 where
  pub framing : Framing
  pub read : IsRead framing bytes tapes line
