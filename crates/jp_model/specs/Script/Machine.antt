-- The script machine: what a command answers over a collection, and the state that it leaves (profile).
use Rattle.std.specs.Prelude.{ℕ, ◌+◌, ◌-◌, List, [], ◌∷◌, ◌++◌, length, map, flat_map, count_by, sum_by, slice_get, slice_set, Bool, true, false, not, ◌&&◌, ◌==◌, nat_lt, nat_le, Option, Some, None, IsTrue, if◌then◌else◌, codes, decimal}
use Rattle.std.specs.List.{list_any}
use Rattle.jp_model.specs.declared.Framing.{Framing}
use Rattle.jp_model.specs.declared.QueryFault.{QueryFault}
use Rattle.jp_model.specs.declared.QueryFault.TheVariants as faults
use Rattle.jp_model.specs.declared.Setup.{Setup}
use Rattle.jp_model.specs.Steps.{Step, steps_equal}
use Rattle.jp_model.specs.Lines.{separator_of}
use Rattle.jp_model.specs.Json.Status.{LineStatus, blank, refused, parsed}
use Rattle.jp_model.specs.Json.Reader.{status_of}
use Rattle.jp_model.specs.Query.Singular.{singular_steps}
use Rattle.jp_model.specs.Query.Status.{QueryStatus, refused_query, query}
use Rattle.jp_model.specs.Meaning.Paths.{path_text}
use Rattle.jp_model.specs.Rows.{Row, node_row, refusal_row, rows, line_feed, node_text, refusal_text}
use Rattle.jp_model.specs.Plans.{explain, steps_nodes}
use Rattle.jp_model.specs.Script.Commands.{Command, empty_line, query_line, explain_line, index_line, drop_line, indexes_line, check_line, append_line, replace_line, unknown_line, MayWantMemory}

-- the word of a fault
abbrev pub query_fault_word : QueryFault → List ℕ
query_fault_word faults.Size = codes "size"
query_fault_word faults.Syntax = codes "syntax"
query_fault_word faults.Integer = codes "integer"
query_fault_word faults.Number = codes "number"
query_fault_word faults.Function = codes "function"
query_fault_word faults.Types = codes "types"

-- the lines' texts and the indexed paths, each in order
pub record State : Type 0 where
  pub lines : List (List ℕ)
  pub paths : List (List Step)

-- one output line
abbrev pub said : List ℕ → List ℕ
said text = text ++ line_feed

-- one error line
abbrev pub error : List ℕ → List ℕ
error text = codes "error: " ++ text ++ line_feed

-- a count, as an answer ends
abbrev pub count_line : ℕ → List ℕ
count_line n = codes "= " ++ decimal n ++ line_feed

-- a path is among some others
abbrev pub has_path : List Step → List (List Step) → Bool
has_path p paths = list_any (steps_equal p) paths

-- some paths without one of them
abbrev pub without_path : List Step → List (List Step) → List (List Step)
without_path p [] = []
without_path p (q ∷ qs) = if steps_equal p q then without_path p qs else q ∷ without_path p qs

-- the sum of length + 1 over the lines
abbrev pub bytes_held : List (List ℕ) → ℕ
bytes_held lines = sum_by (λ line. length line + 1) lines

-- Growths were refused only in commands that may want memory. What a command line asks for is a parameter.
abbrev pub OnlyForMemory : (List ℕ → Command) → List (List ℕ) → List Bool → Type 0
OnlyForMemory asked [] [] = Unit {0}
OnlyForMemory asked [] (starved ∷ flags) = ⊥
OnlyForMemory asked (line ∷ rest) [] = Unit {0}
OnlyForMemory asked (line ∷ rest) (starved ∷ flags) = (IsTrue starved → MayWantMemory (asked line)) × OnlyForMemory asked rest flags

-- what an answer is, and the state that it leaves
pub record Outcome : Type 0 where
  pub written : List ℕ
  pub after : State

-- an answer that leaves the state
abbrev pub keeps : List ℕ → State → Outcome
keeps text state = record { written = text; after = state }

-- the statuses of the lines
abbrev pub statuses : Framing → List (List ℕ) → List LineStatus
statuses f lines = map (status_of f) lines

-- a line's text, and nothing where there is no such line
abbrev pub text_or_nothing : Option (List ℕ) → List ℕ
text_or_nothing None = []
text_or_nothing (Some line) = line

-- the text of a row
abbrev pub row_text : Framing → List (List ℕ) → Row → List ℕ
row_text f lines (node_row n node) = node_text f n (text_or_nothing (slice_get lines (n - 1))) node
row_text f lines (refusal_row n fault) = refusal_text f n fault

-- the row is of a node
abbrev pub is_node : Row → Bool
is_node (node_row n node) = true
is_node (refusal_row n fault) = false

-- all rows, and the number of those of nodes
abbrev pub rows_text : Framing → List (List ℕ) → List Row → List ℕ
rows_text f lines found = flat_map (row_text f lines) found ++ count_line (count_by is_node found)

-- what `query` answers
abbrev pub query_answer : Framing → State → QueryStatus → List ℕ
query_answer f state (refused_query fault) = error (codes "query " ++ query_fault_word fault)
query_answer f state (query q) = rows_text f state.lines (rows q (statuses f state.lines))

-- what `explain` answers
abbrev pub explain_answer : Framing → State → QueryStatus → List ℕ
explain_answer f state (refused_query fault) = error (codes "query " ++ query_fault_word fault)
explain_answer f state (query q) = explain q state.paths (statuses f state.lines)

-- the singular path that an argument spells
abbrev pub index_path : QueryStatus → Option (List Step)
index_path (refused_query fault) = None
index_path (query q) = singular_steps q

-- the line has a tree in which the path has a node
abbrev pub has_node : List Step → LineStatus → Bool
has_node p (parsed t) = not (length (steps_nodes p t) == 0)
has_node p _ = false

-- what `index` answers, and the path that it adds
abbrev pub index_answer : Framing → State → Option (List Step) → Outcome
index_answer f state None = keeps (error (codes "index path")) state
index_answer f state (Some p) =
    if has_path p state.paths then keeps (error (codes "index exists")) state
    else if nat_le 16 (length state.paths) then keeps (error (codes "index limit")) state
    else record {
      written = said (codes "indexed " ++ decimal (count_by (has_node p) (statuses f state.lines)));
      after = record state { paths = state.paths ++ p ∷ [] };
    }

-- what `drop` answers, and the path that it takes away
abbrev pub drop_answer : State → Option (List Step) → Outcome
drop_answer state None = keeps (error (codes "index path")) state
drop_answer state (Some p) =
    if has_path p state.paths then record { written = said (codes "dropped"); after = record state { paths = without_path p state.paths } }
    else keeps (error (codes "index missing")) state

-- what `indexes` answers
abbrev pub indexes_answer : State → List ℕ
indexes_answer state = flat_map (λ p. said (path_text p)) state.paths ++ count_line (length state.paths)

-- the line is refused
abbrev pub is_refused_status : LineStatus → Bool
is_refused_status (refused fault) = true
is_refused_status _ = false

-- the line is blank
abbrev pub is_blank_status : LineStatus → Bool
is_blank_status blank = true
is_blank_status _ = false

-- the refused lines, from line n on
abbrev pub refusals_from : Framing → ℕ → List LineStatus → List ℕ
refusals_from f n [] = []
refusals_from f n (refused fault ∷ ss) = refusal_text f n fault ++ refusals_from f (n + 1) ss
refusals_from f n (s ∷ ss) = refusals_from f (n + 1) ss

-- what `check` answers
abbrev pub check_answer : Framing → State → List ℕ
check_answer f state =
    let ss = statuses f state.lines in
    refusals_from f 1 ss ++ said (codes "= " ++ decimal (length ss) ++ codes " lines, " ++ decimal (count_by is_refused_status ss)
    ++ codes " refused, " ++ decimal (count_by is_blank_status ss) ++ codes " blank")

-- the lines after an edit, where it is not refused
abbrev pub edited : Setup → State → List ℕ → List (List ℕ) → List ℕ → Outcome
edited setup state line lines done =
    if nat_lt setup.most (bytes_held lines) then keeps (error (codes "size")) state
    else if list_any (λ b. b == separator_of setup.framing) line then keeps (error (codes "separator")) state
    else record { written = done; after = record state { lines = lines } }

-- The status of a query is a parameter.
module _ (query_of : List ℕ → QueryStatus) where
  -- what a command answers, and the state that it leaves
  abbrev pub step : Setup → State → Command → Outcome
  step setup state empty_line = keeps [] state
  step setup state (query_line x) = keeps (query_answer setup.framing state (query_of x)) state
  step setup state (explain_line x) = keeps (explain_answer setup.framing state (query_of x)) state
  step setup state (index_line x) = index_answer setup.framing state (index_path (query_of x))
  step setup state (drop_line x) = drop_answer state (index_path (query_of x))
  step setup state indexes_line = keeps (indexes_answer state) state
  step setup state check_line = keeps (check_answer setup.framing state) state
  step setup state (append_line line) = edited setup state line (state.lines ++ line ∷ []) (said (codes "appended " ++ decimal (length state.lines + 1)))
  step setup state (replace_line n line) =
      if nat_le 1 n && nat_le n (length state.lines)
      then edited setup state line (slice_set state.lines (n - 1) line) (said (codes "replaced " ++ decimal n))
      else keeps (error (codes "line")) state
  step setup state unknown_line = keeps (error (codes "command")) state

  -- A command for which memory was refused keeps the state.
  abbrev pub step_unless : Bool → Setup → State → Command → Outcome
  step_unless true setup state command = keeps (error (codes "memory")) state
  step_unless false setup state command = step setup state command

  -- What these command lines answer, and the state that they leave. A flag tells for each of them in turn whether a
  -- growth was refused in it; where the flags end, none was. What a command line asks for is a parameter.
  abbrev pub run_commands : (List ℕ → Command) → Setup → State → List (List ℕ) → List Bool → Outcome
  run_commands asked setup state [] flags = keeps [] state
  run_commands asked setup state (line ∷ rest) [] =
      let first = step setup state (asked line) in
      let later = run_commands asked setup first.after rest [] in
      record { written = first.written ++ later.written; after = later.after }
  run_commands asked setup state (line ∷ rest) (starved ∷ flags) =
      let first = step_unless starved setup state (asked line) in
      let later = run_commands asked setup first.after rest flags in
      record { written = first.written ++ later.written; after = later.after }
