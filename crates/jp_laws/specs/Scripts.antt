-- What the laws of scripts say of commands and of lines.
use Rattle.std.specs.Prelude.{ℕ, List, [], ◌∷◌, ◌++◌, Bool, true, false, not, flat_map, filter, if◌then◌else◌}
use Rattle.jp_model.specs.declared.Setup.{Setup}
use Rattle.jp_model.specs.Characters.{text_equal}
use Rattle.jp_model.specs.Query.Status.{QueryStatus}
use Rattle.jp_model.specs.Script.Commands.{Command, explain_line, index_line, drop_line, indexes_line}
use Rattle.jp_model.specs.Script.Machine.{State, step_unless}

-- `index`, `drop`, `indexes` and `explain`: the commands that make, drop or tell indexes
abbrev pub is_of_indexes : Command → Bool
is_of_indexes (index_line x) = true
is_of_indexes (drop_line x) = true
is_of_indexes indexes_line = true
is_of_indexes (explain_line x) = true
is_of_indexes _ = false

-- the first of some flags, which are false where they end
abbrev pub first_flag : List Bool → Bool
first_flag [] = false
first_flag (flag ∷ flags) = flag

-- the flags after the first
abbrev pub later_flags : List Bool → List Bool
later_flags [] = []
later_flags (flag ∷ flags) = flags

-- each of some lines, with a line feed after it
abbrev pub with_line_feeds : List (List ℕ) → List ℕ
with_line_feeds lines = flat_map (λ line. line ++ 0x0A ∷ []) lines

-- the bytes begin with a byte order mark
abbrev pub begins_with_mark : List ℕ → Bool
begins_with_mark (a ∷ b ∷ c ∷ rest) = text_equal (a ∷ b ∷ c ∷ []) (0xEF ∷ 0xBB ∷ 0xBF ∷ [])
begins_with_mark _ = false

module _ (asked : List ℕ → Command) where
  -- the command lines but those of indexes
  abbrev pub other_lines : List (List ℕ) → List (List ℕ)
  other_lines lines = filter (λ line. not (is_of_indexes (asked line))) lines

  -- the flags of those
  abbrev pub other_flags : List (List ℕ) → List Bool → List Bool
  other_flags [] flags = []
  other_flags (line ∷ rest) flags = if is_of_indexes (asked line) then other_flags rest (later_flags flags) else first_flag flags ∷ other_flags rest (later_flags flags)

module _ (query_of : List ℕ → QueryStatus) (asked : List ℕ → Command) where
  -- what those answer in a run of all
  abbrev pub other_answers : Setup → State → List (List ℕ) → List Bool → List ℕ
  other_answers setup state [] flags = []
  other_answers setup state (line ∷ rest) flags =
      let first = step_unless query_of (first_flag flags) setup state (asked line) in
      (if is_of_indexes (asked line) then [] else first.written) ++ other_answers setup first.after rest (later_flags flags)
