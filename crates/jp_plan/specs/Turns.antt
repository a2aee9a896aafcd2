-- Two ascending lists of lines, taken in turn: those that are opened, and those that are refused.
use Rattle.std.specs.Prelude.{◌≡◌, ℕ, ◌+◌, ◌≤◌, List, [], ◌∷◌, ◌++◌, drop}
use Rattle.jp_model.specs.Json.Status.{LineStatus}
use Rattle.jp_model.specs.Numbered.{numbers_where}
use Rattle.jp_model.specs.Steps.{Step}
use Rattle.jp_model.specs.Query.Syntax.{Segments}
use Rattle.jp_model.specs.Plans.{is_opened}
use Rattle.jp_model.specs.Rows.{Row, rows_from, rows}
use Rattle.jp_model.specs.Script.Machine.{is_refused_status}
use Rattle.jp_plan.specs.declared.turn.Turn.{Turn}
use Rattle.jp_plan.specs.declared.turn.Turn.TheVariants as turns

-- the first line of an ascending list, if any, is not before this one
abbrev pub AtLeast : ℕ → List ℕ → Type 0
AtLeast n [] = Unit {0}
AtLeast n (m ∷ ms) = n ≤ m

-- the line that is told next is the first of both lists
abbrev pub IsNext : Turn → List ℕ → List ℕ → Type 0
IsNext (turns.Open line) opened refused = (rest : List ℕ) × (opened ≡ line ∷ rest) × AtLeast line refused
IsNext (turns.Refuse line) opened refused = (rest : List ℕ) × (refused ≡ line ∷ rest) × AtLeast line opened

-- these lines are left to be opened, and these to be refused, where the rows of all lines before them are there
pub record IsLeft (q : Segments) (paths : List (List Step)) (statuses : List LineStatus) (opened refused : List ℕ) (found : List Row) : Type 0 where
  pub before : ℕ
  pub to_open : numbers_where (is_opened q paths) (before + 1) (drop before statuses) ≡ opened
  pub to_refuse : numbers_where is_refused_status (before + 1) (drop before statuses) ≡ refused
  pub so_far : found ++ rows_from q (before + 1) (drop before statuses) ≡ rows q statuses
