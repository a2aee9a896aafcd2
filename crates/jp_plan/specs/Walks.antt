-- The text of segments, one after another.
use Rattle.std.specs.Prelude.{ℕ, List, [], ◌∷◌, ◌++◌, Bool, Option, Some, None, is_some, if◌then◌else◌, codes, encode_utf8_all}
use Rattle.jp_model.specs.Meaning.Paths.{step_text}
use Rattle.jp_model.specs.Plans.{run_then, segment_text}
use Rattle.jp_model.specs.Query.Singular.{singular_step}
use Rattle.jp_model.specs.Query.Syntax.{Segment, Selectors, selector, no_selectors, name_selector}
use Rattle.jp_model.specs.Rows.{line_feed}
use Rattle.jp_model.specs.Steps.{Step}

-- the name of a name selector that stands alone
abbrev pub name_alone : Selectors → Option (List ℕ)
name_alone (selector (name_selector x) no_selectors) = Some x
name_alone _ = None

-- the text of a step, if any
abbrev pub option_step_text : Option Step → List ℕ
option_step_text None = []
option_step_text (Some step) = encode_utf8_all (step_text step)

-- what begins a line of steps where none is open, and ends one where it is
abbrev pub walk_begins : Bool → List ℕ
walk_begins walks = if walks then [] else codes "walk "

-- what ends one where it is open
abbrev pub walk_ends : Bool → List ℕ
walk_ends walks = if walks then line_feed else []

-- the text of a segment, after an open line of steps or not: its step, or its own line
abbrev pub part_text : Bool → Segment → List ℕ
part_text walks s = run_then (singular_step s) (λ step. walk_begins walks ++ encode_utf8_all (step_text step)) (walk_ends walks ++ segment_text s)

-- the text of some segments
abbrev pub parts_text : Bool → List Segment → List ℕ
parts_text walks [] = walk_ends walks
parts_text walks (s ∷ ss) = part_text walks s ++ parts_text (is_some (singular_step s)) ss
