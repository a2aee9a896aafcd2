-- Why a line has no tape.
use Rattle.std.specs.Prelude.{List, ℕ, ◌<◌, length}
use Rattle.jp_model.specs.declared.Framing.{Framing}
use Rattle.jp_model.specs.declared.LineFault.TheVariants as line_faults
use Rattle.jp_model.specs.Json.Tree.{Tree}
use Rattle.jp_model.specs.Json.Faults.{depth}
use Rattle.jp_model.specs.Json.Marks.{marks}
use Rattle.jp_model.specs.Json.Spelling.{Text}
use Rattle.jp_model.specs.Json.Status.{HasStatus, IsNoText, refused}
use Rattle.jp_tape.specs.declared.builder.BuildFault.{BuildFault}
use Rattle.jp_tape.specs.declared.builder.BuildFault.TheVariants as faults

-- the fault is the line's status; want of memory tells nothing of the line
abbrev pub IsRefused : Framing → List ℕ → BuildFault → Type 0
IsRefused framing line (faults.Line fault) = HasStatus framing line (refused fault)
IsRefused framing line faults.Memory = Unit {0}

-- the line is JSON, and nests too deep (profile)
pub record NestsTooDeep (line : List ℕ) : Type 0 where
  pub tree : Tree
  pub text : Text line tree
  pub deep : 512 < depth tree

-- what a fault of the reader tells of a line in which no more arrays and objects than this may nest; there is no other one. A
-- line with fewer marks does not nest so deep.
abbrev pub IsStopOf : List ℕ → ℕ → BuildFault → Type 0
IsStopOf line most (faults.Line line_faults.Utf8) = ⊥
IsStopOf line most (faults.Line line_faults.Grammar) = IsNoText line
IsStopOf line most (faults.Line line_faults.Truncated) = ⊥
IsStopOf line most (faults.Line line_faults.Depth) = (most < length (marks line)) × ((t : Tree) → Text line t → most < depth t)
IsStopOf line most (faults.Line line_faults.Surrogate) = ⊥
IsStopOf line most (faults.Line line_faults.Number) = ⊥
IsStopOf line most (faults.Line line_faults.Duplicate) = ⊥
IsStopOf line most faults.Memory = Unit {0}

-- what a fault tells of a line that is UTF-8; there is no other one
abbrev pub IsFaultOf : List ℕ → BuildFault → Type 0
IsFaultOf line (faults.Line line_faults.Utf8) = ⊥
IsFaultOf line (faults.Line line_faults.Grammar) = IsNoText line
IsFaultOf line (faults.Line line_faults.Truncated) = ⊥
IsFaultOf line (faults.Line line_faults.Depth) = NestsTooDeep line
IsFaultOf line (faults.Line line_faults.Surrogate) = ⊥
IsFaultOf line (faults.Line line_faults.Number) = ⊥
IsFaultOf line (faults.Line line_faults.Duplicate) = ⊥
IsFaultOf line faults.Memory = Unit {0}
