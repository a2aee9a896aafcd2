-- What a frame has answered, so that it need not be asked again in the same line.
use Rattle.std.specs.Prelude.{◌≡◌, List, ℕ}
use Rattle.jp_nodes.specs.Cursors.{line_of}
use Rattle.jp_eval.specs.Frames.{IsKept}
use Rattle.jp_eval.specs.declared.evaluate.Program.{Program}
use Rattle.jp_eval.specs.declared.frame.Frame.{Frame}
use Rattle.jp_eval.specs.declared.frame.Run.{Run}
use Rattle.jp_eval.specs.declared.predicate.Predicate.{Predicate}
use Rattle.jp_eval.specs.declared.program.Slot.{Slot}

-- each answer that the frame has is what these slots answer at the root of this line
pub record HasAnswers (slots : List Slot) (line : List ℕ) (frame : Frame) : Type 0 where
  pub right : (run : Run) → run.slots.now ≡ slots → line_of run.root.now ≡ line → IsKept run frame

-- what the frame has answered, the program answers in this line
abbrev pub Remembers : Program → List ℕ → Frame → Type 0
Remembers program line frame = HasAnswers program.slots.items line frame

-- what it has answered, the predicate answers in this line
abbrev pub RemembersTruths : Predicate → List ℕ → Frame → Type 0
RemembersTruths predicate line frame = HasAnswers predicate.slots.items line frame

-- the frame has answered nothing, so that it remembers for each line what is answered there
abbrev pub RemembersNothing : Frame → Type 0
RemembersNothing frame = (slots : List Slot) (line : List ℕ) → HasAnswers slots line frame
