-- What a frame has answered is right as long as the line is the same.
use Rattle.std.proofs.Common.{◌≡◌, ℕ, Bool, List, [], Option, Some, true, false, sym, ◌∙◌}
use Rattle.std.specs.Prelude.{slice_get}
use Rattle.jp_model.specs.Meaning.Nodes.{Node}
use Rattle.jp_nodes.specs.declared.cursor.Cursor.{Cursor}
use Rattle.jp_eval.specs.Answers.{IsAnswer, is_placed, slots_in}
use Rattle.jp_eval.specs.Frames.{IsKept}
use Rattle.jp_eval.specs.Programs.{Meant}
use Rattle.jp_eval.specs.Remembers.{HasAnswers}
use Rattle.jp_nodes.specs.Cursors.{line_of}
use Rattle.jp_eval.specs.Tallies.{IsKnownAs, is_listed}
use Rattle.jp_eval.specs.declared.frame.Answer.{Answer}
use Rattle.jp_eval.specs.declared.frame.Answer.TheVariants as answers
use Rattle.jp_eval.specs.declared.frame.Frame.{Frame}
use Rattle.jp_eval.specs.declared.frame.Run.{Run}
use Rattle.jp_eval.specs.declared.program.Slot.{Slot}
use Rattle.jp_eval.specs.declared.sums.Known.{Known}
use Rattle.jp_eval.specs.declared.sums.Known.TheVariants as knowns
use Rattle.jp_eval.proofs.Answered.{none_in}
use Rattle.jp_eval.proofs.Runs.{kept_in_line}

-- nothing was answered
pub none_remembered : (slots : List Slot) (line : List ℕ) (frame : Frame) → frame.answers.items ≡ [] → HasAnswers slots line frame
none_remembered slots line frame e = record { right = λ run s r position answer is. absurd ((none_in frame.answers.items e).none position answer is) }

-- what is kept in one run is kept in each that asks the same
pub run_remembered : (run : Run) (slots : List Slot) (line : List ℕ) (frame : Frame) → run.slots.now ≡ slots → line_of run.root.now ≡ line → IsKept run frame → HasAnswers slots line frame
run_remembered run slots line frame s l h = record { right = λ other t q. kept_in_line run other (t ∙ sym s) (q ∙ sym l) frame h }

known_apart : (b : Bool) (line : List ℕ) (found other : List Cursor) (most : ℕ) (selected : List Node) (known : Known) → b ≡ false → IsKnownAs b line found most selected known → IsKnownAs b line other most selected known
known_apart true line found other most selected known e h = absurd (cc)
known_apart false line found other most selected (knowns.Listed start end) e h = h
known_apart false line found other most selected (knowns.Counted sum) e h = h

answer_apart : (run : Run) (found other : List Cursor) (meant : Option Meant) (answer : Answer) → is_placed (Some answer) ≡ false → IsAnswer run found meant answer → IsAnswer run other meant answer
answer_apart run found other meant (answers.Holds is) e h = h
answer_apart run found other meant (answers.Value side) e h = h
answer_apart run found other meant (answers.Pattern read) e h = h
answer_apart run found other meant (answers.Sums sums) e h = λ c known line at. known_apart (is_listed sums.most) _ found other _ _ known e (h c known line at)

-- of what was answered stays what says nothing of the list
pub apart_remembered : (slots : List Slot) (line : List ℕ) (old new : Frame) → ((position : ℕ) (answer : Answer) → slice_get new.answers.items position ≡ Some (Some answer) → (slice_get old.answers.items position ≡ Some (Some answer)) × (is_placed (Some answer) ≡ false))
    → HasAnswers slots line old → HasAnswers slots line new
apart_remembered slots line old new stays h = record {
  right = λ run s r position answer is.
      let was = stays position answer is in
      answer_apart run old.found.items new.found.items (slice_get (slots_in run) position) answer was.1 (h.right run s r position answer was.0);
}
