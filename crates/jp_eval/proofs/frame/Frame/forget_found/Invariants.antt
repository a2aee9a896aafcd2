-- The answers up to here say nothing of the list, and each was there before.
use Rattle.std.proofs.Common.{◌≡◌, ◌<◌, ℕ, List, [], Some, false, length}
use Rattle.std.specs.Prelude.{slice_get}
use Rattle.jp_eval.specs.Answers.{is_placed}
use Rattle.jp_eval.specs.Tallies.{none_in, total_of}
use Rattle.jp_eval.specs.declared.frame.Answer.{Answer}
use Rattle.jp_eval.proofs.frame.Frame.forget_found.Given as goal

abbrev pub invariant-loop-position : goal.invariant-loop-position
invariant-loop-position l = record {
  found : l.self.found.items ≡ [];
  sum : (line : List ℕ) → total_of line l.self.sum ≡ none_in line;
  size : length l.self.answers.items ≡ length l.fn.self.answers.items;
  answers : (position : ℕ) (answer : Answer) → slice_get l.self.answers.items position ≡ Some (Some answer) → (slice_get l.fn.self.answers.items position ≡ Some (Some answer)) × (position < l.position → is_placed (Some answer) ≡ false);
}
