-- The answers up to here are forgotten. Those that are added have answered nothing.
use Rattle.std.proofs.Common.{◌≡◌, ◌<◌, ℕ, Some, length}
use Rattle.std.specs.Prelude.{slice_get}
use Rattle.jp_grep.specs.LineAnswers.{KnowsNothing}
use Rattle.jp_grep.specs.declared.line_answers.LineAnswer.{LineAnswer}
use Rattle.jp_grep.proofs.line_answers.begin.Given as goal

abbrev pub invariant-loop-index : goal.invariant-loop-index
invariant-loop-index l = record {
  size : length l.answers.items ≡ length l.fn.answers.items;
  nothing : (position : ℕ) (answer : LineAnswer) → slice_get l.answers.items position ≡ Some answer → position < l.index → KnowsNothing answer;
}

abbrev pub invariant-loop-index-2 : goal.invariant-loop-index-2
invariant-loop-index-2 l = record {
  size : length l.answers.items ≡ l._index;
  nothing : (position : ℕ) (answer : LineAnswer) → slice_get l.answers.items position ≡ Some answer → KnowsNothing answer;
}
