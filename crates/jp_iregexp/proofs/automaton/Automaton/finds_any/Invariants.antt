use Rattle.std.proofs.Common.{drop, length, map}
use Rattle.std.specs.Str.{chars}
use Rattle.jp_iregexp.specs.Layouts.{state_of}
use Rattle.jp_iregexp.proofs.Finding.{IsFinding}
use Rattle.jp_iregexp.proofs.automaton.Automaton.finds_any.Given as goal

abbrev pub invariant-loop-scalar : goal.invariant-loop-scalar
invariant-loop-scalar l = IsFinding (map state_of l.self.states.items) l.self.starts l.waiting (drop (length l.yielded) (chars l.text)) (chars l.text)
