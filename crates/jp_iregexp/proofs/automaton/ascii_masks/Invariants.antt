use Rattle.std.proofs.Common.{◌≡◌, length, map}
use Rattle.jp_iregexp.specs.States.{AreMasks}
use Rattle.jp_iregexp.specs.Layouts.{state_of}
use Rattle.jp_iregexp.proofs.automaton.ascii_masks.Given as goal

abbrev pub invariant-loop-code : goal.invariant-loop-code
invariant-loop-code l = record { size : length l.masks.items ≡ l.code; masked : AreMasks (map state_of l.states) l.masks.items }
