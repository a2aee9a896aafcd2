use Rattle.std.proofs.Common.{drop, map}
use Rattle.std.specs.Str.{chars}
use Rattle.jp_iregexp.specs.Layouts.{state_of}
use Rattle.jp_iregexp.specs.States.{HasState}
use Rattle.jp_iregexp.proofs.Finding.{IsFinding}
use Rattle.jp_iregexp.proofs.automaton.Automaton.finds.Given as goal

-- and the end is not reached yet
abbrev pub invariant-loop-byte : goal.invariant-loop-byte
invariant-loop-byte l = IsFinding (map state_of l.self.states.items) l.self.starts l.waiting (chars (drop l.byte-index l.text)) (chars l.text)
    × (HasState l.self.starts 63 → ⊥) × (HasState l.waiting 63 → ⊥)
