use Rattle.std.proofs.Common.{◌↔◌, drop, length, map}
use Rattle.std.specs.Str.{chars}
use Rattle.jp_iregexp.specs.States.{Leads}
use Rattle.jp_iregexp.specs.Layouts.{state_of}
use Rattle.jp_iregexp.proofs.automaton.Automaton.accepts_any.Given as goal

abbrev pub invariant-loop-scalar : goal.invariant-loop-scalar
invariant-loop-scalar l = Leads (map state_of l.self.states.items) l.waiting (drop (length l.yielded) (chars l.text)) ↔ Leads (map state_of l.self.states.items) l.self.starts (chars l.text)
