use Rattle.std.proofs.Common.{◌↔◌, drop, map}
use Rattle.std.specs.Str.{chars}
use Rattle.jp_iregexp.specs.States.{Leads}
use Rattle.jp_iregexp.specs.Layouts.{state_of}
use Rattle.jp_iregexp.proofs.automaton.Automaton.accepts.Given as goal

abbrev pub invariant-loop-byte : goal.invariant-loop-byte
invariant-loop-byte l = Leads (map state_of l.self.states.items) l.waiting (chars (drop l.byte-index l.text)) ↔ Leads (map state_of l.self.states.items) l.self.starts (chars l.text)
