use Rattle.std.proofs.Common.{rules, sym}
use Rattle.jp_iregexp.proofs.Masks.{after_here}
use Rattle.jp_iregexp.proofs.automaton.word_after.Goals as goal

pub returns-in-Some : goal.returns-in-Some
returns-in-Some c = sym (after_here c.args.states.now c.args.number c.in-Some.state.now (search rules) (search rules))
