use Rattle.std.proofs.Common.{rules, ◌↔◌, ℕ, List, map, subst, bit_and, w64}
use Rattle.std.specs.Int.{bit_not}
use Rattle.jp_iregexp.specs.States.{HasState, WaitsAfter}
use Rattle.jp_iregexp.specs.Layouts.{state_of}
use Rattle.jp_iregexp.specs.declared.automaton.State.{State}
use Rattle.jp_iregexp.proofs.Chains.{moved_on}
use Rattle.jp_iregexp.proofs.automaton.Automaton.after.Goals as goal

pub returns : goal.returns
returns c =
    let it = c.args.self.now in
    moved_on it.states.items c.args.ready it.chained it.few it.links c.after_each.result c.ranges.ready.fits (search rules)
    (subst (λ (states : List State). (q : ℕ) → HasState c.after_each.result q ↔ WaitsAfter (map state_of states) (bit_and c.args.ready (bit_not w64 it.chained)) q) c.as_slice.ensures.value c.after_each.ensures)
