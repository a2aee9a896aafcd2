use Rattle.std.proofs.Common.{◌≡◌, ◌<◌, ◌↔◌, ℕ, List, length, map, get_or, bit_and, rules, subst}
use Rattle.std.proofs.lemmas.List.{get_or_read}
use Rattle.jp_iregexp.specs.States.{HasState, WaitsAfter}
use Rattle.jp_iregexp.specs.Layouts.{state_of}
use Rattle.jp_iregexp.proofs.Masks.{masked_step}
use Rattle.jp_iregexp.proofs.automaton.Automaton.ascii_step.Goals as goal

pub returns : goal.returns
returns c =
    let it = c.args.self.now in
    let masks : List ℕ = it.ascii.items in
    let inside : c.args.scalar < length masks = search rules in
    let read : c.index.result.now ≡ get_or masks c.args.scalar 0 = get_or_read masks c.args.scalar c.index.result.now inside c.index.ensures 0 in
    let states = map state_of it.states.items in
    masked_step states masks c.args.waiting c.args.scalar c.after.result it.masks inside
    (subst (λ n. (q : ℕ) → HasState c.after.result q ↔ WaitsAfter states (bit_and c.args.waiting n) q) read c.after.ensures)
