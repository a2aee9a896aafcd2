use Rattle.std.proofs.Common.{◌≡◌, ◌∙◌, ◌+◌, ◌*◌, ◌∷◌, [], ◌++◌, ℕ, length, drop, ap, ap₂, sym, arith, length-append, append_assoc}
use Rattle.std.proofs.lemmas.List.{append-nil}
use Rattle.jp_nodes.specs.Forms.{in_two, nodes_by}
use Rattle.jp_nodes.proofs.Packing.{one_more, no_more}
use Rattle.jp_nodes.proofs.forms.append_medium.Goals as goal

pub loop-place-init : goal.loop-place-init
loop-place-init c = record {
  room = omega (arith, c.in_ok-reserve.ensures.ok, ap length c.in_ok-reserve.ensures.items);
  nodes = ap (λ tapes. tapes ++ nodes_by in_two c.args.words.now) c.in_ok-reserve.ensures.items;
}

pub loop-place-preserved : goal.loop-place-preserved
loop-place-preserved c =
    let words = c.args.words.now in
    let tapes = c.loop-place.tapes.items in
    let highs = c.join_halves-highs.result in
    let lows = c.join_halves-lows.result in
    let i = c.loop-place.invariant in
    let p = c.push_reserved.ensures in
    let q = c.push_reserved-in-loop-place.ensures in
    let both : c.push_reserved-in-loop-place.new.self.items ≡ tapes ++ highs ∷ lows ∷ [] = q.items ∙ ap (λ xs. xs ++ lows ∷ []) p.items ∙ append_assoc tapes (highs ∷ []) (lows ∷ []) in
    let node = ap₂ (λ (a b : ℕ). tapes ++ a ∷ b ∷ []) c.join_halves-highs.ensures c.join_halves-lows.ensures in
    let more = one_more in_two words tapes c.loop-place.place (omega arith) in
    record {
      room = omega (arith, ap length both, length-append tapes (highs ∷ lows ∷ []), i.room, p.capacity, q.capacity);
      nodes = ap (λ xs. xs ++ nodes_by in_two (drop (3 * (c.loop-place.place + 1)) words)) (both ∙ node) ∙ (sym more ∙ i.nodes);
    }

pub returns-clause-added : goal.returns-clause-added
returns-clause-added c =
    let i = c.loop-place.invariant in
    let none = no_more in_two c.args.words.now c.loop-place.place (omega arith) in
    sym (append-nil _) ∙ (sym (ap (λ more. c.loop-place.tapes.items ++ more) none) ∙ i.nodes)
