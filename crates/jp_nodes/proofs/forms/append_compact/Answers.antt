use Rattle.std.proofs.Common.{◌∙◌, ◌+◌, ◌*◌, ◌∷◌, [], ◌++◌, length, drop, ap, sym, arith, length-append}
use Rattle.std.proofs.lemmas.List.{append-nil}
use Rattle.jp_nodes.specs.Forms.{in_one, nodes_by}
use Rattle.jp_nodes.proofs.Packing.{one_more, no_more}
use Rattle.jp_nodes.proofs.forms.append_compact.Goals as goal

pub loop-place-init : goal.loop-place-init
loop-place-init c = record {
  room = omega (arith, c.in_ok-reserve.ensures.ok, ap length c.in_ok-reserve.ensures.items);
  nodes = ap (λ tapes. tapes ++ nodes_by in_one c.args.words.now) c.in_ok-reserve.ensures.items;
}

pub loop-place-preserved : goal.loop-place-preserved
loop-place-preserved c =
    let words = c.args.words.now in
    let i = c.loop-place.invariant in
    let p = c.push_reserved.ensures in
    let more = one_more in_one words c.loop-place.tapes.items c.loop-place.place (omega arith) in
    record {
      room = omega (arith, ap length p.items, length-append c.loop-place.tapes.items (c.compact-node.result ∷ []), i.room, p.capacity);
      nodes = ap (λ tapes. tapes ++ nodes_by in_one (drop (3 * (c.loop-place.place + 1)) words)) (p.items ∙ ap (λ node. c.loop-place.tapes.items ++ node ∷ []) c.compact-node.ensures) ∙ (sym more ∙ i.nodes);
    }

pub returns-clause-added : goal.returns-clause-added
returns-clause-added c =
    let i = c.loop-place.invariant in
    let none = no_more in_one c.args.words.now c.loop-place.place (omega arith) in
    sym (append-nil _) ∙ (sym (ap (λ more. c.loop-place.tapes.items ++ more) none) ∙ i.nodes)
