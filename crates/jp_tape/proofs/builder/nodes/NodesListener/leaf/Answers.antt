use Rattle.std.proofs.Common.{◌+◌, ◌%◌, ◌^◌, ◌∙◌, refl, ap}
use Rattle.jp_tape.specs.declared.builder.nodes.Nodes.{Nodes}
use Rattle.jp_tape.proofs.Nodes.{leaf_told}
use Rattle.jp_tape.proofs.builder.nodes.NodesListener.leaf.Goals as goal

pub returns : goal.returns
returns c line frames own room found suits some h =
    let w = c.write.ensures in
    leaf_told line frames own room c.args.at c.args.leaf c.args.self.now _ found suits some h
    (record { words = w.words; size = refl; capacity = w.capacity; count = w.count; names = ap (λ (n : Nodes). n.names) w.same }) (ap (λ (n : Nodes). n.container) w.same) (ap (λ (n : Nodes). (n.label + 1) % 2 ^ 64) w.same)
    (λ a b z e. c.note.ensures a b z (ap (λ (n : Nodes). n.later) w.same ∙ e))
