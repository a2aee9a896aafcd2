use Rattle.std.proofs.Common.{ℕ, ◌++◌, ◌∷◌, [], ◌∙◌, refl, ap, ap₂, arith}
use Rattle.jp_nodes.specs.Kinds.{container_if}
use Rattle.jp_nodes.specs.Words.{head_word, span_word}
use Rattle.jp_tape.specs.declared.builder.nodes.Nodes.{Nodes}
use Rattle.jp_tape.proofs.Nodes.{open_told}
use Rattle.jp_tape.proofs.Held.{next_names_few}
use Rattle.jp_tape.proofs.builder.nodes.NodesListener.«open».Goals as goal

pub returns : goal.returns
returns c line frames own room suits some h =
    let w = c.write.ensures in
    let old = c.args.self.now in
    open_told line frames own room c.args.at (container_if c.args.is_object) old _ c.requires.fits suits some h
    (record {
      words = w.words ∙ ap₂ (λ (x y : ℕ). old.words.items ++ head_word x 0 old.container ∷ span_word (record { start = c.args.at; end = y }) ∷ old.label ∷ []) c.container_kind.ensures (c.len-outer.ensures ∙ old.names.ok.0);
      size = refl;
      capacity = w.capacity;
      count = w.count;
      names = ap (λ (n : Nodes). n.names) w.same;
    }) refl refl (ap (λ (n : Nodes). n.later) w.same)

-- there are no more names than nodes
pub write-requires-clause-end : goal.write-requires-clause-end
write-requires-clause-end c =
    let l = c.requires.listens in
    let h = l.5 in
    let names = next_names_few l.1 l.2 in
    let count = h.name_count in
    let few = h.few in
    let len = c.len-outer.ensures in
    let size = c.args.self.now.names.ok.0 in
    omega (arith, names, count, few, len, size)
