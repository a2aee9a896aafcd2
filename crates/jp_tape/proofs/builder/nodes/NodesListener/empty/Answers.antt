use Rattle.std.proofs.Common.{ℕ, ◌+◌, ◌%◌, ◌^◌, ◌++◌, ◌∷◌, [], ◌∙◌, refl, ap}
use Rattle.jp_nodes.specs.Kinds.{container_if}
use Rattle.jp_nodes.specs.Words.{head_word, span_word}
use Rattle.jp_tape.specs.declared.builder.nodes.Nodes.{Nodes}
use Rattle.jp_tape.proofs.Nodes.{empty_told}
use Rattle.jp_tape.proofs.builder.nodes.NodesListener.empty.Goals as goal

pub returns : goal.returns
returns c line frames own room suits some h =
    let w = c.write.ensures in
    let old = c.args.self.now in
    empty_told line frames own room c.args.at c.args.end (container_if c.args.is_object) old _ suits some h
    (record {
      words = w.words ∙ ap (λ (x : ℕ). old.words.items ++ head_word x 0 old.container ∷ span_word (record { start = c.args.at; end = c.args.end }) ∷ old.label ∷ []) c.container_kind.ensures;
      size = refl;
      capacity = w.capacity;
      count = w.count;
      names = ap (λ (n : Nodes). n.names) w.same;
    }) (ap (λ (n : Nodes). n.container) w.same) (ap (λ (n : Nodes). (n.label + 1) % 2 ^ 64) w.same) (ap (λ (n : Nodes). n.later) w.same)
