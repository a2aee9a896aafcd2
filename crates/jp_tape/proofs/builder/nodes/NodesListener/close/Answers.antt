use Rattle.std.proofs.Common.{ℕ, ◌+◌, ◌*◌, ◌-◌, ◌||◌, List, length, set, take, drop, vec_capacity, sym, ◌∙◌, ap, ap₂, subst, arith}
use Rattle.jp_model.specs.Json.Faults.{has_repeated}
use Rattle.jp_nodes.specs.Words.{span_word, container_code}
use Rattle.jp_tape.specs.declared.builder.kept.KeptName.{KeptName}
use Rattle.jp_tape.specs.declared.builder.nodes.Nodes.{Nodes}
use Rattle.jp_tape.specs.Machine.{next_parent, outer_count, first_fault}
use Rattle.jp_tape.specs.Names.{AreKept, spelled_names}
use Rattle.jp_tape.proofs.Closed.{innermost, close_told}
use Rattle.jp_tape.proofs.builder.nodes.NodesListener.close.Goals as goal

pub index-first-requires : goal.index-first-requires
index-first-requires c = let l = c.requires.listens in let i = (innermost c.args.line.now c.args.self.now l.0 l.1 l.2 l.3).place in let n = c.args.self.now.words.ok.0 in omega (arith, i, n)

pub index-requires : goal.index-requires
index-requires c = let l = c.requires.listens in let i = (innermost c.args.line.now c.args.self.now l.0 l.1 l.2 l.3).place in let n = c.args.self.now.words.ok.0 in omega (arith, i, n)

pub parent_of-self-requires : goal.parent_of-self-requires
parent_of-self-requires c = let l = c.requires.listens in let i = innermost c.args.line.now c.args.self.now l.0 l.1 l.2 l.3 in (l.0.kind, next_parent l.1, i.parent, c.index-first.ensures ∙ i.head _)

pub halves-start-requires : goal.halves-start-requires
halves-start-requires c = let l = c.requires.listens in let i = innermost c.args.line.now c.args.self.now l.0 l.1 l.2 l.3 in (record { start = l.0.start; end = outer_count l.0 l.1 }, i.start, i.outer, c.index.ensures ∙ i.span _)

pub note_equal_names-requires-clause-within : goal.note_equal_names-requires-clause-within
note_equal_names-requires-clause-within c =
    let l = c.requires.listens in
    let i = innermost c.args.line.now c.args.self.now l.0 l.1 l.2 l.3 in
    let o = (c.halves-start.ensures (record { start = l.0.start; end = outer_count l.0 l.1 }) i.start i.outer (c.index.ensures ∙ i.span _)).1 in
    let w = i.within in
    omega (arith, o, w)

pub note_equal_names-requires-clause-kept : goal.note_equal_names-requires-clause-kept
note_equal_names-requires-clause-kept c e =
    let l = c.requires.listens in
    let i = innermost c.args.line.now c.args.self.now l.0 l.1 l.2 l.3 in
    let o = (c.halves-start.ensures (record { start = l.0.start; end = outer_count l.0 l.1 }) i.start i.outer (c.index.ensures ∙ i.span _)).1 in
    subst (λ (n : ℕ). AreKept c.args.line.now (drop n c.args.self.now.names.items)) (sym o) (i.kept e)

pub finish-requires : goal.finish-requires
finish-requires c =
    let l = c.requires.listens in
    let i = (innermost c.args.line.now c.args.self.now l.0 l.1 l.2 l.3).place in
    let w = ap (λ (n : Nodes). length n.words.items) c.note_equal_names.ensures.same in
    omega (arith, i, w)

pub returns : goal.returns
returns c f frames room h =
    let old = c.args.self.now in
    let line = c.args.line.now in
    let i = innermost line old f frames room h in
    let q = c.halves-start.ensures (record { start = f.start; end = outer_count f frames }) i.start i.outer (c.index.ensures ∙ i.span _) in
    let noted = c.note_equal_names.ensures.same in
    let written = c.finish.ensures.same in
    let below : ℕ = old.count - old.container - 1 in
    let head = c.with_below.ensures (container_code f.kind) (next_parent frames) (c.index-first.ensures ∙ i.head _) in
    let span = c.span_to_word.ensures ∙ ap (λ (x : ℕ). span_word (record { start = x; end = c.args.end })) q.0 in
    close_told line f frames room c.args.end old _ h
    (record {
      words = c.finish.ensures.words ∙ ap₂ (λ (ws : List ℕ) (x : ℕ × ℕ). set (set ws (3 * old.container) x.0) (3 * old.container + 1) x.1) (ap (λ (n : Nodes). n.words.items) noted) (ap₂ (λ (x y : ℕ). (x, y)) head span);
      capacity = c.finish.ensures.capacity ∙ ap (λ (n : Nodes). vec_capacity n.words) noted;
      count = ap (λ (n : Nodes). n.count) written ∙ ap (λ (n : Nodes). n.count) noted;
      container = c.parent_of-self.ensures f.kind (next_parent frames) i.parent (c.index-first.ensures ∙ i.head _);
      label = c.finish.ensures.label;
      names = ap (λ (n : Nodes). n.names.items) written ∙ (c.truncate.ensures.items ∙ ap₂ (λ (n : ℕ) (xs : List KeptName). take n xs) q.1 (ap (λ (n : Nodes). n.names.items) noted));
      name_capacity = ap (λ (n : Nodes). vec_capacity n.names) written ∙ (c.truncate.ensures.capacity ∙ ap (λ (n : Nodes). vec_capacity n.names) noted);
      later = λ a b r e. ap (λ (n : Nodes). n.later) written ∙ (c.in_ok-note_equal_names.ensures.noted a b r e ∙ ap (λ (n : ℕ). first_fault a b (r || has_repeated (spelled_names line (drop n old.names.items)))) q.1);
    })
