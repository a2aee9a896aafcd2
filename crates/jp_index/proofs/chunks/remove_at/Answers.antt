-- One chunk is shorter, or gone.
use Rattle.std.proofs.Common.{◌≡◌, ◌∙◌, ◌<◌, [], length, ap, sym, subst, arith, remove}
use Rattle.jp_index.specs.Chunks.{chunk_at, lines_in, with_chunk}
use Rattle.jp_index.proofs.Flat.{chunk_is, cut_removed, cut_set, emptied, long}
use Rattle.jp_index.proofs.chunks.remove_at.Goals as goal

pub remove-requires : goal.remove-requires
remove-requires c =
    let same : c.index_mut.result.now.items ≡ chunk_at c.args.chunks.now.items c.args.at = chunk_is c.args.chunks.now.items c.args.at c.index_mut.result.now c.requires.at c.index_mut.ensures.value in
    let l : c.args.position < length c.index_mut.result.now.items = subst (λ ls. c.args.position < length ls) (sym same) c.requires.position in
    let n = long c.index_mut.result.now in
    omega arith

pub returns-then-is_empty-clause-lines : goal.returns-then-is_empty-clause-lines
returns-then-is_empty-clause-lines c =
    let chunks = c.args.chunks.now.items in
    let same : c.index_mut.result.now.items ≡ chunk_at chunks c.args.at = chunk_is chunks c.args.at c.index_mut.result.now c.requires.at c.index_mut.ensures.value in
    let left : c.remove.new.self.items ≡ remove (chunk_at chunks c.args.at) c.args.position = c.remove.ensures.items ∙ ap (λ ls. remove ls c.args.position) same in
    let none : c.remove.new.self.items ≡ [] =
    emptied chunks c.args.at c.remove.new.self c.index.result.now c.requires.at c.index.ensures (sym c.is_empty.ensures ∙ c.if-is_empty.true) in
    ap lines_in c.remove-then-is_empty.ensures.items ∙ (cut_removed chunks c.args.at c.remove.new.self none ∙ ap (with_chunk chunks c.args.at) (sym none ∙ left))

pub returns-else-is_empty-clause-lines : goal.returns-else-is_empty-clause-lines
returns-else-is_empty-clause-lines c =
    let chunks = c.args.chunks.now.items in
    let same : c.index_mut.result.now.items ≡ chunk_at chunks c.args.at = chunk_is chunks c.args.at c.index_mut.result.now c.requires.at c.index_mut.ensures.value in
    let left : c.remove.new.self.items ≡ remove (chunk_at chunks c.args.at) c.args.position = c.remove.ensures.items ∙ ap (λ ls. remove ls c.args.position) same in
    cut_set chunks c.args.at c.remove.new.self c.requires.at ∙ ap (with_chunk chunks c.args.at) left
