-- The line is put at its position in its chunk.
use Rattle.std.proofs.Common.{◌≡◌, ◌∙◌, ◌<◌, ◌≤◌, All, Option, Some, None, true, not, length, ap, subst, sym, refl}
use Rattle.std.specs.Prelude.{option_copied}
use Rattle.std.specs.Option.{is_some}
use Rattle.std.specs.declared.cmp.Ordering.TheVariants.{Less}
use denote.Ref.{Bor}
use Rattle.jp_index.specs.ByKey.{line_order, Ascend, AreByKey, IsPositionOf}
use Rattle.jp_index.specs.Cells.{key_at}
use Rattle.jp_index.specs.Chunks.{chunk_at, lines_before, lines_behind, lines_in}
use Rattle.jp_index.proofs.Flat.{chunk_is, put_one, some_chunk}
use Rattle.jp_index.proofs.chunks.Order.put.Goals as goal

copied_some : {A : Type 0} (o : Option (Bor A)) → is_some (option_copied o) ≡ is_some o
copied_some None = refl
copied_some (Some x) = refl

pub insert-requires-clause-position : goal.insert-requires-clause-position
insert-requires-clause-position c =
    let chunks = c.args.self.now.chunks.items in
    let at = c.chunk_of-at.result in
    let l : at < length chunks = subst (λ cs. 1 ≤ length cs → at < length cs) c.deref.ensures.value c.chunk_of-at.ensures.within (some_chunk c.args.self.now.chunks (sym c.is_empty.ensures ∙ c.if-is_empty.false)) in
    subst (λ ls. c.position_of-position.result ≤ length ls) (c.deref-2.ensures.value ∙ chunk_is chunks at c.index.result.now l c.index.ensures) c.position_of-position.ensures.within

pub returns : goal.returns
returns c = λ h.
    let keys = key_at c.args.cells.now in
    let line = c.args.line in
    let chunks = c.args.self.now.chunks.items in
    let at = c.chunk_of-at.result in
    let l : at < length chunks = subst (λ cs. 1 ≤ length cs → at < length cs) c.deref.ensures.value c.chunk_of-at.ensures.within (some_chunk c.args.self.now.chunks (sym c.is_empty.ensures ∙ c.if-is_empty.false)) in
    let here : c.deref-2.result.now ≡ chunk_at chunks at = c.deref-2.ensures.value ∙ chunk_is chunks at c.index.result.now l c.index.ensures in
    let some : is_some (keys line) ≡ true = ap is_some (sym c.key_of_line.ensures) ∙ (copied_some c.key_of_line.result ∙ (c.is_none.ensures ∙ ap not c.if-is_none.false)) in
    subst (AreByKey keys) (sym c.insert.ensures)
    (put_one keys line chunks at l
    (subst (λ cs. Ascend keys (lines_in cs) → All (λ a. line_order keys a line ≡ Less) (lines_before cs at)) c.deref.ensures.value c.chunk_of-at.ensures.before)
    (subst (λ cs. Ascend keys (lines_in cs) → All (λ a. line_order keys line a ≡ Less) (lines_behind cs at)) c.deref.ensures.value c.chunk_of-at.ensures.behind)
    c.position_of-position.result h some (subst (λ ls. c.position_of-position.result ≤ length ls) here c.position_of-position.ensures.within)
    (subst (λ ls. Ascend keys ls → IsPositionOf keys line ls c.position_of-position.result) here c.position_of-position.ensures.position))
