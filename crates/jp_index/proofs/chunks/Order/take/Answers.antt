-- The line is in its chunk, or nowhere.
use Rattle.std.proofs.Common.{◌≡◌, ◌∙◌, ◌<◌, All, None, get_or, length, arith, subst, sym}
use Rattle.std.specs.Prelude.{Contains}
use Rattle.std.specs.declared.cmp.Ordering.TheVariants.{Less}
use Rattle.jp_index.specs.ByKey.{line_order, Ascend, AreByKey, but}
use Rattle.jp_index.specs.Cells.{key_at}
use Rattle.jp_index.specs.Chunks.{chunk_at, lines_before, lines_behind, lines_in}
use Rattle.jp_index.proofs.Flat.{chunk_ascends, chunk_is, long_list, take_none, take_one}
use Rattle.jp_index.proofs.chunks.Order.take.Goals as goal

pub remove_at-requires-clause-position : goal.remove_at-requires-clause-position
remove_at-requires-clause-position c =
    let chunks = c.args.self.now.chunks.items in
    let at = c.chunk_of-at.result in
    let n = long_list c.args.self.now.chunks in
    let l : at < length chunks = omega (arith, c.len.ensures, c.if-at-len.true) in
    let here : c.deref-then-at-len.result.now ≡ chunk_at chunks at = c.deref-then-at-len.ensures.value ∙ chunk_is chunks at c.index.result.now l c.index.ensures in
    subst (λ ls. c.in-Some.position < length ls) here c.in-Some.ensures.found.0

pub returns-in-Some-clause-lines : goal.returns-in-Some-clause-lines
returns-in-Some-clause-lines c = λ h.
    let keys = key_at c.args.cells.now in
    let line = c.args.line in
    let chunks = c.args.self.now.chunks.items in
    let at = c.chunk_of-at.result in
    let n = long_list c.args.self.now.chunks in
    let l : at < length chunks = omega (arith, c.len.ensures, c.if-at-len.true) in
    let here : c.deref-then-at-len.result.now ≡ chunk_at chunks at = c.deref-then-at-len.ensures.value ∙ chunk_is chunks at c.index.result.now l c.index.ensures in
    let found = subst (λ ls. (c.in-Some.position < length ls) × (line ≡ get_or ls c.in-Some.position line)) here c.in-Some.ensures.found in
    subst (AreByKey (but line keys)) (sym c.remove_at.ensures.lines)
    (take_one keys line chunks at l
    (subst (λ cs. Ascend keys (lines_in cs) → All (λ a. line_order keys a line ≡ Less) (lines_before cs at)) c.deref.ensures.value c.chunk_of-at.ensures.before)
    (subst (λ cs. Ascend keys (lines_in cs) → All (λ a. line_order keys line a ≡ Less) (lines_behind cs at)) c.deref.ensures.value c.chunk_of-at.ensures.behind)
    c.in-Some.position h found.0 found.1)

pub returns-in_default-clause-lines : goal.returns-in_default-clause-lines
returns-in_default-clause-lines c = λ h.
    let keys = key_at c.args.cells.now in
    let line = c.args.line in
    let chunks = c.args.self.now.chunks.items in
    let at = c.chunk_of-at.result in
    let n = long_list c.args.self.now.chunks in
    let l : at < length chunks = omega (arith, c.len.ensures, c.if-at-len.true) in
    let here : c.deref-then-at-len.result.now ≡ chunk_at chunks at = c.deref-then-at-len.ensures.value ∙ chunk_is chunks at c.index.result.now l c.index.ensures in
    let missing : Ascend keys (chunk_at chunks at) → c.find_line.result ≡ None → Contains (chunk_at chunks at) line → ⊥ =
    subst (λ ls. Ascend keys ls → c.find_line.result ≡ None → Contains ls line → ⊥) here c.find_line.ensures.missing in
    take_none keys line chunks at l
    (subst (λ cs. Ascend keys (lines_in cs) → All (λ a. line_order keys a line ≡ Less) (lines_before cs at)) c.deref.ensures.value c.chunk_of-at.ensures.before)
    (subst (λ cs. Ascend keys (lines_in cs) → All (λ a. line_order keys line a ≡ Less) (lines_behind cs at)) c.deref.ensures.value c.chunk_of-at.ensures.behind)
    h (missing (chunk_ascends keys chunks at l h.ascend) c.in_default.is)
