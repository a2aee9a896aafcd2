-- The line is put into its chunk, and half of a full chunk after it.
use Rattle.std.proofs.Common.{◌∙◌, ◌≤◌, ◌+◌, length, ap, set, subst, sym, if◌then◌else◌}
use Rattle.std.specs.Prelude.{insert}
use Rattle.jp_index.specs.Chunks.{lines_in, with_chunk}
use Rattle.jp_index.proofs.Flat.{chunk_is, cut_set, cut_split}
use Rattle.jp_index.proofs.chunks.Order.insert.Goals as goal

pub insert_at-requires-clause-position : goal.insert_at-requires-clause-position
insert_at-requires-clause-position c =
    subst (λ ls. c.args.position ≤ length ls) (sym (chunk_is c.args.self.now.chunks.items c.args.at c.index_mut.result.now c.requires.at c.index_mut.ensures.value)) c.requires.position

pub returns-in-Some : goal.returns-in-Some
returns-in-Some c =
    let chunks = c.args.self.now.chunks.items in
    let lower = c.insert_at.new.chunk in
    let here = chunk_is chunks c.args.at c.index_mut.result.now c.requires.at c.index_mut.ensures.value in
    ap lines_in (c.insert.ensures.items ∙ ap (λ b. if b then insert (set chunks c.args.at lower) (c.args.at + 1) c.in-Some.upper else set chunks c.args.at lower) (c.insert.ensures.succeeds c.requires.spare.room))
    ∙ (cut_split chunks c.args.at lower c.in-Some.upper c.requires.at ∙ ap (with_chunk chunks c.args.at) (c.in-Some.ensures.lines.0 ∙ ap (λ ls. insert ls c.args.position c.args.line) here))

pub returns-in_default : goal.returns-in_default
returns-in_default c =
    let chunks = c.args.self.now.chunks.items in
    let here = chunk_is chunks c.args.at c.index_mut.result.now c.requires.at c.index_mut.ensures.value in
    cut_set chunks c.args.at c.insert_at.new.chunk c.requires.at ∙ ap (with_chunk chunks c.args.at) (c.in_default.ensures.lines ∙ ap (λ ls. insert ls c.args.position c.args.line) here)
