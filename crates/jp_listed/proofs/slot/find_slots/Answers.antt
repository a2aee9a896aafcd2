-- A line more, or no more.
use Rattle.std.proofs.Common.{◌∙◌, ◌++◌, sym, ap, append-nil, rules}
use Rattle.jp_model.specs.Lines.{closed_lines}
use Rattle.jp_listed.specs.Slots.{texts_at}
use Rattle.jp_listed.proofs.Lines.{no_line, one_more, rest_of}
use Rattle.jp_listed.proofs.slot.find_slots.Goals as goal

pub loop-length-preserved : goal.loop-length-preserved
loop-length-preserved c =
    let bytes = c.args.bytes.now in
    let rest = rest_of bytes c.loop-length.start in
    let before = c.loop-length.invariant in
    let next = one_more bytes _ c.loop-length.slots.items c.loop-length.start c.in-Some.length c.hash-hash.result before.2 rest c.in-Some.ensures.0 c.in-Some.ensures.1 c.hash-hash.ensures
    (ap (λ l. texts_at bytes c.loop-length.slots.items ++ closed_lines l) rest ∙ before.0) before.1 in
    search (rules, next)

pub returns-clause-texts : goal.returns-clause-texts
returns-clause-texts c =
    sym (append-nil (texts_at c.args.bytes.now c.loop-length.slots.items))
    ∙ ap (λ lines. texts_at c.args.bytes.now c.loop-length.slots.items ++ lines) (sym (no_line _ c.in_default.ensures) ∙ ap closed_lines (rest_of c.args.bytes.now c.loop-length.start)) ∙ c.loop-length.invariant.0
