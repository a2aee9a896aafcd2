use Rattle.std.proofs.Common.{ℕ, List, length, sym, ◌∙◌, ap, arith}
use Rattle.jp_tape.proofs.Ahead.{marks_few}
use Rattle.jp_tape.proofs.builder.Builder.read_nodes.Goals as goal

pub most_nodes-requires : goal.most_nodes-requires
most_nodes-requires c =
    let n = ap (λ (ms : List ℕ). length ms) c.requires.marks in
    let few = marks_few c.args.line.now in
    let room = c.requires.room in
    omega (arith, n, few, room)

pub read_text-read-requires-clause-told : goal.read_text-read-requires-clause-told
read_text-read-requires-clause-told c =
    let b = (c.new-reader.ensures.begun c.args.line.now c.requires.marks).marks_are in
    let n = ap (λ (ms : List ℕ). length ms) (b ∙ sym c.requires.marks) in
    let limit = c.new-reader.ensures.limit in
    let enough = c.most_nodes.ensures.enough in
    (c.most_nodes.result, omega (arith, n, limit, enough), c.in-Ok.ensures c.args.line.now)
