use Rattle.jp_nodes.specs.Cursors.{line_of, name_of}
use Rattle.jp_nodes.proofs.Contents.{name_body}
use Rattle.jp_nodes.proofs.cursor.Cursor.name.Goals as goal

pub returns-clause-points : goal.returns-clause-points
returns-clause-points c =
    let self = c.args.self in
    let n = c.in_ok-span.ensures in
    (name_body (line_of self) (name_of self) c.in_ok-span.span n.body n.spells n.whole n.within.1 c.line.result.now c.line.ensures.bytes).points_are

pub returns-clause-text : goal.returns-clause-text
returns-clause-text c =
    let self = c.args.self in
    let n = c.in_ok-span.ensures in
    (name_body (line_of self) (name_of self) c.in_ok-span.span n.body n.spells n.whole n.within.1 c.line.result.now c.line.ensures.bytes).text
