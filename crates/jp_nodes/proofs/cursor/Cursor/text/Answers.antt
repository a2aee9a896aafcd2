use Rattle.std.proofs.Common.{rules}
use Rattle.jp_nodes.specs.Cursors.{line_of, node_of}
use Rattle.jp_nodes.proofs.Contents.{text_body}
use Rattle.jp_nodes.proofs.Cursors.{standing, sound, span_room}
use Rattle.jp_nodes.proofs.cursor.Cursor.text.Goals as goal

pub returns-clause-points : goal.returns-clause-points
returns-clause-points c =
    let self = c.args.self in
    (text_body (line_of self) (node_of self).tree c.kind.result c.span-span.result _ c.kind.ensures (search rules) c.span-span.ensures.value c.line-line.ensures.bytes (span_room self).1 (standing self).spells (sound self).whole).0

pub returns-clause-text : goal.returns-clause-text
returns-clause-text c =
    let self = c.args.self in
    (text_body (line_of self) (node_of self).tree c.kind.result c.span-span.result _ c.kind.ensures (search rules) c.span-span.ensures.value c.line-line.ensures.bytes (span_room self).1 (standing self).spells (sound self).whole).1
