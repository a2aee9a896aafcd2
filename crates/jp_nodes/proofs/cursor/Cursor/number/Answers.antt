use Rattle.std.proofs.Common.{rules, ◌∙◌, ap, arith, length}
use Rattle.std.specs.Prelude.{option_map}
use Rattle.jp_decimal.specs.Decimals.{number_of}
use Rattle.jp_nodes.specs.Cursors.{line_of, node_of}
use Rattle.jp_nodes.proofs.Contents.{source_read, source_short}
use Rattle.jp_nodes.proofs.Cursors.{short, standing, sound}
use Rattle.jp_nodes.proofs.cursor.Cursor.number.Goals as goal

pub read-requires : goal.read-requires
read-requires c =
    let self = c.args.self in
    let few = source_short (line_of self) (node_of self).tree in
    let size = ap length c.source.ensures in
    let line = short self in
    omega (arith, few, size, line)

pub returns : goal.returns
returns c =
    let self = c.args.self in
    ap (option_map number_of) c.ok.ensures.value ∙ source_read (line_of self) _ (node_of self).tree c.kind.result _ c.kind.ensures (search rules) c.source.ensures (standing self).spells (sound self).exponents c.read.ensures
