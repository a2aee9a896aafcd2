-- The source has digits alone.
use Rattle.jp_listed.proofs.Sources.{digits_text}
use Rattle.jp_nodes.specs.Cursors.{line_of, node_of}
use Rattle.jp_nodes.proofs.Cursors.{standing}
use Rattle.jp_listed.proofs.source.whole_source.Goals as goal

pub returns-then-is_whole : goal.returns-then-is_whole
returns-then-is_whole c =
    let self = c.args.number in
    let seen = c.is_whole.ensures in
    digits_text (line_of self) c.source-source.result.now (node_of self).tree c.source-source.ensures c.requires (standing self).spells
    (seen.digits c.if-is_whole.true) (seen.first c.if-is_whole.true) (seen.few c.if-is_whole.true)
