-- The body of the name is the slice that its span gives.
use Rattle.jp_nodes.specs.Cursors.{line_of, name_of, index_of}
use Rattle.jp_rows.proofs.Named.{names_step}
use Rattle.jp_rows.proofs.short.RowEnd.put_step.Goals as goal

pub put_name_step-requires-clause-text : goal.put_name_step-requires-clause-text
put_name_step-requires-clause-text c =
    let child = c.args.child in
    let e = c.in-Some.ensures in
    (names_step c.line.result.now (line_of child) (name_of child) c.in-Some.name c.line.ensures.bytes e.body e.spells e.whole e.within.1).text

pub returns-in-Some : goal.returns-in-Some
returns-in-Some c =
    let child = c.args.child in
    let e = c.in-Some.ensures in
    let name = names_step c.line.result.now (line_of child) (name_of child) c.in-Some.name c.line.ensures.bytes e.body e.spells e.whole e.within.1 in
    rw (name.step (index_of child)) c.put_name_step.ensures
