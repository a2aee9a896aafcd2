-- The body of the name is the slice that its span gives.
use Rattle.jp_nodes.specs.Cursors.{line_of, name_of, index_of}
use Rattle.jp_rows.proofs.Named.{names_step}
use Rattle.jp_rows.proofs.names.write_step.Goals as goal

pub write_name_step-requires-clause-body : goal.write_name_step-requires-clause-body
write_name_step-requires-clause-body g c =
    let child = c.args.child in
    let e = c.in-Some.ensures in
    (names_step c.line.result.now (line_of child) (name_of child) c.in-Some.body c.line.ensures.bytes e.body e.spells e.whole e.within.1).text

pub returns-in-Some-clause-text : goal.returns-in-Some-clause-text
returns-in-Some-clause-text g c =
    let child = c.args.child in
    let e = c.in-Some.ensures in
    let name = names_step c.line.result.now (line_of child) (name_of child) c.in-Some.body c.line.ensures.bytes e.body e.spells e.whole e.within.1 in
    rw (name.step (index_of child)) c.write_name_step.ensures.text
