use Rattle.jp_iregexp.proofs.Alone.{no_rows}
use Rattle.jp_iregexp.proofs.Keeping.{none_made, whole_numbered}
use Rattle.jp_iregexp.proofs.Tails.{no_sets}
use Rattle.jp_iregexp.proofs.tables.reach.Goals as goal

pub ends-requires-clause-numbered : goal.ends-requires-clause-numbered
ends-requires-clause-numbered c =
    let compiled = c.args.compiled.now in
    whole_numbered compiled.root compiled.repeated compiled.numbered

pub ends-requires-clause-right : goal.ends-requires-clause-right
ends-requires-clause-right c =
    let text = c.args.text.now in
    let tables = c.new-tables.result in
    let none = c.new-tables.ensures in
    record { bodies = none_made text c.args.compiled.now.root tables.bodies.rows.items none.bodies; closed = no_sets text c.args.compiled.now.root tables.closed.rows.items none.closed; after = no_rows text tables.after.rows.items none.after }
