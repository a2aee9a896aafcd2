-- The name stands between the marks.
use Rattle.std.proofs.Common.{chars}
use Rattle.jp_rows.proofs.Printed.{named}
use Rattle.jp_rows.proofs.singular.write_named_step.Goals as goal

pub returns-clause-text : goal.returns-clause-text
returns-clause-text g c = rw (named (chars c.args.name.now)) c.write_between.ensures.text
