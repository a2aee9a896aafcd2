-- The name stands between the marks.
use Rattle.std.proofs.Common.{chars}
use Rattle.jp_rows.proofs.Printed.{quotes}
use Rattle.jp_rows.proofs.singular.write_quoted.Goals as goal

pub returns-clause-text : goal.returns-clause-text
returns-clause-text g c = rw (quotes (chars c.args.text.now)) c.write_between.ensures.text
