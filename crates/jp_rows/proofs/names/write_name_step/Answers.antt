-- The name stands between the marks.
use Rattle.jp_strings.specs.Points.{points_of}
use Rattle.jp_rows.proofs.Printed.{named}
use Rattle.jp_rows.proofs.names.write_name_step.Goals as goal

pub returns-clause-text : goal.returns-clause-text
returns-clause-text g c = rw (named (points_of c.args.body.now)) c.write_between.ensures.text
