use Rattle.std.proofs.Common.{◌≡◌}
use Rattle.jp_query.specs.Reading.Scalars.{run}
use Rattle.jp_query.specs.Parsing.{is_member}
use Rattle.jp_query.proofs.Runs.{run_from}
use Rattle.jp_query.proofs.parser.scalars.run.Given as goal

abbrev pub invariant-loop-position : goal.invariant-loop-position
invariant-loop-position l = run_from (is_member l.class) l.text l.position ≡ run (is_member l.class) l.text
