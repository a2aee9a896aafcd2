use Rattle.jp_laws.proofs.Runs.{goes_on_written, goes_on_after, commands_go_on}
use Rattle.jp_laws.proofs.scripts.output_goes_on.Goals as goal

pub returns-clause-written : goal.returns-clause-written
returns-clause-written c = goes_on_written

pub returns-clause-after : goal.returns-clause-after
returns-clause-after c = goes_on_after

pub returns-clause-commands : goal.returns-clause-commands
returns-clause-commands c = commands_go_on
