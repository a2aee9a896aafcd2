-- Of the bytes that came the closed lines are run and the open one is held, and each call brought a byte at least.
use Rattle.std.proofs.Common.{◌≡◌, ◌+◌, ◌-◌, ◌*◌, ◌≤◌, false}
use Rattle.jp_cli.proofs.ScriptSoFar.{SoFar}
use Rattle.jp_cli.specs.Runs.{most_lines, progress_of, setup_of}
use Rattle.jp_cli.specs.Commands.{asked_in}
use Rattle.jp_query.specs.Status.{query_of}
use Rattle.jp_cli.proofs.session.Session.run_lines.Given as goal

abbrev pub invariant-loop-buffer : goal.invariant-loop-buffer
invariant-loop-buffer g l = record {
  within : l.count ≤ l.fn.self.script_most;
  reads : l.script.failed ≡ false;
  writes : l.out.failed ≡ false;
  going : l.script.ended ≡ l.fn.script.ended;
  reads_early : l.fn.script.ended ≡ false → l.script.after ≡ l.fn.script.after;
  early : l.script.early ≡ l.fn.script.early;
  writes_early : l.out.after ≡ l.fn.out.after;
  so_far : SoFar query_of asked_in (setup_of l.fn.self) g.R.Read.remaining g.W.Write.contents l.fn.script l.script l.fn.out l.out (progress_of l.fn.self) (progress_of l.self) l.held.items l.count;
  few : l.self.opened ≤ l.count * most_lines;
  setup : setup_of l.self ≡ setup_of l.fn.self;
  calls : l.script.calls ≤ l.fn.script.calls + l.count;
}

abbrev pub decreases-loop-buffer : goal.decreases-loop-buffer
decreases-loop-buffer g l = l.fn.self.script_most - l.count
