-- The rows so far are written, and no write failed.
use Rattle.std.proofs.Common.{◌≡◌, ◌-◌, ◌≤◌, false, length, take}
use Rattle.jp_devices.specs.Devices.{Received}
use Rattle.jp_model.specs.Script.Machine.{refusals_from}
use Rattle.jp_store.specs.Collections.{statuses_in}
use Rattle.jp_cli.proofs.check.write_refusals.Given as goal

abbrev pub invariant-loop-number : goal.invariant-loop-number
invariant-loop-number g l = record {
  working : l.out.failed ≡ false;
  early : l.out.after ≡ l.initial.out.after;
  within : l.last ≤ length l.store.state.lines;
  written : Received g.W.Write.contents l.initial.out l.out (refusals_from l.store.framing 1 (take l.last (statuses_in l.store)));
}

abbrev pub decreases-loop-number : goal.decreases-loop-number
decreases-loop-number g l = length l.store.state.lines - l.last
