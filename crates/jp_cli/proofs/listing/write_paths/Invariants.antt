-- The paths so far are written, and no write failed.
use Rattle.std.proofs.Common.{◌≡◌, false, take}
use Rattle.jp_devices.specs.Devices.{Received}
use Rattle.jp_cli.specs.Listed.{listed}
use Rattle.jp_cli.proofs.listing.write_paths.Given as goal

abbrev pub invariant-loop-number : goal.invariant-loop-number
invariant-loop-number g l = record {
  working : l.out.failed ≡ false;
  early : l.out.after ≡ l.initial.out.after;
  written : Received g.W.Write.contents l.initial.out l.out (listed (take l.number l.store.state.paths));
}
