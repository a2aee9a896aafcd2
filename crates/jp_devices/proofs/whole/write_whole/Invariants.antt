-- What is written so far are the first bytes of the text, and no write failed.
use Rattle.std.proofs.Common.{length, ◌-◌, ◌≡◌, ◌≤◌, false, take}
use Rattle.jp_devices.specs.Devices.{Received}
use Rattle.jp_devices.proofs.whole.write_whole.Given as goal

abbrev pub invariant-loop-at : goal.invariant-loop-at
invariant-loop-at g l = record {
  within : l.at ≤ length l.text;
  working : l.out.failed ≡ false;
  early : l.out.after ≡ l.initial.out.after;
  written : Received g.W.Write.contents l.initial.out l.out (take l.at l.text);
}

abbrev pub decreases-loop-at : goal.decreases-loop-at
decreases-loop-at g l = length l.text - l.at
