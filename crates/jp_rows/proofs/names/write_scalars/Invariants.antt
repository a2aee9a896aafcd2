-- What is written so far is the text of the scalars that were read.
use Rattle.std.proofs.Common.{◌≡◌, false}
use Rattle.jp_devices.specs.Devices.{Received}
use Rattle.jp_rows.specs.Names.{name_text}
use Rattle.jp_rows.proofs.names.write_scalars.Given as goal

abbrev pub invariant-loop-scalar : goal.invariant-loop-scalar
invariant-loop-scalar g l = record {
  working : l.out.failed ≡ false;
  early : l.out.after ≡ l.initial.out.after;
  written : Received g.W.Write.contents l.initial.out l.out (name_text l.yielded);
}
