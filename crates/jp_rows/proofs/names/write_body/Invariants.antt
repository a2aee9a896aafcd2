-- What is written so far is the text of the scalars that were read.
use Rattle.std.proofs.Common.{◌≡◌, ◌++◌, false}
use Rattle.jp_devices.specs.Devices.{Received}
use Rattle.jp_strings.specs.Points.{points_of}
use Rattle.jp_strings.specs.Scalars.{scalars_left}
use Rattle.jp_rows.specs.Names.{name_text}
use Rattle.jp_rows.proofs.names.write_body.Given as goal

abbrev pub invariant-loop-scalar : goal.invariant-loop-scalar
invariant-loop-scalar g l = record {
  left : points_of l.fn.body ≡ l.yielded ++ scalars_left l.scalar-iterator;
  working : l.out.failed ≡ false;
  early : l.out.after ≡ l.initial.out.after;
  written : Received g.W.Write.contents l.initial.out l.out (name_text l.yielded);
}
