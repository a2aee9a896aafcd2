-- What is written so far is the text of the steps so far.
use Rattle.std.proofs.Common.{◌≡◌, false, map, take}
use Rattle.jp_devices.specs.Devices.{Received}
use Rattle.jp_model.specs.Meaning.Paths.{path_text}
use Rattle.jp_syntax.specs.SingularPaths.{step_view}
use Rattle.jp_rows.proofs.singular.write_steps.Given as goal

abbrev pub invariant-loop-step : goal.invariant-loop-step
invariant-loop-step g l = record {
  working : l.out.failed ≡ false;
  early : l.out.after ≡ l.fn.out.after;
  written : Received g.W.Write.contents l.fn.out l.out (path_text (map step_view (take l.step-index l.step-items)));
}
