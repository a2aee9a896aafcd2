-- The rows so far are written, and no write failed.
use Rattle.std.proofs.Common.{◌≡◌, false, flat_map, take}
use Rattle.jp_devices.specs.Devices.{Received}
use Rattle.jp_cli.specs.Found.{place_text}
use Rattle.jp_cli.proofs.rows.write_nodes.Given as goal

abbrev pub invariant-loop-place : goal.invariant-loop-place
invariant-loop-place g l = record {
  working : l.out.failed ≡ false;
  early : l.out.after ≡ l.initial.out.after;
  written : Received g.W.Write.contents l.initial.out l.out (flat_map (place_text l.framing l.line l.view) (take l.place-index l.places));
}
