-- The marks so far are written, and no write failed.
use Rattle.std.proofs.Common.{◌≡◌, false, flat_map, take}
use Rattle.jp_devices.specs.Devices.{Received}
use Rattle.jp_nodes.specs.Cursors.{node_of}
use Rattle.jp_cli.specs.Marks.{mark}
use Rattle.jp_cli.proofs.marks.write_marks.Given as goal

abbrev pub invariant-loop-node : goal.invariant-loop-node
invariant-loop-node g l = record {
  working : l.out.failed ≡ false;
  early : l.out.after ≡ l.initial.out.after;
  written : Received g.W.Write.contents l.initial.out l.out (flat_map (λ node. mark (node_of node)) (take l.node-index l.nodes));
}
