-- The places so far are those of the first nodes, after the old ones.
use Rattle.std.proofs.Common.{◌≡◌, ◌++◌, map, take}
use Rattle.std.specs.Prelude.{All}
use Rattle.jp_nodes.specs.Cursors.{place_of}
use Rattle.jp_plan.specs.ByLine.{IsPlaceIn}
use Rattle.jp_plan.proofs.rows.Rows.push_nodes.Given as goal

abbrev pub invariant-loop-node : goal.invariant-loop-node
invariant-loop-node l = record {
  lines : l.self.lines.items ≡ l.initial.self.lines.items;
  places : l.self.places.items ≡ l.initial.self.places.items ++ map place_of (take l.node-index l.nodes);
  within : All (IsPlaceIn l.view) (map place_of (take l.node-index l.nodes));
}
