use Rattle.std.proofs.Common.{◌≡◌, false, length}
use Rattle.jp_tape.specs.Keys.{slot_in, AreHit, AreAlone}
use Rattle.jp_tape.proofs.builder.keys.count_hits.Given as goal

abbrev pub invariant-loop-name : goal.invariant-loop-name
invariant-loop-name l = record {
  hit : AreHit (slot_in l.line (length l.hits)) l.names l.name-index l.hits;
  alone : l.is_shared ≡ false → AreAlone (slot_in l.line (length l.hits)) l.names l.name-index l.hits;
}
