-- The pieces so far are listed.
use Rattle.std.proofs.Common.{◌≡◌, map, take}
use Rattle.jp_grep.specs.Finding.{span_of}
use Rattle.jp_grep.proofs.answering.list_spans.Given as goal

abbrev pub invariant-loop-piece : goal.invariant-loop-piece
invariant-loop-piece l = record {
  listed : l.spans.items ≡ map span_of (take l.piece-index l.pieces);
}
