-- The lines so far are the first of the piece, after those that were there.
use Rattle.std.proofs.Common.{◌≡◌, ◌+◌, ◌≤◌, ◌++◌, map, take, All}
use Rattle.std.specs.Vec.{vec_len, vec_capacity}
use Rattle.jp_model.specs.Json.Places.{bytes_between}
use Rattle.jp_masks.specs.Found.{lines_in}
use Rattle.jp_lines.specs.Stored.{stored_text, IsRead}
use Rattle.jp_lines.proofs.loading.read_piece.Given as goal

abbrev pub invariant-loop-index : goal.invariant-loop-index
invariant-loop-index l = record {
  came : map (stored_text l.bytes) l.lines.items ≡ map (stored_text l.bytes) l.fn.lines.items ++ take l.index (lines_in l.framing (bytes_between l.bytes l.piece.start l.piece.end));
  room : vec_len l.lines + l.count ≤ vec_capacity l.lines + l.index;
  read : All (IsRead l.framing l.bytes l.fn.tapes.items) l.fn.lines.items → All (IsRead l.framing l.bytes l.tapes.items) l.lines.items;
}
