-- The lines so far are the texts at the first spans, after those that were there.
use Rattle.std.proofs.Common.{◌≡◌, ◌++◌, map, take, All}
use Rattle.jp_model.specs.declared.Framing.TheVariants as framings
use Rattle.jp_lines.specs.Batches.{text_at}
use Rattle.jp_lines.specs.Stored.{stored_text, IsRead}
use Rattle.jp_lines.proofs.texts.read_texts.Given as goal

abbrev pub invariant-loop-span : goal.invariant-loop-span
invariant-loop-span l = record {
  came : map (stored_text l.bytes) l.lines.items ≡ map (stored_text l.bytes) l.fn.lines.items ++ take l.span-index (map (text_at l.bytes) l.spans);
  read : All (IsRead framings.Lines l.bytes l.fn.tapes.items) l.fn.lines.items → All (IsRead framings.Lines l.bytes l.tapes.items) l.lines.items;
}
