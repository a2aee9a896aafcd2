-- Marks that hold the same are as before.
use Rattle.std.proofs.Common.{◌≡◌, ◌∙◌, ℕ, length, take, sym, map, Result, Ok, Err}
use Rattle.std.specs.Result.{OnErr}
use Rattle.std.proofs.Math.Seq.{take-append_seam}
use Rattle.jp_masks.specs.Written.{written}
use Rattle.jp_masks.specs.declared.lines.Marks.{Marks}
use Rattle.jp_masks.specs.Found.{found, line_of}
use Rattle.jp_masks.specs.Scanned.{stored, IsUnchanged, Grows, IsAsBefore}

found_same : (old new : Marks) → IsUnchanged old new → found new ≡ found old
unfolding found
found_same old new same = λ t. map (line_of (same.positions t)) (same.rows t)

pub as_before : (old new : Marks) → IsUnchanged old new → IsAsBefore old new
as_before old new same = record {
  lines = found_same old new same;
  scanned = λ framing text scanner was. record {
    whole = was.whole;
    joined = was.joined;
    in_blocks = record {
      framed = was.in_blocks.framed;
      scanned = was.in_blocks.scanned;
      in_blocks = was.in_blocks.in_blocks;
      stored = (λ t. stored (same.rows t) (same.positions t) (same.positions_before t) scanner.progress.start) ∙ was.in_blocks.stored;
      known = was.in_blocks.known;
      tested = was.in_blocks.tested;
    };
  };
  all = λ framing text a. record {
    lines = found_same old new same ∙ a.lines;
    utf8 = λ told. a.utf8 (sym same.is_utf8 ∙ told);
  };
  empty = λ e. record {
    rows = same.rows ∙ e.rows;
    positions = same.positions ∙ e.positions;
    positions_before = same.positions_before ∙ e.positions_before;
  };
}

-- what was added and is cut off again
pub cut_unchanged : (old more new : Marks) (rows positions : ℕ) → Grows old more → rows ≡ length old.rows.items → positions ≡ length (written old.positions)
    → new.rows.items ≡ take rows more.rows.items → (written new.positions) ≡ take positions (written more.positions) → new.positions_before ≡ old.positions_before → new.is_utf8 ≡ more.is_utf8
    → IsUnchanged old new
cut_unchanged old more new rows positions grown rows_is positions_is rows_are positions_are before utf8 = record {
  rows = rows_are ∙ (λ t. take (rows_is t) (grown.rows t)) ∙ take-append_seam old.rows.items grown.more_rows;
  positions = positions_are ∙ (λ t. take (positions_is t) (grown.positions t)) ∙ take-append_seam (written old.positions) grown.more_positions;
  positions_before = before;
  is_utf8 = utf8 ∙ grown.is_utf8;
}

-- what follows after an Err from what holds there
pub after_err : {T E : Type 0} (r : Result T E) (P Q : Type 0) → (P → Q) → OnErr r P → OnErr r Q
after_err (Ok x) P Q f h = tt
after_err (Err e) P Q f h = f h

-- what holds anyhow
pub also_err : {T E : Type 0} (r : Result T E) (Q : Type 0) → Q → OnErr r Q
also_err (Ok x) Q q = tt
also_err (Err e) Q q = q
