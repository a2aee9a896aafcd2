-- Marks to which some come are still in front.
use Rattle.std.proofs.Common.{◌≡◌, ℕ, List, [], ◌++◌, refl, sym, ap, ◌∙◌, append-nil, append_assoc}
use Rattle.jp_masks.specs.Written.{written}
use Rattle.jp_masks.specs.declared.row.Row.{Row}
use Rattle.jp_masks.specs.declared.lines.Marks.{Marks}
use Rattle.jp_masks.specs.Scanned.{Grows}

pub grows_not : (m : Marks) → Grows m m
grows_not m = record { more_rows = []; more_positions = []; rows = sym (append-nil m.rows.items); positions = sym (append-nil (written m.positions)); is_utf8 = refl }

pub grows_by : (a b c : Marks) (rows : List Row) (positions : List ℕ) → Grows a b → c.rows.items ≡ b.rows.items ++ rows → (written c.positions) ≡ (written b.positions) ++ positions → c.is_utf8 ≡ b.is_utf8 → Grows a c
grows_by a b c rows positions g e f u = record {
  more_rows = g.more_rows ++ rows;
  more_positions = g.more_positions ++ positions;
  rows = e ∙ ap (λ r. r ++ rows) g.rows ∙ append_assoc a.rows.items g.more_rows rows;
  positions = f ∙ ap (λ p. p ++ positions) g.positions ∙ append_assoc (written a.positions) g.more_positions positions;
  is_utf8 = u ∙ g.is_utf8;
}
