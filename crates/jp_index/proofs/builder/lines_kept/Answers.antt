-- One cell after another.
use Rattle.std.proofs.Common.{◌≡◌, ◌∙◌, ◌+◌, ◌++◌, [], ◌∷◌, ap, ap₂, arith, length, sym, take, List, ℕ}
use Rattle.std.specs.Option.{is_some}
use Rattle.std.proofs.lemmas.List.{length-take-le, take_all, take_more}
use Rattle.jp_model.specs.Numbered.{numbers_where}
use Rattle.jp_index.specs.LineSetViews.{numbers_of}
use Rattle.jp_index.specs.Numbered.{with_number}
use Rattle.jp_index.proofs.Numbered.{lines_more}
use Rattle.jp_index.proofs.builder.lines_kept.Goals as goal

pub loop-cell-preserved : goal.loop-cell-preserved
loop-cell-preserved c =
    let cells = c.args.cells.now in
    let i = c.loop-cell.cell-index in
    let cell = c.cell-item.result in
    let number = ap (λ n. n + 1) c.loop-cell.invariant.number in
    let size : length (take i cells) ≡ i = length-take-le i cells (omega (arith, c.loop-cell-test.true)) in
    let more : take (i + 1) cells ≡ take i cells ++ cell ∷ [] = take_more cells i cell c.loop-cell-test.true ∙ ap (λ d. take i cells ++ d ∷ []) (sym c.cell-item.is) in
    record {
      number = number;
      room = omega (arith, c.set.ensures.room, c.loop-cell.invariant.room);
      kept = c.set.ensures.lines
          ∙ (ap (λ b. with_number (c.loop-cell.line + 1) b (numbers_of c.loop-cell.lines)) c.is_some.ensures
          ∙ (ap₂ (λ (n : ℕ) (ns : List ℕ). with_number n (is_some cell) ns) number c.loop-cell.invariant.kept
          ∙ (lines_more is_some 1 (take i cells) (i + 1) cell (omega (arith, size)) ∙ ap (numbers_where is_some 1) (sym more))));
    }

pub returns : goal.returns
returns c = c.loop-cell.invariant.kept ∙ ap (numbers_where is_some 1) (take_all c.loop-cell.cell-index c.args.cells.now (omega (arith, c.loop-cell-test.false)))
