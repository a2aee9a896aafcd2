-- One cell more, and its line where it has a key.
use Rattle.std.proofs.Common.{◌≡◌, ◌∙◌, ◌+◌, ◌++◌, ◌∷◌, [], ap, sym, subst, arith, true, false, append-nil, length-append, length, if◌then◌else◌}
use Rattle.std.specs.Prelude.{option_map}
use Rattle.jp_nodes.specs.Cursors.{root_of}
use Rattle.jp_model.specs.Numbered.{numbers_where}
use Rattle.jp_index.specs.Cells.{has_key}
use Rattle.jp_index.specs.Entries.{entry_in}
use Rattle.jp_index.specs.Indexes.{CellIs, CellsAre}
use Rattle.jp_index.proofs.Cells.{cells_push}
use Rattle.jp_model.proofs.Numbered.{numbers_where-append}
use Rattle.jp_index.proofs.builder.IndexBuilder.push.Goals as goal

pub returns-in_ok-push-clause-ok : goal.returns-in_ok-push-clause-ok
returns-in_ok-push-clause-ok c = λ path lines entries is.
    let cells = c.args.self.now.cells.items in
    let by_key = c.args.self.now.by_key.items in
    let cell = c.in_ok-cell.cell in
    let root = option_map root_of c.args.root in
    let next : lines + 1 ≡ 1 + length cells = omega (arith, is.lines_are) in
    let number : c.len.result + 1 ≡ lines + 1 = omega (arith, is.lines_are, c.len.ensures) in
    let pushed : c.push-then-has_key.new.self.items ≡ by_key ++ (lines + 1) ∷ [] =
    c.push-then-has_key.ensures.items ∙ (ap (λ b. if b then c.reserve.new.self.items ++ (c.len.result + 1) ∷ [] else c.reserve.new.self.items) (c.push-then-has_key.ensures.succeeds (omega (arith, c.in_ok-reserve.ensures.ok)))
    ∙ (ap (λ l. l ++ (c.len.result + 1) ∷ []) c.reserve.ensures.items ∙ ap (λ n. by_key ++ n ∷ []) number)) in
    let keyed : has_key cell ≡ true = sym c.has_key.ensures ∙ c.if-has_key.true in
    record {
      path_is = is.path_is;
      lines_are = ap length c.in_ok-push.ensures.items ∙ (let l = length-append cells (cell ∷ []) in omega (arith, is.lines_are, l));
      cells_are = subst (λ cs. CellsAre path 1 cs (entries ++ entry_in path (lines + 1) root)) (sym c.in_ok-push.ensures.items)
          (cells_push path 1 (lines + 1) cells cell entries (entry_in path (lines + 1) root) is.cells_are next
          (subst (λ p. CellIs p (lines + 1) cell (entry_in p (lines + 1) root)) is.path_is (c.in_ok-cell.ensures (lines + 1))));
      keyed_are = pushed ∙ (ap (λ l. l ++ (lines + 1) ∷ []) is.keyed_are ∙ (ap (λ b. numbers_where has_key 1 cells ++ (if b then (lines + 1) ∷ [] else [])) (sym keyed)
          ∙ (sym (numbers_where-append has_key 1 (lines + 1) cells cell next) ∙ ap (numbers_where has_key 1) (sym c.in_ok-push.ensures.items))));
    }

pub returns-in_ok-push-2-clause-ok : goal.returns-in_ok-push-2-clause-ok
returns-in_ok-push-2-clause-ok c = λ path lines entries is.
    let cells = c.args.self.now.cells.items in
    let cell = c.in_ok-cell.cell in
    let root = option_map root_of c.args.root in
    let next : lines + 1 ≡ 1 + length cells = omega (arith, is.lines_are) in
    let keyed : has_key cell ≡ false = sym c.has_key.ensures ∙ c.if-has_key.false in
    record {
      path_is = is.path_is;
      lines_are = ap length c.in_ok-push-2.ensures.items ∙ (let l = length-append cells (cell ∷ []) in omega (arith, is.lines_are, l));
      cells_are = subst (λ cs. CellsAre path 1 cs (entries ++ entry_in path (lines + 1) root)) (sym c.in_ok-push-2.ensures.items)
          (cells_push path 1 (lines + 1) cells cell entries (entry_in path (lines + 1) root) is.cells_are next
          (subst (λ p. CellIs p (lines + 1) cell (entry_in p (lines + 1) root)) is.path_is (c.in_ok-cell.ensures (lines + 1))));
      keyed_are = c.reserve.ensures.items ∙ (is.keyed_are ∙ (sym (append-nil (numbers_where has_key 1 cells)) ∙ (ap (λ b. numbers_where has_key 1 cells ++ (if b then (lines + 1) ∷ [] else [])) (sym keyed)
          ∙ (sym (numbers_where-append has_key 1 (lines + 1) cells cell next) ∙ ap (numbers_where has_key 1) (sym c.in_ok-push-2.ensures.items)))));
    }
