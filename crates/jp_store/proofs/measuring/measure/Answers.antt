-- One line after another is counted.
use Rattle.std.proofs.Common.{◌≡◌, ◌∙◌, ◌+◌, ap, ap₂, sym, arith, length, cond, List, ℕ}
use Rattle.jp_index.specs.Numbered.{with_number}
use Rattle.jp_lines.specs.Stored.{told_of, is_tree_status, is_fault_status}
use Rattle.jp_store.proofs.Measured.{held_more, held_part, trees_few, trees_more, refused_more, all_counted}
use Rattle.jp_store.proofs.measuring.measure.Goals as goal

pub overflow_add-held : goal.overflow_add-held
overflow_add-held c =
    let counted = c.loop-line.invariant.counted c.requires.read.0 c.requires.read.1 c.requires.read.2 in
    let bytes = c.args.bytes.now in
    let lines = c.args.lines.now in
    omega (
      arith,
      counted.held_is,
      held_more bytes lines c.loop-line.line-index c.line-item.result c.loop-line-test.true c.line-item.is,
      held_part bytes lines (c.loop-line.line-index + 1),
      c.requires.room,
      ap length c.text_of.ensures,
    )

pub change-requires-clause-most : goal.change-requires-clause-most
change-requires-clause-most c =
    let counted = c.loop-line.invariant.counted c.requires.read.0 c.requires.read.1 c.requires.read.2 in
    omega (
      arith,
      counted.trees_is,
      trees_few c.requires.read.0 c.args.bytes.now c.args.lines.now c.loop-line.line-index (omega (arith, c.loop-line-test.true)),
      c.loop-line-test.true,
      c.requires.few,
    )

pub loop-line-preserved : goal.loop-line-preserved
loop-line-preserved c =
    let bytes = c.args.bytes.now in
    let lines = c.args.lines.now in
    let i = c.loop-line.line-index in
    let line = c.line-item.result in
    let number = ap (λ n. n + 1) c.loop-line.invariant.number in
    let trees : c.change.new.self.trees ≡ c.loop-line.counts.trees + cond (is_tree_status (told_of line)) 1 0 = omega (arith, c.change.ensures.trees) in
    record {
      counted = λ framing tapes all.
          let counted = c.loop-line.invariant.counted framing tapes all in
          let added = c.change.ensures in
          record {
            held_is = added.held ∙ ap₂ (λ (m n : ℕ). m + (n + 1)) counted.held_is (ap length c.text_of.ensures) ∙ sym (held_more bytes lines i line c.loop-line-test.true c.line-item.is);
            trees_is = trees ∙ ap (λ n. n + cond (is_tree_status (told_of line)) 1 0) counted.trees_is ∙ sym (trees_more bytes lines i line c.loop-line-test.true c.line-item.is framing tapes all);
            refused_is =
                added.refused
                ∙ ap₂ (λ (ns : List ℕ) (n : ℕ). with_number n (is_fault_status (told_of line)) ns) counted.refused_is number
                ∙ refused_more bytes lines i line c.loop-line-test.true c.line-item.is framing tapes all;
          };
      number = number;
      room = omega (arith, c.change.ensures.room, c.loop-line.invariant.room);
    }

pub returns : goal.returns
returns c = λ framing tapes all. all_counted framing c.args.bytes.now c.args.lines.now c.loop-line.line-index c.loop-line.counts (omega (arith, c.loop-line-test.false)) (c.loop-line.invariant.counted framing tapes all)
