-- One piece after another is read.
use Rattle.std.proofs.Common.{◌∙◌, ◌++◌, List, map, length, drop, sym, ap, subst, arith, length-drop, All}
use Rattle.std.proofs.lemmas.List.{take_rest}
use Rattle.jp_model.specs.Lines.{lines}
use Rattle.jp_masks.specs.Found.{lines_in}
use Rattle.jp_lines.specs.declared.line.Line.{Line}
use Rattle.jp_lines.specs.Stored.{stored_text, IsRead}
use Rattle.jp_lines.proofs.Parts.{all_lines, part_came, all_parts}
use Rattle.jp_lines.proofs.loading.read_lines.Goals as goal

pub loop-start-init : goal.loop-start-init
loop-start-init c =
    let framing = c.args.framing in
    let bytes = c.args.bytes.now in
    let none = c.new-all.ensures.items in
    record {
      came = ap (λ (ls : List Line). map (stored_text bytes) ls ++ lines_in framing (drop c.lines_start-start.result bytes)) none ∙ all_lines framing bytes c.lines_start-start.result c.lines_start-start.ensures.rest;
      read = subst (λ (ls : List Line). All (IsRead framing bytes c.new-tapes.result.items) ls) (sym none) (λ k d l. absurd (omega arith));
      within = c.lines_start-start.ensures.within;
    }

pub loop-start-preserved : goal.loop-start-preserved
loop-start-preserved c =
    let bytes = c.args.bytes.now in
    let l = c.loop-start in
    record {
      came = part_came c.args.framing (map (stored_text bytes) l.all.items) (map (stored_text bytes) c.read_piece.new.lines.items) (lines c.args.framing bytes) bytes _ l.start c.front_length.result
          (take_rest bytes l.start) c.front_length.ensures.parted c.in_ok-read_piece.ensures.came l.invariant.came;
      read = c.in_ok-read_piece.ensures.read l.invariant.read;
      within = omega (arith, c.front_length.ensures.within, ap length (take_rest bytes l.start), length-drop l.start bytes, c.loop-start-test.true);
    }

pub returns-clause-came : goal.returns-clause-came
returns-clause-came c =
    let bytes = c.args.bytes.now in
    all_parts c.args.framing (map (stored_text bytes) c.loop-start.all.items) (lines c.args.framing bytes) bytes c.loop-start.start c.loop-start-test.false c.loop-start.invariant.came
