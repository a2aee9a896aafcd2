-- One line after another is read.
use Rattle.std.proofs.Common.{◌∙◌, List, map, sym, ap, subst, append-nil, arith, All}
use Rattle.jp_model.specs.Json.Places.{bytes_between}
use Rattle.jp_masks.specs.Found.{lines_in}
use Rattle.jp_lines.specs.declared.line.Line.{Line}
use Rattle.jp_lines.specs.Stored.{stored_text, IsRead}
use Rattle.jp_lines.proofs.LinesRead.{more_came, one_more_read, all_stay, all_came}
use Rattle.jp_lines.proofs.loading.read_piece.Goals as goal

pub loop-index-init : goal.loop-index-init
loop-index-init c =
    let bytes = c.args.bytes.now in
    let same = c.in_ok-reserve.ensures.items in
    record {
      came = ap (map (stored_text bytes)) same ∙ sym (append-nil (map (stored_text bytes) c.args.lines.now.items));
      room = omega (arith, c.in_ok-reserve.ensures.ok);
      read = λ read. subst (λ (ls : List Line). All (IsRead c.args.framing bytes c.args.tapes.now.items) ls) (sym same) read;
    }

pub loop-index-preserved : goal.loop-index-preserved
loop-index-preserved c =
    let bytes = c.args.bytes.now in
    let more = c.in_ok-line.ensures.more in
    record {
      came = more_came bytes c.loop-index.lines.items c.push_reserved.new.self.items c.in_ok-line.line c.loop-index.index (map (stored_text bytes) c.args.lines.now.items)
          (lines_in c.args.framing (bytes_between bytes c.args.piece.start c.args.piece.end)) c.push_reserved.ensures.items c.in_ok-line.ensures.text c.loop-index.invariant.came;
      room = omega (arith, c.loop-index.invariant.room, c.push_reserved.ensures.len, c.push_reserved.ensures.capacity);
      read = λ read. one_more_read c.args.framing bytes c.read_line.new.tapes.items c.loop-index.lines.items c.push_reserved.new.self.items c.in_ok-line.line c.push_reserved.ensures.items
          (all_stay c.tapes_are_kept.ensures c.args.framing bytes c.loop-index.tapes.items more.0 c.read_line.new.tapes.items c.loop-index.lines.items more.1 (c.loop-index.invariant.read read)) c.in_ok-line.ensures.read;
    }

pub push_reserved-requires : goal.push_reserved-requires
push_reserved-requires c = omega (arith, c.loop-index.invariant.room, c.loop-index-test.true)

pub returns-clause-came : goal.returns-clause-came
returns-clause-came c =
    let bytes = c.args.bytes.now in
    all_came bytes c.loop-index.lines.items c.loop-index.index (map (stored_text bytes) c.args.lines.now.items) (lines_in c.args.framing (bytes_between bytes c.args.piece.start c.args.piece.end))
    c.loop-index.invariant.came (omega (arith, c.loop-index-test.false, c.line_count-count.ensures, c.in_ok-scan.ensures.count))
