-- One text after another is read.
use Rattle.std.proofs.Common.{◌∙◌, List, map, sym, ap, subst, append-nil, arith, All}
use Rattle.std.specs.Option.{option_map}
use Rattle.std.specs.Prelude.{Some}
use Rattle.std.proofs.lemmas.List.{length-map}
use Rattle.std.proofs.lemmas.Option.{slice_get-get_or, slice_get-map}
use Rattle.jp_model.specs.declared.Framing.TheVariants as framings
use Rattle.jp_lines.specs.Batches.{text_at}
use Rattle.jp_lines.specs.declared.line.Line.{Line}
use Rattle.jp_lines.specs.Stored.{stored_text, IsRead}
use Rattle.jp_lines.proofs.LinesRead.{more_came, one_more_read, all_stay, all_came}
use Rattle.jp_lines.proofs.texts.read_texts.Goals as goal

pub loop-span-init : goal.loop-span-init
loop-span-init c =
    let bytes = c.args.bytes.now in
    let same = c.in_ok-reserve.ensures.items in
    record {
      came = ap (map (stored_text bytes)) same ∙ sym (append-nil (map (stored_text bytes) c.args.lines.now.items));
      read = λ read. subst (λ (ls : List Line). All (IsRead framings.Lines bytes c.args.tapes.now.items) ls) (sym same) read;
    }

pub loop-span-preserved : goal.loop-span-preserved
loop-span-preserved c =
    let bytes = c.args.bytes.now in
    let more = c.in_ok-line.ensures.more in
    let l = c.loop-span in
    let text = slice_get-map (text_at bytes) c.args.spans.now l.span-index ∙ ap (option_map (text_at bytes)) (slice_get-get_or c.args.spans.now l.span-index _ c.loop-span-test.true) ∙ ap Some (sym c.in_ok-line.ensures.text) in
    record {
      came = more_came bytes l.lines.items c.push.new.self.items c.in_ok-line.line l.span-index (map (stored_text bytes) c.args.lines.now.items)
          (map (text_at bytes) c.args.spans.now) c.in_ok-push.ensures.items text l.invariant.came;
      read = λ read. one_more_read framings.Lines bytes c.read_text.new.tapes.items l.lines.items c.push.new.self.items c.in_ok-line.line c.in_ok-push.ensures.items
          (all_stay c.tapes_are_kept.ensures framings.Lines bytes l.tapes.items more.0 c.read_text.new.tapes.items l.lines.items more.1 (l.invariant.read read)) c.in_ok-line.ensures.read;
    }

pub returns-clause-came : goal.returns-clause-came
returns-clause-came c =
    let bytes = c.args.bytes.now in
    all_came bytes c.loop-span.lines.items c.loop-span.span-index (map (stored_text bytes) c.args.lines.now.items) (map (text_at bytes) c.args.spans.now)
    c.loop-span.invariant.came (omega (arith, c.loop-span-test.false, length-map c.args.spans.now (text_at bytes)))
