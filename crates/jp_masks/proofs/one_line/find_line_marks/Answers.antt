use Rattle.std.proofs.Common.{◌≡◌, [], ◌+◌, ◌++◌, take, get_or, flat_map, refl, sym, ap, ◌∙◌, arith, subst, take_all, None}
use Rattle.jp_model.specs.Json.Marks.{marks}
use Rattle.jp_lanes.specs.Word.{Says}
use Rattle.jp_masks.specs.OneLine.{HasMarked}
use Rattle.jp_masks.specs.Machine.{is_marked, before}
use Rattle.jp_masks.proofs.LineBlocks.{read-more, last_marked}
use Rattle.jp_masks.proofs.Scans.{marks_are}
use Rattle.jp_masks.proofs.TokenLaw.{marks_are_its_tokens}
use Rattle.jp_masks.proofs.one_line.find_line_marks.Goals as goal

pub loop-block-init : goal.loop-block-init
unfolding marks before
loop-block-init c = record { marked = record { marked = c.clear.ensures.items; knows = refl; long = refl }; base = refl }

pub loop-block-preserved : goal.loop-block-preserved
loop-block-preserved c =
    let l = c.loop-block in
    let blocks = c.split_blocks.result.0.now in
    let more = read-more blocks l.block-index [] c.loop-block-test.true in
    record {
      marked = subst (λ t. HasMarked t c.mark_block.new.positions.items c.in_ok-known.known (l.base + 64)) (sym more) (c.in_ok-known.ensures (flat_map (λ b. b) (take l.block-index blocks)) l.invariant.marked);
      base = omega (arith, l.invariant.base);
    }

pub returns-clause-marks : goal.returns-clause-marks
returns-clause-marks c =
    let l = c.loop-block in
    let blocks = c.split_blocks.result.0.now in
    let rest = c.split_blocks.result.1.now in
    let read = flat_map (λ b. b) (take l.block-index blocks) in
    let all : read ≡ flat_map (λ b. b) blocks = ap (flat_map (λ b. b)) (take_all l.block-index blocks (omega arith)) in
    let was = l.invariant.marked in
    c.in_ok-extend_from_slice.ensures.items ∙ ap (λ t. l.positions.items ++ t) (c.deref.ensures.0 ∙ c.block_positions.ensures)
    ∙ last_marked read rest l.positions.items l.known l.base c.scan_block-found.result.marks c.first_bits.result c.split_blocks.ensures.short was.marked was.knows was.long
    (subst (λ b. Says c.scan_block-found.result.marks (λ i. is_marked (before None l.known b i) (get_or b i 0))) c.pad.ensures c.scan_block-found.ensures.marks) c.first_bits.ensures
    ∙ ap (λ t. marks (t ++ rest)) all ∙ ap marks c.split_blocks.ensures.all

pub returns-clause-tokens : goal.returns-clause-tokens
returns-clause-tokens c t text = returns-clause-marks c ∙ marks_are c.args.line.now _ (marks_are_its_tokens c.args.line.now t text).scans
