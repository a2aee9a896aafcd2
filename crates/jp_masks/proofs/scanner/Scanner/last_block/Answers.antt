use Rattle.std.proofs.Common.{◌≡◌, ◌+◌, ◌++◌, length, take, get_or, sym, ap, ◌∙◌, arith, subst, Some}
use Rattle.std.proofs.lemmas.List.{length-take, length-append}
use lib.Bits.{bit_and, bit_or}
use Rattle.jp_model.specs.declared.Framing.{Framing}
use Rattle.jp_lanes.specs.Word.{Says}
use Rattle.jp_masks.specs.Written.{written}
use Rattle.jp_masks.specs.Positions.{set_bits}
use Rattle.jp_masks.specs.Ends.{is_end}
use Rattle.jp_masks.specs.Machine.{is_marked, before}
use Rattle.jp_masks.specs.declared.block.Carry.{Carry}
use Rattle.jp_masks.specs.Sinks.{add_positions, row_if}
use Rattle.jp_masks.specs.Found.{is_last_line}
use Rattle.jp_masks.proofs.LineMore.{known_after}
use Rattle.jp_masks.proofs.FoundLaw.{found_all}
use Rattle.jp_masks.proofs.LastBlock.{set_below, last_law, utf8_law}
use Rattle.jp_masks.proofs.scanner.Scanner.last_block.Goals as goal

pub add_block-requires : goal.add_block-requires
add_block-requires c =
    let s = c.args.self.now in
    record {
      fits = λ i within set. (let low = set_below c.first_bits-read.result s.held_len c.first_bits-read.ensures c.scan_block-block_found.result.marks c.scan_block-block_found.result.ends i within set in omega (arith, low, s.fits));
      order = s.progress.in_order;
    }

pub returns-clause-all : goal.returns-clause-all
returns-clause-all c framing text was =
    let s = c.args.self.now in
    let blocks = was.in_blocks in
    let whole = was.whole in
    let held = take s.held_len s.held in
    let block = c.pad-block.result in
    let made = c.scan_block-block_found.result in
    let read = c.first_bits-read.result in
    let sink = c.add_block.new.self in
    let start = c.in_ok-start.start in
    let n_is : s.held_len ≡ length held = omega (arith, s.short, length-take s.held_len s.held) in
    let marked : Says made.marks (λ i. is_marked (before (Some framing) (known_after (Some framing) whole) block i) (get_or block i 0)) =
    subst (λ (k : Carry). Says made.marks (λ i. is_marked (before (Some framing) k block i) (get_or block i 0))) blocks.known
    (subst (λ (f : Framing). Says made.marks (λ i. is_marked (before (Some f) s.progress.carry block i) (get_or block i 0))) blocks.framed c.scan_block-block_found.ensures.marks) in
    let ends : Says made.ends (λ i. is_end (Some framing) (get_or block i 0)) =
    subst (λ (f : Framing). Says made.ends (λ i. is_end (Some f) (get_or block i 0))) blocks.framed c.scan_block-block_found.ensures.ends in
    let law = last_law read s.held_len c.first_bits-read.ensures framing text whole held block s.progress.scanned made.marks made.ends n_is s.short c.pad-block.ensures blocks.scanned was.joined marked ends in
    let stored_is = c.in_ok-start.ensures.added
    ∙ (λ t. add_positions (blocks.framed t) (bit_and made.ends read) s.progress.scanned (blocks.stored t) (set_bits (bit_or (bit_and made.marks read) (bit_and made.ends read))))
    ∙ law in
    let last_is = c.is_last_line.ensures ∙ ap (λ (f : Framing). is_last_line f start (s.progress.scanned + s.held_len)) blocks.framed in
    let rows_are = ap (λ v. v.items) c.tell_utf8.ensures.rows ∙ c.in_ok-close.ensures.rows
    ∙ ap (λ is. sink.rows.items ++ row_if is start (s.progress.scanned + s.held_len) sink.positions_before (length (written sink.positions))) last_is in
    let positions_are = ap written c.tell_utf8.ensures.positions ∙ ap written c.in_ok-close.ensures.positions in
    record {
      lines = found_all framing text c.tell_utf8.new.self sink.rows.items (written sink.positions) sink.positions_before start (s.progress.scanned + s.held_len) stored_is rows_are positions_are
          (omega (arith, blocks.scanned, n_is, ap length was.joined, length-append whole held));
      utf8 = λ told. utf8_law read s.held_len c.first_bits-read.ensures text whole held block n_is s.short c.pad-block.ensures was.joined
          ((c.finish.ensures (whole ++ block) (c.step.ensures whole blocks.tested)).0 (sym c.tell_utf8.ensures.utf8 ∙ told));
    }
