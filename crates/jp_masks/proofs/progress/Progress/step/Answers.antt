use Rattle.std.proofs.Common.{◌≡◌, ℕ, ◌+◌, ◌<◌, ◌++◌, length, get_or, sym, ap, ◌∙◌, arith, subst, Some, take_all}
use Rattle.std.proofs.lemmas.List.{length-append}
use lib.Bits.{bit_or}
use Rattle.jp_model.specs.declared.Framing.{Framing}
use Rattle.jp_lanes.specs.Word.{bit, Says}
use Rattle.jp_masks.specs.Positions.{set_bits}
use Rattle.jp_masks.specs.Ends.{is_end}
use Rattle.jp_masks.specs.Machine.{start, is_marked, before}
use Rattle.jp_masks.specs.declared.block.Carry.{Carry}
use Rattle.jp_masks.proofs.LineMore.{known_after, before-part}
use Rattle.jp_masks.specs.Sinks.{add_positions, sink_of}
use Rattle.jp_masks.proofs.SinkLaw.{block_law}
use Rattle.jp_masks.proofs.progress.Progress.step.Goals as goal

pub returns-clause-scanned : goal.returns-clause-scanned
returns-clause-scanned c framing whole was =
    let block = c.args.block.now in
    let made = c.scan_block-block_found.result in
    let base = c.args.self.now.scanned in
    let long : length block ≡ 64 = omega arith in
    let longer = length-append whole block in
    let here : Framing = c.args.self.now.framing in
    let marked : (i : ℕ) → i < 64 → bit made.marks i ≡ is_marked (before (Some framing) (known_after (Some framing) whole) block i) (get_or block i 0) =
    subst (λ (k : Carry). Says made.marks (λ i. is_marked (before (Some framing) k block i) (get_or block i 0))) was.known
    (subst (λ (f : Framing). Says made.marks (λ i. is_marked (before (Some f) c.args.self.now.carry block i) (get_or block i 0))) was.framed c.scan_block-block_found.ensures.marks) in
    let ends : (i : ℕ) → i < 64 → bit made.ends i ≡ is_end (Some framing) (get_or block i 0) =
    subst (λ (f : Framing). Says made.ends (λ i. is_end (Some f) (get_or block i 0))) was.framed c.scan_block-block_found.ensures.ends in
    let law = block_law framing whole block made.marks made.ends base 64 long (omega arith) (sym was.scanned) marked ends (λ i low high. absurd (omega arith)) in
    record {
      framed = was.framed;
      scanned = omega (arith, was.scanned, long, longer);
      in_blocks = omega (arith, was.in_blocks, long, longer);
      stored = c.in_ok-self.ensures.added
          ∙ (λ t. add_positions (was.framed t) made.ends base (was.stored t) (set_bits (bit_or made.marks made.ends)))
          ∙ law ∙ ap (λ l. sink_of framing (whole ++ l)) (take_all 64 block (omega arith));
      known = c.scan_block-block_found.ensures.carry ∙ (λ t. before (Some (was.framed t)) (was.known t) block 64) ∙ sym (before-part (Some framing) start whole block 64)
          ∙ ap (λ n. before (Some framing) start (whole ++ block) n) (let total : length whole + 64 ≡ length (whole ++ block) = omega (arith, long, longer) in total);
      tested = c.step.ensures whole was.tested;
    }
