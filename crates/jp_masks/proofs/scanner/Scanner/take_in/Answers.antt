use Rattle.std.proofs.Common.{◌≡◌, ℕ, List, ◌++◌, ◌-◌, take, flat_map, sym, ap₂, ◌∙◌, subst}
use Rattle.std.proofs.lemmas.List.{take-append-drop}
use Rattle.jp_masks.specs.declared.progress.Progress.{Progress}
use Rattle.jp_masks.specs.Scanned.{InBlocks}
use Rattle.jp_masks.proofs.Growth.{grows_not}
use Rattle.jp_masks.proofs.Joined.{joined}
use Rattle.jp_masks.proofs.scanner.Scanner.take_in.Goals as goal

pub returns-then-piece-room-clause-grown : goal.returns-then-piece-room-clause-grown
returns-then-piece-room-clause-grown c = grows_not c.args.sink.now

pub returns-clause-scanned : goal.returns-clause-scanned
returns-clause-scanned c framing text was =
    let s = c.args.self.now in
    let piece = c.args.piece.now in
    let held = take s.held_len s.held in
    let first = c.split_at.result.0.now in
    let blocks = flat_map (λ b. b) c.split_blocks.result.0.now in
    let rest = c.split_blocks.result.1.now in
    let one = c.in_ok-step.ensures.scanned framing was.whole was.in_blocks in
    let all = c.in_ok-scan_blocks.ensures.scanned framing _ one in
    let parts : first ++ (blocks ++ rest) ≡ piece =
    ap₂ (λ (x y : List ℕ). x ++ y) c.split_at.ensures.front (c.split_blocks.ensures.all ∙ c.split_at.ensures.back) ∙ take-append-drop (64 - s.held_len) piece in
    record {
      whole = (was.whole ++ c.fill-block.result) ++ blocks;
      joined = joined text piece was.whole held first blocks rest was.joined parts
          ∙ (λ t. ((was.whole ++ sym c.fill-block.ensures t) ++ blocks) ++ sym c.hold-2.ensures.held t);
      in_blocks = subst (λ (p : Progress). InBlocks framing ((was.whole ++ c.fill-block.result) ++ blocks) p c.scan_blocks.new.sink) (sym c.hold-2.ensures.progress) all;
    }
