use Rattle.std.proofs.Common.{◌++◌, flat_map, ap₂, ◌∙◌, length, ◌/◌}
use Rattle.jp_masks.proofs.Chunks.{chunks_all}
use Rattle.jp_masks.proofs.one_line.split_blocks.Goals as goal

pub returns-clause-all : goal.returns-clause-all
returns-clause-all c = ap₂ (λ x y. flat_map (λ b. b) x ++ y) c.as_chunks.ensures.front c.as_chunks.ensures.back ∙ chunks_all 64 (length c.args.bytes.now / 64) c.args.bytes.now
