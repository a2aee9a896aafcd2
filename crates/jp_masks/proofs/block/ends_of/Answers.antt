use Rattle.std.proofs.Common.{ap, sym, ◌∙◌, slice_index}
use Rattle.jp_masks.specs.Ends.{is_end}
use Rattle.jp_masks.proofs.Bits.{bit_zero}
use Rattle.jp_masks.proofs.block.ends_of.Goals as goal

pub returns-in-None : goal.returns-in-None
returns-in-None c i within = bit_zero i ∙ sym (ap (λ f. is_end f (slice_index c.args.bytes.now i)) c.in-None.is)
