use Rattle.std.proofs.lemmas.List.Elements.{recursion_from_All}
use Rattle.jp_model.specs.Lines.{without_byte_order_mark}
use Rattle.jp_cut.specs.Cuts.{pieces_of}
use Rattle.jp_cut_laws.specs.Values.{IsTaken}
use Rattle.jp_cut_laws.proofs.Accepted.{accepted_are_values}
use Rattle.jp_cut_laws.proofs.laws.accepted_pieces_are_values.Goals as goal

pub returns : goal.returns
returns c = λ pieces stream h. accepted_are_values pieces (without_byte_order_mark stream) (recursion_from_All IsTaken (pieces_of pieces stream) h)
