use Rattle.std.proofs.lemmas.List.Elements.{All-from_recursion}
use Rattle.jp_model.specs.Lines.{without_byte_order_mark}
use Rattle.jp_cut.specs.Cuts.{pieces_of}
use Rattle.jp_cut_laws.specs.Values.{IsTaken}
use Rattle.jp_cut_laws.proofs.NoneRefused.{none_refused}
use Rattle.jp_cut_laws.proofs.Streams.{values_are_pieces_of}
use Rattle.jp_cut_laws.proofs.laws.values_are_pieces.Goals as goal

pub returns : goal.returns
returns c = record {
  are = λ pieces stream values h. values_are_pieces_of pieces (without_byte_order_mark stream) values h;
  none_is_refused = λ pieces stream values h. All-from_recursion IsTaken (pieces_of pieces stream) (none_refused pieces (without_byte_order_mark stream) values h);
}
