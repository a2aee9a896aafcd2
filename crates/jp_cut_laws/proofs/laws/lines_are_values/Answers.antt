use Rattle.std.proofs.lemmas.List.Elements.{recursion_from_All}
use Rattle.jp_model.specs.declared.Framing.TheVariants.{Lines}
use Rattle.jp_model.specs.Lines.{lines, without_byte_order_mark}
use Rattle.jp_cut_laws.specs.Values.{IsRefused}
use Rattle.jp_cut_laws.proofs.LineValues.{line_is_value, lines_are_values, value_alone}
use Rattle.jp_cut_laws.proofs.laws.lines_are_values.Goals as goal

pub returns : goal.returns
returns c = record {
  of_one = line_is_value;
  of_all = λ collection fine. lines_are_values (without_byte_order_mark collection) (recursion_from_All (λ line. IsRefused line → ⊥) (lines Lines collection) fine);
  alone = value_alone;
}
