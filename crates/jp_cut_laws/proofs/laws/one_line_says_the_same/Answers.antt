use Rattle.std.proofs.Common.{eqb, ◌≡◌, false}
use Rattle.std.proofs.lemmas.List.Elements.{All-from_recursion}
use Rattle.jp_cut_laws.specs.Values.{on_one_line}
use Rattle.jp_cut_laws.proofs.OneLine.{line_on_one, no_line_feed}
use Rattle.jp_cut_laws.proofs.laws.one_line_says_the_same.Goals as goal

pub returns : goal.returns
returns c = record {
  says = line_on_one;
  is_one = λ bytes. All-from_recursion (λ x. eqb x 0x0A ≡ false) (on_one_line bytes) (no_line_feed bytes);
}
