use Rattle.jp_cut_laws.proofs.Children.{array_elements}
use Rattle.jp_cut_laws.proofs.laws.an_array_has_its_elements.Goals as goal

pub returns : goal.returns
returns c = array_elements
