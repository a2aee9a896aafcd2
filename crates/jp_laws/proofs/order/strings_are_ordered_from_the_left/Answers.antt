use Rattle.std.proofs.lemmas.Slice.Eq.{bytes_eq-Decides}
use Rattle.jp_laws.proofs.OrderedValues.{less_behind, less_beginning}
use Rattle.jp_laws.proofs.order.strings_are_ordered_from_the_left.Goals as goal

pub returns-clause-first : goal.returns-clause-first
returns-clause-first c = less_behind

pub returns-clause-beginning : goal.returns-clause-beginning
returns-clause-beginning c = less_beginning

pub returns-clause-equal : goal.returns-clause-equal
returns-clause-equal c = λ x y h. (bytes_eq-Decides x y).0 h
