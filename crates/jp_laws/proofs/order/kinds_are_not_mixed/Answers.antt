use Rattle.std.proofs.Common.{◌≡◌, Option, None, Some, false, refl}
use Rattle.std.specs.Option.{is_none}
use Rattle.jp_model.specs.Json.Tree.{Value}
use Rattle.jp_model.specs.Meaning.Compare.{compared}
use Rattle.jp_model.specs.Query.Syntax.{equal, less}
use Rattle.jp_laws.proofs.OrderedValues.{equal_kinds, less_kinds}
use Rattle.jp_laws.proofs.order.kinds_are_not_mixed.Goals as goal

nothing_first : (x : Option Value) → (compared equal None x ≡ is_none x)
nothing_first None = refl
nothing_first (Some x) = refl

nothing_last : (x : Option Value) → (compared equal x None ≡ is_none x)
nothing_last None = refl
nothing_last (Some x) = refl

none_below : (x : Option Value) → compared less x None ≡ false
none_below None = refl
none_below (Some x) = refl

pub returns-clause-equal : goal.returns-clause-equal
returns-clause-equal c = equal_kinds

pub returns-clause-less : goal.returns-clause-less
returns-clause-less c = less_kinds

pub returns-clause-nothing : goal.returns-clause-nothing
returns-clause-nothing c = nothing_first

pub returns-clause-nothing_behind : goal.returns-clause-nothing_behind
returns-clause-nothing_behind c = nothing_last

pub returns-clause-never_less : goal.returns-clause-never_less
returns-clause-never_less c = λ x. refl

pub returns-clause-never_greater : goal.returns-clause-never_greater
returns-clause-never_greater c = none_below
