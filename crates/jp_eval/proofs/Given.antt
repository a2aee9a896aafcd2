-- A side of a comparison as the argument of a function.
use Rattle.std.proofs.Common.{◌≡◌, Bool, true, false, Option, ap, sym, refl}
use Rattle.jp_model.specs.Json.Tree.{Tree, Value}
use Rattle.jp_model.specs.Meaning.Functions.{in_pattern}
use Rattle.jp_model.specs.Meaning.Nodes.{Node}
use Rattle.jp_model.specs.Meaning.Selecting.{compared_value, given_by, truth}
use Rattle.jp_model.specs.Query.Syntax.{Comparable, constant, single, result, Argument, argument, no_arguments, call, test}
use Rattle.jp_eval.specs.Functions.{passing}
use Rattle.jp_eval.specs.Programs.{argument_of}
use Rattle.jp_eval.specs.Questions.{passing_name}
use Rattle.jp_eval.specs.Roots.{argument_from_root, side_from_root}
use Rattle.jp_eval.proofs.Sizes.{size_of_argument, size_of_comparable}

-- it gives the same value
pub given_so : (a : Comparable) (n : Node) (t : Tree) → (given_by (argument_of a) n t).value ≡ compared_value a n t
given_so (constant c) n t = refl
given_so (single p) n t = refl
given_so (result c) n t = refl

-- and is as large
pub given_size : (a : Comparable) → size_of_argument (argument_of a) ≡ size_of_comparable a
given_size (constant c) = refl
given_size (single p) = refl
given_size (result c) = refl

-- with `$` in place of `@` it is that with `$`
pub rooted_so : (a : Comparable) → argument_from_root (argument_of a) ≡ argument_of (side_from_root a)
rooted_so (constant c) = refl
rooted_so (single p) = refl
rooted_so (result c) = refl

-- what a call of `match` or `search` answers
pub passes_told : (whole : Bool) (a : Comparable) (b : Argument) (n : Node) (t : Tree) → in_pattern (passing whole) (compared_value a n t) (given_by b n t).value ≡ truth (test (call (passing_name whole) (argument (argument_of a) (argument b no_arguments)))) n t
passes_told true a b n t = ap (λ (v : Option Value). in_pattern (passing true) v (given_by b n t).value) (sym (given_so a n t))
passes_told false a b n t = ap (λ (v : Option Value). in_pattern (passing false) v (given_by b n t).value) (sym (given_so a n t))
