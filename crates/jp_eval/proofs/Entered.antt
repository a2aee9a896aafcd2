-- What the slot at a position asks, read by its own slots.
use Rattle.std.proofs.Common.{◌≡◌, ℕ, ◌∙◌, ap}
use Rattle.jp_model.specs.Query.Syntax.{Comparable, Logical}
use Rattle.jp_model.specs.Meaning.Nodes.{Node}
use Rattle.jp_model.specs.Meaning.Selecting.{compared_value, given_by, truth}
use Rattle.jp_eval.specs.Answers.{table_in, tree_in, slot_truth, slot_value}
use Rattle.jp_eval.specs.Programs.{argument_of, condition_view, logical_at, side_at, sought_view}
use Rattle.jp_eval.specs.declared.frame.Run.{Run}
use Rattle.jp_eval.specs.declared.program.Condition.TheVariants as conditions
use Rattle.jp_eval.specs.declared.program.Sought.TheVariants as things
use Rattle.jp_eval.proofs.Compiled.{once_is, sought_once}
use Rattle.jp_eval.proofs.Descendants.{root_is}
use Rattle.jp_eval.proofs.FromRoot.{side_told, told_of_root}
use Rattle.jp_eval.proofs.Given.{given_so}

-- what a slot asks of the root says the same of each node
pub once_told : (run : Run) (position : ℕ) (n : Node) → truth (condition_view (table_in run) (conditions.Once position)) n (tree_in run) ≡ slot_truth run position
once_told run position n =
    let l : Logical = logical_at (table_in run) position in
    ap (λ (x : Logical). truth x n (tree_in run)) (once_is (table_in run) position)
    ∙ (told_of_root l n (tree_in run)
    ∙ ap (λ (m : Node). truth l m (tree_in run)) (root_is run.root.now run.at_root))

-- and it finds the same value
pub once_found : (run : Run) (position : ℕ) (n : Node) → compared_value (sought_view (table_in run) (things.Once position)) n (tree_in run) ≡ slot_value run position
once_found run position n =
    let a : Comparable = side_at (table_in run) position in
    ap (λ (x : Comparable). compared_value x n (tree_in run)) (sought_once (table_in run) position)
    ∙ (side_told a n (tree_in run)
    ∙ ap (λ (m : Node). compared_value a m (tree_in run)) (root_is run.root.now run.at_root))

-- what it finds, as an argument
pub once_given : (run : Run) (position : ℕ) (n : Node) → (given_by (argument_of (sought_view (table_in run) (things.Once position))) n (tree_in run)).value ≡ slot_value run position
once_given run position n = given_so (sought_view (table_in run) (things.Once position)) n (tree_in run) ∙ once_found run position n
