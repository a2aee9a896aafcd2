-- What has to hold of a node that is asked.
use Rattle.std.specs.Prelude.{Bool, false, not, cond}
use Rattle.std.specs.Option.{option_map_or}
use Rattle.jp_model.specs.Json.Tree.{Tree}
use Rattle.jp_model.specs.Meaning.Functions.{single_value}
use Rattle.jp_model.specs.Meaning.Nodes.{Node}
use Rattle.jp_model.specs.Meaning.Selecting.{path_nodes, truth}
use Rattle.jp_model.specs.Query.Syntax.{Logical, Path}
use Rattle.jp_eval.specs.Compiled.{predicate_view}
use Rattle.jp_listed.specs.Sets.{has_value}
use Rattle.jp_listed.specs.declared.listed.Listed.{Listed}
use Rattle.jp_grep.specs.Asked.{query_path}
use Rattle.jp_grep.specs.declared.condition.Condition as declared
use Rattle.jp_grep.specs.declared.condition.Condition.TheVariants as conditions

-- an expression (RFC 9535, section 2.3.5), or that the value of a query is one of a list, or, where that is not wanted, is none of
-- it (profile)
pub data Condition : Type 0 where
  expression : Logical → Condition
  membership : Path → Listed → (wanted : Bool) → Condition

-- the value of a query is one of a list; Nothing is in no list (profile)
abbrev pub is_listed : Path → Listed → Node → Tree → Bool
is_listed query listed node t = option_map_or (has_value listed) (single_value (path_nodes query node t)) false

-- the condition holds of a node, which is `@`, where `$` is the value of its line
abbrev pub condition_holds : Condition → Node → Tree → Bool
condition_holds (expression logical) node t = truth logical node t
condition_holds (membership query listed wanted) node t = cond wanted (is_listed query listed node t) (not (is_listed query listed node t))

-- what a compiled condition means
abbrev pub condition_view : declared.Condition → Condition
condition_view (conditions.Expression predicate) = expression (predicate_view predicate)
condition_view (conditions.Membership query listed wanted) = membership (query_path query) listed wanted
