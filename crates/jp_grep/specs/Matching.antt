-- Which nodes are asked, and which of them are selected.
use Rattle.std.specs.Prelude.{ℕ, List, [], ◌∷◌, map, filter, flat_map, length, take, cond, Bool, true, false, ◌&&◌, ◌||◌, not, ◌==◌, Option, Some, None, option_map}
use Rattle.jp_model.specs.Json.Status.{LineStatus, blank, refused, parsed}
use Rattle.jp_model.specs.Json.Tree.{Tree}
use Rattle.jp_model.specs.Meaning.Nodes.{Node, root_node}
use Rattle.jp_model.specs.Meaning.Selecting.{nodes, path_nodes}
use Rattle.jp_model.specs.Query.Syntax.{Path, Segments}
use Rattle.jp_eval.specs.Compiled.{program_view}
use Rattle.jp_grep.specs.Asked.{query_path}
use Rattle.jp_grep.specs.Conditions.{Condition, condition_holds, condition_view}
use Rattle.jp_grep.specs.declared.question.Queries.{Queries}
use Rattle.jp_grep.specs.declared.question.Queries.TheVariants as purposes
use Rattle.jp_grep.specs.declared.question.Question.{Question}
use Rattle.jp_grep.specs.declared.question.Wanted.{Wanted}
use Rattle.jp_grep.specs.declared.question.Wanted.TheVariants as wanted

-- there is a node
abbrev pub has_nodes : List Node → Bool
has_nodes nodes = not (length nodes == 0)

-- a query selects a node, asked of one, where `$` is the value of its line
abbrev pub selects : List Path → Node → Tree → Bool
selects [] node t = false
selects (query ∷ rest) node t = has_nodes (path_nodes query node t) || selects rest node t

-- each condition holds
abbrev pub all_hold : List Condition → Node → Tree → Bool
all_hold [] node t = true
all_hold (condition ∷ rest) node t = condition_holds condition node t && all_hold rest node t

-- the queries and the conditions of a question
abbrev pub queries_of : Question → List Path
queries_of question = map query_path question.queries.items

abbrev pub conditions_of : Question → List Condition
conditions_of question = map condition_view question.conditions.items

-- the query whose nodes are asked one by one, if there is one
abbrev pub each_of : Question → Option Segments
each_of question = option_map program_view question.each

-- the nodes of a value that are asked: those that a query selects, in their order, or else the root
abbrev pub nodes_asked : Option Segments → Tree → List Node
nodes_asked None t = root_node t ∷ []
nodes_asked (Some query) t = nodes query (root_node t ∷ []) t

-- queries let a node match, by whether some of them selects a node: those that are columns always do
abbrev pub let_match : Queries → Bool → Bool
let_match purposes.Filter some = some
let_match purposes.Columns some = true

-- a node matches: each condition holds, and some query selects a node or the queries are columns
abbrev pub matches : Question → Node → Tree → Bool
matches question node t = all_hold (conditions_of question) node t && let_match question.purpose (selects (queries_of question) node t)

-- a node is wanted, by whether it matches
abbrev pub wants_value : Wanted → Bool → Bool
wants_value wanted.Matching matching = matching
wants_value wanted.Others matching = not matching
wants_value wanted.Refused matching = false

-- a refused line is wanted
abbrev pub wants_refused : Wanted → Bool
wants_refused wanted.Refused = true
wants_refused _ = false

-- a node is selected, asked where `$` is this value
abbrev pub is_selected : Question → Tree → Node → Bool
is_selected question t node = wants_value question.wanted (matches question node t)

-- the nodes of a value that are selected
abbrev pub selected_nodes : Question → Tree → List Node
selected_nodes question t = filter (is_selected question t) (nodes_asked (each_of question) t)

-- the first of some nodes, where no more are wanted
abbrev pub wanted_of : Option ℕ → List Node → List Node
wanted_of None some = some
wanted_of (Some most) some = take most some

-- How many nodes of a line are selected, as far as they are wanted. A refused line is one where refused lines are wanted. A blank
-- one has none.
abbrev pub selected_of : Question → (most : Option ℕ) → LineStatus → ℕ
selected_of question most blank = 0
selected_of question most (refused fault) = cond (wants_refused question.wanted) 1 0
selected_of question most (parsed t) = length (wanted_of most (selected_nodes question t))

-- the nodes of the queries are asked for, by whether the conditions hold of a node and whether it matches
abbrev pub wants_nodes_where : Wanted → (holding matching : Bool) → Bool
wants_nodes_where wanted.Matching holding matching = holding
wants_nodes_where wanted.Others holding matching = not matching
wants_nodes_where wanted.Refused holding matching = false

abbrev pub wants_nodes : Question → Node → Tree → Bool
wants_nodes question node t = wants_nodes_where question.wanted (all_hold (conditions_of question) node t) (matches question node t)

-- such a node is wanted, by whether the queries let it match
abbrev pub wants_found : Wanted → Bool → Bool
wants_found wanted.Matching some = some
wants_found wanted.Others some = true
wants_found wanted.Refused some = false

-- all nodes that the queries select, query by query
abbrev pub nodes_of : List Path → Node → Tree → List Node
nodes_of queries node t = flat_map (λ query. path_nodes query node t) queries
