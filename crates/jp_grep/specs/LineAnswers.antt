-- What the conditions and the queries of a question have answered in a line.
use Rattle.std.specs.Prelude.{◌≡◌, ◌≤◌, ℕ, Bool, true, false, List, Some, None, length, map, slice_get}
use Rattle.jp_children.specs.Found.{AreOf}
use Rattle.jp_eval.specs.Found.{found_in}
use Rattle.jp_eval.specs.Remembers.{Remembers, RemembersNothing, RemembersTruths}
use Rattle.jp_model.specs.Meaning.Nodes.{Node, root_node}
use Rattle.jp_model.specs.Meaning.Selecting.{path_nodes}
use Rattle.jp_nodes.specs.Cursors.{node_of}
use Rattle.jp_nodes.specs.Tapes.{spelled}
use Rattle.jp_grep.specs.Asked.{first_name, query_path}
use Rattle.jp_grep.specs.Conditions.{condition_holds, condition_view}
use Rattle.jp_grep.specs.Matching.{has_nodes}
use Rattle.jp_grep.specs.Members.{AreMembers}
use Rattle.jp_grep.specs.declared.asked.AskedQuery.{AskedQuery}
use Rattle.jp_grep.specs.declared.condition.Condition.{Condition}
use Rattle.jp_grep.specs.declared.condition.Condition.TheVariants as conditions
use Rattle.jp_grep.specs.declared.first_names.Members.{Members}
use Rattle.jp_grep.specs.declared.line_answers.LineAnswer.{LineAnswer}
use Rattle.jp_grep.specs.declared.line_answers.LineAnswers.{LineAnswers}
use Rattle.jp_grep.specs.declared.question.Question.{Question}

-- nothing is answered
pub record KnowsNothing (answer : LineAnswer) : Type 0 where
  pub frame : RemembersNothing answer.frame
  pub known : answer.known ≡ None
  pub found : answer.is_found ≡ false

-- there are answers for `count` at least, and none is given yet
pub record HasBegun (count : ℕ) (answers : List LineAnswer) : Type 0 where
  pub room : count ≤ length answers
  pub nothing : (index : ℕ) (answer : LineAnswer) → slice_get answers index ≡ Some answer → KnowsNothing answer

-- what the frame remembers is right of a condition in a line
abbrev pub RemembersCondition : List ℕ → Condition → LineAnswer → Type 0
RemembersCondition line (conditions.Expression predicate) answer = RemembersTruths predicate line answer.frame
RemembersCondition line (conditions.Membership query listed wanted) answer = Remembers query.program line answer.frame

-- what a condition has answered in a line
pub record KnowsCondition (line : List ℕ) (condition : Condition) (answer : LineAnswer) : Type 0 where
  pub frame : RemembersCondition line condition answer
  pub known : (truth : Bool) → answer.known ≡ Some truth → (node : Node) → condition_holds (condition_view condition) node (spelled line) ≡ truth

-- what a query has answered in a line
pub record KnowsQuery (line : List ℕ) (query : AskedQuery) (answer : LineAnswer) : Type 0 where
  pub frame : Remembers query.program line answer.frame
  pub known : (some : Bool) → answer.known ≡ Some some → (node : Node) → has_nodes (path_nodes (query_path query) node (spelled line)) ≡ some
  pub found : answer.is_found ≡ true → (node : Node) → map node_of (found_in answer.frame) ≡ path_nodes (query_path query) node (spelled line)
  pub lines : answer.is_found ≡ true → AreOf line (found_in answer.frame)

-- each of some items has an answer, of which this is known
pub record AreKnown {A : Type 0} (IsKnown : A → LineAnswer → Type 0) (items : List A) (answers : List LineAnswer) : Type 0 where
  pub room : length items ≤ length answers
  pub each : (index : ℕ) (item : A) (answer : LineAnswer) → slice_get items index ≡ Some item → slice_get answers index ≡ Some answer → IsKnown item answer

-- the members that were found of the root of a line are its own
abbrev pub KnowsMembers : Question → List ℕ → Members → Type 0
KnowsMembers question line members = members.is_root_found ≡ true → AreMembers (map first_name question.queries.items) (root_node (spelled line)) line members.of_root.items

-- what all of them have answered in a line
pub record Knows (question : Question) (line : List ℕ) (answers : LineAnswers) : Type 0 where
  pub conditions : AreKnown (KnowsCondition line) question.conditions.items answers.conditions.items
  pub queries : AreKnown (KnowsQuery line) question.queries.items answers.queries.items
  pub members : KnowsMembers question line answers.members
