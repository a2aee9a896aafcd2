-- What was answered in a line, item by item.
use Rattle.std.proofs.Common.{◌≡◌, ◌∙◌, ◌<◌, ℕ, zero, suc, List, [], ◌∷◌, ◌++◌, Option, Some, None, ap, arith, get_or, length, refl, slice_set, subst, sym}
use Rattle.std.specs.Prelude.{slice_get}
use Rattle.std.specs.Vec.{with_item}
use Rattle.std.proofs.lemmas.Bool.{false≢true}
use Rattle.std.proofs.lemmas.List.{length-set}
use Rattle.std.proofs.lemmas.Option.{slice_get_read, slice_get_within}
use Rattle.jp_grep.specs.LineAnswers.{AreKnown, HasBegun, Knows, KnowsCondition, KnowsNothing, KnowsQuery, RemembersCondition}
use Rattle.jp_grep.specs.declared.asked.AskedQuery.{AskedQuery}
use Rattle.jp_grep.specs.declared.condition.Condition.{Condition}
use Rattle.jp_grep.specs.declared.condition.Condition.TheVariants as conditions
use Rattle.jp_grep.specs.declared.line_answers.LineAnswer.{LineAnswer}
use Rattle.jp_grep.specs.declared.line_answers.LineAnswers.{LineAnswers}
use Rattle.jp_grep.specs.declared.question.Question.{Question}
use Rattle.jp_eval.proofs.Answered.{got_beside}

-- what stands in a list to which one item was added
pub got_added : {A B : Type 0} (l : List A) (j : ℕ) (x y : A) → slice_get (l ++ x ∷ []) j ≡ Some y → (x ≡ y → B) → (slice_get l j ≡ Some y → B) → B
got_added [] zero x y h f g = f (cc)
got_added [] (suc zero) x y h f g = absurd (cc)
got_added [] (suc (suc j)) x y h f g = absurd (cc)
got_added (z ∷ l) zero x y h f g = g h
got_added (z ∷ l) (suc j) x y h f g = got_added l j x y h f g

-- an item of a list as it is read
pub item_at : {A : Type 0} {all : List A} (items : List A) → all ≡ items → (i : ℕ) (item : A) → i < length all → item ≡ get_or all i item → slice_get items i ≡ Some item
item_at {all = all} items same i item within is = slice_get_read items (length all) i item (ap length same) within (is ∙ ap (λ l. get_or l i item) same)

module _ {A : Type 0} (IsKnown : A → LineAnswer → Type 0) (items : List A) (answers : List LineAnswer) where
  -- an item has an answer
  pub is_within : AreKnown IsKnown items answers → (i : ℕ) (item : A) → slice_get items i ≡ Some item → i < length answers
  is_within known i item at = omega (arith, slice_get_within items i item at, known.room)

  -- what is known of it
  pub known_at : AreKnown IsKnown items answers → (i : ℕ) (item : A) (answer : LineAnswer) → slice_get items i ≡ Some item → answer ≡ get_or answers i answer → IsKnown item answer
  known_at known i item answer at is = known.each i item answer at (slice_get_read answers (length answers) i answer refl (is_within known i item at) is)

  -- another answer of one item
  pub known_set : AreKnown IsKnown items answers → (i : ℕ) (item : A) (new : LineAnswer) → slice_get items i ≡ Some item → IsKnown item new → AreKnown IsKnown items (slice_set answers i new)
  known_set known i item new at is = record {
    room = omega (arith, known.room, length-set answers i new);
    each = λ j other answer there stands.
        got_beside answers i j new answer stands
        (λ same it. subst (λ (a : LineAnswer). IsKnown other a) it (subst (λ (x : A). IsKnown x new) (one (sym at ∙ (ap (slice_get items) same ∙ there))) is))
        (λ apart was. known.each j other answer there was);
  }
    where
      one : {x y : A} → Some x ≡ Some y → x ≡ y
      one e = cc

  -- where nothing is answered, all that is answered is right
  pub none_known : ((item : A) (answer : LineAnswer) → KnowsNothing answer → IsKnown item answer) → HasBegun (length items) answers → AreKnown IsKnown items answers
  none_known right begun = record {
    room = begun.room;
    each = λ i item answer at stands. right item answer (begun.nothing i answer stands);
  }

nothing_holds : {A : Type 0} {P : Type 0} (known : Option A) (x : A) → known ≡ None → known ≡ Some x → P
nothing_holds known x none some = absurd (apart (sym none ∙ some))
  where
    apart : None ≡ Some x → ⊥
    apart e = cc

pub none_of_condition : (line : List ℕ) (condition : Condition) (answer : LineAnswer) → KnowsNothing answer → KnowsCondition line condition answer
none_of_condition line condition answer nothing = record {
  frame = remembered condition;
  known = λ truth is. nothing_holds answer.known truth nothing.known is;
}
  where
    remembered : (c : Condition) → RemembersCondition line c answer
    remembered (conditions.Expression predicate) = nothing.frame _ line
    remembered (conditions.Membership query listed wanted) = nothing.frame _ line

pub none_of_query : (line : List ℕ) (query : AskedQuery) (answer : LineAnswer) → KnowsNothing answer → KnowsQuery line query answer
none_of_query line query answer nothing = record {
  frame = nothing.frame _ line;
  known = λ some is. nothing_holds answer.known some nothing.known is;
  found = λ is. absurd (false≢true (sym nothing.found ∙ is));
  lines = λ is. absurd (false≢true (sym nothing.found ∙ is));
}

module _ (question : Question) (line : List ℕ) (answers : LineAnswers) (known : Knows question line answers) (i : ℕ) (new : LineAnswer) where
  -- one condition has answered more
  pub condition_known : (condition : Condition) → slice_get question.conditions.items i ≡ Some condition → KnowsCondition line condition new
      → Knows question line (record { conditions = with_item answers.conditions i new; queries = answers.queries; members = answers.members })
  condition_known condition at is = record {
    conditions = known_set (KnowsCondition line) question.conditions.items answers.conditions.items known.conditions i condition new at is;
    queries = known.queries;
    members = known.members;
  }

  -- one query has answered more
  pub query_known : (query : AskedQuery) → slice_get question.queries.items i ≡ Some query → KnowsQuery line query new
      → Knows question line (record { conditions = answers.conditions; queries = with_item answers.queries i new; members = answers.members })
  query_known query at is = record {
    conditions = known.conditions;
    queries = known_set (KnowsQuery line) question.queries.items answers.queries.items known.queries i query new at is;
    members = known.members;
  }
