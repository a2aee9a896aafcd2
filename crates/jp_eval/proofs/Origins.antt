-- What is asked of the root or of the current node, part by part.
use Rattle.std.proofs.Common.{◌≡◌, ◌∙◌, ◌&&◌, Bool, true, List, [], ◌∷◌, map, ap, ap₂, sym, refl}
use Rattle.std.proofs.lemmas.Bool.{and_parts}
use Rattle.jp_model.specs.Query.Syntax.{Origin, root, current, CompareOp, Segments, Logical, or_all, and_all, negated, compare, exists, test, logical, Comparable, single, result, Argument, no_arguments, argument, path, call}
use Rattle.jp_syntax.specs.View.{logicals_of, origin_view, path_view, segments_view}
use Rattle.jp_syntax.specs.declared.tree.Path.{Path as TreePath}
use Rattle.jp_eval.specs.Calls.{length_call, count_call, value_call}
use Rattle.jp_eval.specs.Programs.{argument_of, here}
use Rattle.jp_eval.specs.Questions.{passing_name, question_view}
use Rattle.jp_eval.specs.Roots.{argument_from, asks_from, is_root, logical_from, logicals_from_root, path_asks_root, side_from}
use Rattle.jp_eval.specs.declared.question.Question.{Question}
use Rattle.jp_eval.specs.declared.question.Question.TheVariants as questions
use Rattle.jp_eval.proofs.Given.{rooted_so}
use Rattle.jp_eval.proofs.Views.{path_viewed}

parts_rooted : {A : Type 0} (f : A → Logical) (xs : List A) → logicals_from_root (logicals_of (map f xs)) ≡ logicals_of (map (λ c. logical_from root (f c)) xs)
parts_rooted f [] = refl
parts_rooted f (x ∷ xs) = ap (logical (logical_from root (f x))) (parts_rooted f xs)

pub from_or : {A : Type 0} (o : Origin) (f : A → Logical) (xs : List A) → logical_from o (or_all (logicals_of (map f xs))) ≡ or_all (logicals_of (map (λ c. logical_from o (f c)) xs))
from_or root f xs = ap or_all (parts_rooted f xs)
from_or current f xs = refl

pub from_and : {A : Type 0} (o : Origin) (f : A → Logical) (xs : List A) → logical_from o (and_all (logicals_of (map f xs))) ≡ and_all (logicals_of (map (λ c. logical_from o (f c)) xs))
from_and root f xs = ap and_all (parts_rooted f xs)
from_and current f xs = refl

pub from_not : (o : Origin) (l : Logical) → logical_from o (negated l) ≡ negated (logical_from o l)
from_not root l = refl
from_not current l = refl

pub from_compare : (o : Origin) (a : Comparable) (op : CompareOp) (b : Comparable) → logical_from o (compare a op b) ≡ compare (side_from o a) op (side_from o b)
from_compare root a op b = refl
from_compare current a op b = refl

pub from_exists : (o : Origin) (ss : Segments) → logical_from o (exists (here ss)) ≡ exists (path o ss)
from_exists root ss = refl
from_exists current ss = refl

pub from_question : (o : Origin) (q : Question) (ss : Segments) → logical_from o (question_view q (here ss)) ≡ question_view q (path o ss)
from_question root questions.Exists ss = refl
from_question root (questions.Compares op constant) ss = refl
from_question root (questions.Passes whole pattern) ss = refl
from_question current q ss = refl

pub from_passes : (o : Origin) (whole : Bool) (a b : Argument) → logical_from o (test (call (passing_name whole) (argument a (argument b no_arguments)))) ≡ test (call (passing_name whole) (argument (argument_from o a) (argument (argument_from o b) no_arguments)))
from_passes root whole a b = refl
from_passes current whole a b = refl

pub from_single : (o : Origin) (ss : Segments) → side_from o (single (here ss)) ≡ single (path o ss)
from_single root ss = refl
from_single current ss = refl

pub from_length : (o : Origin) (a : Argument) → side_from o (result (length_call a)) ≡ result (length_call (argument_from o a))
from_length root a = refl
from_length current a = refl

pub from_count : (o : Origin) (ss : Segments) → side_from o (result (count_call (here ss))) ≡ result (count_call (path o ss))
from_count root ss = refl
from_count current ss = refl

pub from_value : (o : Origin) (ss : Segments) → side_from o (result (value_call (here ss))) ≡ result (value_call (path o ss))
from_value root ss = refl
from_value current ss = refl

pub from_argument : (o : Origin) (a : Comparable) → argument_from o (argument_of a) ≡ argument_of (side_from o a)
from_argument root a = rooted_so a
from_argument current a = refl

-- ---- what asks the root alone

pub asked_so : (o : Origin) (b : Bool) → b ≡ is_root o → asks_from o b ≡ true
asked_so root b h = h
asked_so current b h = refl

pub both_asked : (o : Origin) (a b : Bool) → asks_from o (a && b) ≡ true → (asks_from o a ≡ true) × (asks_from o b ≡ true)
both_asked root a b h = and_parts a b h
both_asked current a b h = (refl, refl)

same_origin : (p o : Origin) (ss : Segments) → path_asks_root (path p ss) ≡ is_root o → p ≡ o
same_origin root root ss h = refl
same_origin root current ss h = absurd (cc)
same_origin current root ss h = absurd (cc)
same_origin current current ss h = refl

-- a query begins where it asks
pub begins_at : (p : TreePath) (o : Origin) → path_asks_root (path_view p) ≡ is_root o → origin_view p.origin ≡ o
begins_at p o h = same_origin (origin_view p.origin) o _ (sym (ap path_asks_root (path_viewed p)) ∙ h)

-- the query of some segments from there
pub path_from : (p : TreePath) (o : Origin) (ss : Segments) → origin_view p.origin ≡ o → ss ≡ segments_view p.segments.items → path_view p ≡ path o ss
path_from p o ss e is = path_viewed p ∙ ap₂ path e (sym is)
