-- A query from the node of its seek.
use Rattle.std.proofs.Common.{◌≡◌, List, [], ◌∷◌, Bool, true, false, Option, Some, None, if◌then◌else◌, refl, sym, ap, subst, ◌∙◌}
use Rattle.std.proofs.lemmas.Bool.{and_parts}
use Rattle.std.proofs.lemmas.Option.{same_Some}
use Rattle.jp_model.specs.Json.Tree.{Tree}
use Rattle.jp_model.specs.Meaning.Nodes.{Node}
use Rattle.jp_model.specs.Meaning.Selecting.{nodes}
use Rattle.jp_model.specs.Steps.{Step}
use Rattle.jp_model.specs.Query.Singular.{singular_step, step_selector, steps_query}
use Rattle.jp_model.specs.Query.Syntax.{Segment, child_segment, Segments, no_segments, segment, no_selectors, selector}
use Rattle.jp_model.specs.Query.Typing.{segments_typed}
use Rattle.jp_model.proofs.Seek.{segment_is}
use Rattle.jp_model.proofs.Steps.{step_same}
use Rattle.jp_syntax.specs.Sound.{has_sound_literals}
use Rattle.jp_plan.specs.Behind.{is_of_step, segments_behind}

of_step : (g : Segment) (s : Step) (o : Option Step) → singular_step g ≡ o → is_of_step s o ≡ true → g ≡ child_segment (selector (step_selector s) no_selectors)
of_step g s None e h = absurd (cc)
of_step g s (Some t) e h = segment_is g t e ∙ ap (λ u. child_segment (selector (step_selector u) no_selectors)) (sym (step_same s t h))

-- the nodes of a query are those that the rest selects from the node of the first steps
pub behind_nodes : (ss : List Step) (q rest : Segments) (list : List Node) (t : Tree) → segments_behind ss q ≡ Some rest → nodes q list t ≡ nodes rest (nodes (steps_query ss) list t) t
behind_nodes [] q rest list t h = ap (λ p. nodes p list t) (same_Some q rest h)
behind_nodes (s ∷ ss) no_segments rest list t h = absurd (cc)
behind_nodes (s ∷ ss) (segment g gs) rest list t h = pick (is_of_step s (singular_step g)) refl h (behind_nodes ss gs rest)
  where
    pick : (b : Bool) → is_of_step s (singular_step g) ≡ b → (if b then segments_behind ss gs else None) ≡ Some rest → ((ns : List Node) (u : Tree) → segments_behind ss gs ≡ Some rest → nodes gs ns u ≡ nodes rest (nodes (steps_query ss) ns u) u)
        → nodes (segment g gs) list t ≡ nodes rest (nodes (steps_query (s ∷ ss)) list t) t
    pick true e k again =
        let is = of_step g s (singular_step g) refl e in
        subst (λ u. nodes (segment u gs) list t ≡ nodes rest (nodes (steps_query (s ∷ ss)) list t) t) (sym is) (again _ t k)
    pick false e k again = absurd (cc)

-- and the literals of the rest are sound where those of the query are
pub behind_sound : (ss : List Step) (q rest : Segments) → segments_behind ss q ≡ Some rest → has_sound_literals q ≡ true → has_sound_literals rest ≡ true
behind_sound [] q rest h k = subst (λ p. has_sound_literals p ≡ true) (same_Some q rest h) k
behind_sound (s ∷ ss) no_segments rest h k = absurd (cc)
behind_sound (s ∷ ss) (segment g gs) rest h k = pick (is_of_step s (singular_step g)) h (behind_sound ss gs rest)
  where
    pick : (b : Bool) → (if b then segments_behind ss gs else None) ≡ Some rest → (segments_behind ss gs ≡ Some rest → has_sound_literals gs ≡ true → has_sound_literals rest ≡ true) → has_sound_literals rest ≡ true
    pick true e again = again e (and_parts _ _ k).1
    pick false e again = absurd (cc)

-- and it is well-typed where the query is
pub behind_typed : (ss : List Step) (q rest : Segments) → segments_behind ss q ≡ Some rest → segments_typed q ≡ true → segments_typed rest ≡ true
behind_typed [] q rest h k = subst (λ p. segments_typed p ≡ true) (same_Some q rest h) k
behind_typed (s ∷ ss) no_segments rest h k = absurd (cc)
behind_typed (s ∷ ss) (segment g gs) rest h k = pick (is_of_step s (singular_step g)) h (behind_typed ss gs rest)
  where
    pick : (b : Bool) → (if b then segments_behind ss gs else None) ≡ Some rest → (segments_behind ss gs ≡ Some rest → segments_typed gs ≡ true → segments_typed rest ≡ true) → segments_typed rest ≡ true
    pick true e again = again e (and_parts _ _ k).1
    pick false e again = absurd (cc)
