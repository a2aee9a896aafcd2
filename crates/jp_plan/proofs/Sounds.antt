-- The guard of a query has a guard operator, and a literal of the query.
use Rattle.std.proofs.Common.{◌≡◌, ◌<◌, List, length, IfSome, flat_map, Bool, true, false, ◌&&◌, Option, Some, None, if◌then◌else◌, refl, sym, ap, subst, ◌∙◌, ⊎_elim}
use Rattle.std.specs.List.{list_any}
use Rattle.std.proofs.lemmas.Bool.{and_parts}
use Rattle.jp_model.proofs.Guard.{by_comparison, by_filter, from_first, alone}
use Rattle.jp_model.specs.Plans.{Guard, guard_on, conjunct_guard, first_guard, conjuncts, conjuncts_of, only_filter, segment_conjuncts, guard_of, is_guard_operator, mirrored}
use Rattle.jp_model.specs.Query.Singular.{singular_steps}
use Rattle.jp_model.specs.Query.Syntax.{CompareOp, Literal, Segment, child_segment, descendant_segment, Segments, no_segments, segment, Selectors, Logical, or_all, and_all, negated, compare, exists, test, Logicals, no_logicals, logical, segment_list}
use Rattle.jp_model.specs.Steps.{Step, steps_equal}
use Rattle.jp_syntax.specs.Sound.{is_sound, has_sound_literals, logical_has_sound_literals}
use Rattle.jp_syntax.specs.View.{literal_view, op_view}
use Rattle.jp_store.specs.Collections.{Collection}
use Rattle.jp_plan.specs.Paths.{guard_at, guard_of_steps}
use Rattle.jp_plan.specs.Routes.{IsRouteOf}
use Rattle.jp_plan.specs.declared.guard.Guard.{Guard as Guarding}
use Rattle.jp_plan.specs.declared.route.Route.{Route}
use Rattle.jp_plan.proofs.Guards.{first_joined}
use Rattle.jp_plan.proofs.Paths.{there_is}

-- what is asked of a guard
pub record IsFit (g : Guard) : Type 0 where
  pub op : is_guard_operator g.op ≡ true
  pub sound : is_sound g.literal ≡ true

fit_on : (paths : List (List Step)) (o : Option (List Step)) (op : CompareOp) (l : Literal) (g : Guard) → guard_on paths o op l ≡ Some g → is_sound l ≡ true → IsFit g
fit_on paths None op l g h s = absurd (cc)
fit_on paths (Some steps) op l g h s = pick (list_any (λ p. steps_equal p steps) paths && is_guard_operator op) refl h
  where
    pick : (b : Bool) → (list_any (λ p. steps_equal p steps) paths && is_guard_operator op) ≡ b → (if b then Some (let k : Guard = record { steps = steps; op = op; literal = l } in k) else None) ≡ Some g → IsFit g
    pick true e k =
        let same : record { steps = steps; op = op; literal = l } ≡ g = cc in
        record { op = ap (λ (x : Guard). is_guard_operator x.op) (sym same) ∙ (and_parts _ _ e).1; sound = ap (λ (x : Guard). is_sound x.literal) (sym same) ∙ s }
    pick false e k = absurd (cc)

module _ (paths : List (List Step)) (g : Guard) where
  fit_conjunct : (l : Logical) → conjunct_guard paths l ≡ Some g → logical_has_sound_literals l ≡ true → IsFit g
  fit_conjunct l h s = by_comparison paths g (λ l. logical_has_sound_literals l ≡ true → IsFit g)
      (λ ss op c h s. fit_on paths (singular_steps ss) (mirrored op) c g h (and_parts _ _ s).0)
      (λ ss op c h s. fit_on paths (singular_steps ss) op c g h (and_parts _ _ s).1) l h s

  mutual
    fit_logical : (l : Logical) → first_guard paths (conjuncts l) ≡ Some g → logical_has_sound_literals l ≡ true → IsFit g
    fit_logical (or_all ls) h s = fit_conjunct (or_all ls) (alone paths g (or_all ls) h) s
    fit_logical (and_all ls) h s = fit_logicals ls h s
    fit_logical (negated l) h s = fit_conjunct (negated l) (alone paths g (negated l) h) s
    fit_logical (compare a op b) h s = fit_conjunct (compare a op b) (alone paths g (compare a op b) h) s
    fit_logical (exists p) h s = fit_conjunct (exists p) (alone paths g (exists p) h) s
    fit_logical (test c) h s = fit_conjunct (test c) (alone paths g (test c) h) s

    fit_logicals : (ls : Logicals) → first_guard paths (conjuncts_of ls) ≡ Some g → logical_has_sound_literals (and_all ls) ≡ true → IsFit g
    fit_logicals no_logicals h s = absurd (cc)
    fit_logicals (logical l ls) h s = ⊎_elim
        (λ e. fit_logical l e (and_parts _ _ s).0)
        (λ e. fit_logicals ls e.1 (and_parts _ _ s).1)
        (from_first paths g (first_guard paths (conjuncts l)) (first_guard paths (conjuncts_of ls)) (sym (first_joined paths (conjuncts l) (conjuncts_of ls)) ∙ h))

  fit_only : (ss : Selectors) → first_guard paths (only_filter ss) ≡ Some g → has_sound_literals (segment (child_segment ss) no_segments) ≡ true → IsFit g
  fit_only ss h s = by_filter paths g (λ ss. has_sound_literals (segment (child_segment ss) no_segments) ≡ true → IsFit g) (λ l h s. fit_logical l h (and_parts _ _ (and_parts _ _ s).0).0) ss h s

  fit_segment : (s : Segment) → first_guard paths (segment_conjuncts s) ≡ Some g → has_sound_literals (segment s no_segments) ≡ true → IsFit g
  fit_segment (child_segment ss) h s = fit_only ss h s
  fit_segment (descendant_segment ss) h s = fit_only ss h s

  and_true : (b : Bool) → b ≡ true → (b && true) ≡ true
  and_true true h = refl
  and_true false h = absurd (cc)

  -- the guard that is found is fit
  pub guard_fit : (q : Segments) → guard_of paths q ≡ Some g → has_sound_literals q ≡ true → IsFit g
  guard_fit no_segments h s = absurd (cc)
  guard_fit (segment k ks) h s = ⊎_elim
      (λ e. fit_segment k e (and_true _ (and_parts _ _ s).0))
      (λ e. guard_fit ks e.1 (and_parts _ _ s).1)
      (from_first paths g (first_guard paths (segment_conjuncts k)) (guard_of paths ks) (sym (first_joined paths (segment_conjuncts k) (flat_map segment_conjuncts (segment_list ks))) ∙ h))

-- so is that of a route
pub route_fit : (q : Segments) (c : Collection) (route : Route) (g : Guarding) → IsRouteOf route q c → route.guard ≡ Some g → (is_guard_operator (op_view g.op) ≡ true) × (is_sound (literal_view g.literal.now) ≡ true)
route_fit q c route g is e =
    let paths = c.state.paths in
    let within : g.index < length paths = subst (λ (o : Option Guarding). IfSome o (λ k. k.index < length paths)) e is.guard_within in
    let at = there_is paths g.index within in
    let found : guard_of paths q ≡ guard_of_steps g (Some at.0) = sym is.guard_is ∙ (ap (guard_at paths) e ∙ ap (guard_of_steps g) at.1) in
    let fit = guard_fit paths (record { steps = at.0; op = op_view g.op; literal = literal_view g.literal.now }) q found is.sound in
    (fit.op, fit.sound)
