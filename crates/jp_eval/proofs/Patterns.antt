-- The pattern that was read decides the string.
use Rattle.std.proofs.Common.{◌≡◌, ◌∙◌, List, ℕ, Bool, false, Result, Ok, Err, Option, Some, None, ap, refl, subst}
use Rattle.std.specs.Prelude.{IfOk}
use mathlib.Core.Bool.{Bool-set}
use Rattle.std.proofs.Props.{props}
use Rattle.jp_model.specs.Json.Tree.{Value, null, boolean, number, string, container}
use Rattle.jp_model.specs.Meaning.Functions.{in_pattern, pattern_passes}
use Rattle.jp_model.specs.Pattern.Tree.{Pattern}
use Rattle.jp_eval.specs.Functions.{pattern_in, passes_where_read}

by_string : (passes : Pattern → List ℕ → Bool) (x : List ℕ) (o : Option Pattern) → passes_where_read passes o (Some (string x)) ≡ pattern_passes passes o x
by_string passes x None = refl
by_string passes x (Some r) = refl

not_string : (passes : Pattern → List ℕ → Bool) (o : Option Pattern) (v : Option Value) → ((r : Pattern) → passes_where_read passes (Some r) v ≡ false) → passes_where_read passes o v ≡ false
not_string passes None v h = refl
not_string passes (Some r) v h = h r

by_pattern : (passes : Pattern → List ℕ → Bool) (v w : Option Value) → passes_where_read passes (pattern_in w) v ≡ in_pattern passes v w
by_pattern passes None w = not_string passes (pattern_in w) None (λ r. refl)
by_pattern passes (Some null) w = not_string passes (pattern_in w) (Some null) (λ r. refl)
by_pattern passes (Some (boolean b)) w = not_string passes (pattern_in w) (Some (boolean b)) (λ r. refl)
by_pattern passes (Some (number m f)) w = not_string passes (pattern_in w) (Some (number m f)) (λ r. refl)
by_pattern passes (Some (container kind children)) w = not_string passes (pattern_in w) (Some (container kind children)) (λ r. refl)
by_pattern passes (Some (string x)) None = refl
by_pattern passes (Some (string x)) (Some null) = refl
by_pattern passes (Some (string x)) (Some (boolean b)) = refl
by_pattern passes (Some (string x)) (Some (number m f)) = refl
by_pattern passes (Some (string x)) (Some (container kind children)) = refl
by_pattern passes (Some (string x)) (Some (string p)) = by_string passes x (pattern_in (Some (string p)))

-- an answer that was given for what was read is the answer for the string
pub told : {E : Type 0} (r : Result Bool E) (passes : Pattern → List ℕ → Bool) (o : Option Pattern) (v w : Option Value) → o ≡ pattern_in w → IfOk r (λ b. b ≡ passes_where_read passes o v) → IfOk r (λ b. b ≡ in_pattern passes v w)
told r passes o v w e h = subst (λ (a : Bool). IfOk r (λ b. b ≡ a)) (ap (λ (x : Option Pattern). passes_where_read passes x v) e ∙ by_pattern passes v w) h

-- an equation of truths has one proof
pub one_proof : {E : Type 0} (r : Result Bool E) (a : Bool) → IsProp (IfOk r (λ b. b ≡ a))
one_proof (Ok b) a = Bool-set b a
one_proof (Err e) a = search props
