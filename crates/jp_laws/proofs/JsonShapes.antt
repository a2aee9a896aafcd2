-- What is the status of a line is a tree that the printer can say.
use Rattle.std.proofs.Common.{◌≡◌, ℕ, ◌+◌, ◌≤◌, true, false, ◌||◌, nat_lt, List, [], ◌∷◌, Option, Some, None, refl}
use Rattle.std.specs.Char.{IsScalar}
use Rattle.std.specs.Str.{all_scalars}
use Rattle.std.proofs.lemmas.Bool.{and_from, or_parts, ltb-false}
use Rattle.jp_model.specs.declared.Framing.{Framing}
use Rattle.jp_model.specs.declared.LineFault.TheVariants.{Truncated, Depth, Surrogate, Number, Duplicate}
use Rattle.jp_model.specs.declared.Span.{Span}
use Rattle.jp_model.specs.Json.Faults.{depth, has_surrogate, value_has_surrogate, children_have_surrogate, name_has_lone_surrogate, has_long_exponent, has_duplicate, is_truncated}
use Rattle.jp_model.specs.Json.Spelling.{Spells, SpellsValue, SpellsFirst, SpellsMore, SpellsLabel}
use Rattle.jp_model.specs.Json.Status.{parsed, HasStatus}
use Rattle.jp_model.specs.Json.Tree.{Tree, node, Value, null, boolean, number, string, container, Container, array, object, Children, no_child, child, Name, span}
use Rattle.jp_laws.specs.JsonTexts.{CanBeLabel, CanBeSaid, CanBeValue, CanBeChildren}
use Rattle.jp_laws.proofs.Locations.{body_scalars}
use Rattle.jp_laws.proofs.Reached.{Each}
use Rattle.jp_laws.proofs.WayBack.{no_fault}

each_scalar : (points : List ℕ) → Each IsScalar points → all_scalars points ≡ true
each_scalar [] a = refl
each_scalar (c ∷ points) a = and_from _ _ a.0 (each_scalar points a.1)

module _ (line : List ℕ) where
  label_from : (kind : Container) (i j : ℕ) (name : Option Name) → SpellsLabel line kind i j name → name_has_lone_surrogate name ≡ false → CanBeLabel kind name
  label_from array i j None h w = tt
  label_from array i j (Some name) h w = absurd h
  label_from object i j None h w = absurd h
  label_from object i j (Some name) h w = each_scalar name.points (body_scalars line name.body.start name.body.end name.points h.body w)

  mutual
    tree_from : (t : Tree) → Spells line t → has_surrogate t ≡ false → CanBeSaid t
    tree_from (node s v) h w = value_from s v h w

    value_from : (s : Span) (v : Value) → SpellsValue line s v → value_has_surrogate v ≡ false → CanBeValue v
    value_from s null h w = tt
    value_from s (boolean b) h w = tt
    value_from s (number m e) h w = tt
    value_from s (string x) h w = each_scalar x (body_scalars line (s.start + 1) h.last x h.body w)
    value_from s (container kind cs) h w = first_from kind (s.start + 1) s.end cs h.1 w

    first_from : (kind : Container) (i j : ℕ) (cs : Children) → SpellsFirst line kind i j cs → children_have_surrogate cs ≡ false → CanBeChildren kind cs
    first_from kind i j no_child h w = tt
    first_from kind i j (child name t more) h w =
        let p = or_parts (name_has_lone_surrogate name || has_surrogate t) (children_have_surrogate more) w in
        let q = or_parts (name_has_lone_surrogate name) (has_surrogate t) p.0 in
        (label_from kind h.0 (span t).start name h.2 q.0, tree_from t h.3 q.1, more_from kind (span t).end j more h.4 p.1)

    more_from : (kind : Container) (i j : ℕ) (cs : Children) → SpellsMore line kind i j cs → children_have_surrogate cs ≡ false → CanBeChildren kind cs
    more_from kind i j no_child h w = tt
    more_from kind i j (child name t more) h w =
        let p = or_parts (name_has_lone_surrogate name || has_surrogate t) (children_have_surrogate more) w in
        let q = or_parts (name_has_lone_surrogate name) (has_surrogate t) p.0 in
        (label_from kind h.0 (span t).start name h.2 q.0, tree_from t h.3 q.1, more_from kind (span t).end j more h.4 p.1)

pub status_sayable : (f : Framing) (line : List ℕ) (t : Tree) → HasStatus f line (parsed t) → CanBeSaid t × (depth t ≤ 512) × (has_duplicate t ≡ false)
status_sayable f line t h =
    let a = no_fault (is_truncated f line t) Truncated _ h.2 in
    let b = no_fault (nat_lt 512 (depth t)) Depth _ a.1 in
    let c = no_fault (has_surrogate t) Surrogate _ b.1 in
    let d = no_fault (has_long_exponent line t) Number _ c.1 in
    let e = no_fault (has_duplicate t) Duplicate None d.1 in
    (tree_from line t h.1.value c.0, ltb-false 512 (depth t) b.0, e.0)
