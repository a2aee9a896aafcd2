-- Elements and members, one at a time.
use Rattle.std.proofs.Common.{◌≡◌, ℕ, ◌&&◌, Bool, true, false, if◌then◌else◌, List, sym, ◌∙◌, ap, refl, Option, Some, None}
use Rattle.std.specs.Prelude.{option_map}
use Rattle.jp_model.specs.Characters.{text_equal}
use Rattle.jp_model.specs.Json.Tree.{Tree, Value, null, boolean, number, string, container, array, object, Children, no_child, child, node, value_of, Name}
use Rattle.jp_model.specs.Meaning.Compare.{values_equal, members_within, member_passes}
use Rattle.jp_nodes.specs.declared.Kind.TheVariants as kinds
use Rattle.jp_nodes.specs.declared.cursor.Cursor.{Cursor}
use Rattle.jp_nodes.specs.Cursors.{node_of, name_of, children_from, children_after}
use Rattle.jp_nodes.specs.Kinds.{kind_of}
use Rattle.jp_values.specs.Members.{member_named}
use Rattle.jp_values.specs.Scalars.{scalar_in, scalars_equal}

-- ---- elements

-- ---- members

-- what passes of what is found
abbrev pub passed : (Value → Bool) → Option Value → Bool
passed passes None = false
passed passes (Some v) = passes v

pub passes_found : (x : List ℕ) (passes : Value → Bool) (ys : Children) → member_passes x passes ys ≡ passed passes (member_named x ys)
passes_found x passes no_child = refl
passes_found x passes (child None t more) = passes_found x passes more
passes_found x passes (child (Some name) (node s v) more) =
    elim (text_equal x name.points) as (λ b. (if b then passes v else member_passes x passes more) ≡ passed passes (if b then Some v else member_named x more)) [ true ↦ refl | false ↦ passes_found x passes more ]

pub members_step : (name : Name) (t : Tree) (xs ys : Children) → members_within (child (Some name) t xs) ys ≡ passed (λ y. values_equal (value_of t) y) (member_named name.points ys) && members_within xs ys
members_step name (node s x) xs ys = ap (λ b. b && members_within xs ys) (passes_found name.points (λ y. values_equal x y) ys)

pub members_nameless : (t : Tree) (xs ys : Children) → members_within (child None t xs) ys ≡ members_within xs ys
members_nameless (node s x) xs ys = refl

-- ---- by kinds

pub leaves_equal : (v w : Value) → (kind_of v ≡ kinds.Array → kind_of w ≡ kinds.Array → ⊥) → (kind_of v ≡ kinds.Object → kind_of w ≡ kinds.Object → ⊥) → scalars_equal (scalar_in v) (scalar_in w) ≡ values_equal v w
leaves_equal (container array xs) (container array ys) a o = absurd (a refl refl)
leaves_equal (container object xs) (container object ys) a o = absurd (o refl refl)
leaves_equal (container array xs) (container object ys) a o = refl
leaves_equal (container object xs) (container array ys) a o = refl
leaves_equal (container array xs) null a o = refl
leaves_equal (container array xs) (boolean c) a o = refl
leaves_equal (container array xs) (number m e) a o = refl
leaves_equal (container array xs) (string points) a o = refl
leaves_equal (container object xs) null a o = refl
leaves_equal (container object xs) (boolean c) a o = refl
leaves_equal (container object xs) (number m e) a o = refl
leaves_equal (container object xs) (string points) a o = refl
leaves_equal null (container kind ys) a o = refl
leaves_equal (boolean b) (container kind ys) a o = refl
leaves_equal (number m e) (container kind ys) a o = refl
leaves_equal (string points) (container kind ys) a o = refl
leaves_equal v w a o = refl

pub members_named : (name : Option Name) (points : List ℕ) → Some points ≡ option_map (λ (n : Name). n.points) name → (t : Tree) (xs ys : Children) →
    members_within (child name t xs) ys ≡ passed (λ y. values_equal (value_of t) y) (member_named points ys) && members_within xs ys
members_named None points e t xs ys = absurd (cc)
members_named (Some name) points e t xs ys =
    let same : name.points ≡ points = cc in
    members_step name t xs ys ∙ ap (λ (p : List ℕ). passed (λ y. values_equal (value_of t) y) (member_named p ys) && members_within xs ys) same

pub members_unnamed : (name : Option Name) → None ≡ option_map (λ (n : Name). n.points) name → (t : Tree) (xs ys : Children) → members_within (child name t xs) ys ≡ members_within xs ys
members_unnamed None e t xs ys = members_nameless t xs ys
members_unnamed (Some name) e t xs ys = absurd (cc)

-- ---- the next member, whose equal is looked for

pub none_found : (c : Cursor) (points : List ℕ) (ys : Children) → Some points ≡ option_map (λ (n : Name). n.points) (name_of c) → None ≡ member_named points ys → members_within (children_from (Some c)) ys ≡ false
none_found c points ys e f =
    members_named (name_of c) points e (node_of c).tree (children_after c) ys ∙ ap (λ o. passed (λ y. values_equal (value_of (node_of c).tree) y) o && members_within (children_after c) ys) (sym f)

pub one_found : (c : Cursor) (points : List ℕ) (v : Value) (b : Bool) (ys : Children) → Some points ≡ option_map (λ (n : Name). n.points) (name_of c) → Some v ≡ member_named points ys → b ≡ values_equal (value_of (node_of c).tree) v →
    members_within (children_from (Some c)) ys ≡ b && members_within (children_after c) ys
one_found c points v b ys e f g =
    members_named (name_of c) points e (node_of c).tree (children_after c) ys
    ∙ (ap (λ o. passed (λ y. values_equal (value_of (node_of c).tree) y) o && members_within (children_after c) ys) (sym f) ∙ ap (λ r. r && members_within (children_after c) ys) (sym g))
