-- Members by name.
use Rattle.std.proofs.Common.{◌≡◌, ℕ, ◌||◌, Bool, true, false, if◌then◌else◌, List, sym, ◌∙◌, ap, subst, refl, Option, Some, None}
use Rattle.std.proofs.lemmas.Bool.{or_parts, cond-true, cond-false}
use Rattle.std.proofs.lemmas.Slice.Eq.{bytes_eq-Decides}
use Rattle.std.specs.List.{list_any}
use Rattle.jp_model.specs.Characters.{text_equal}
use Rattle.jp_model.specs.Json.Faults.{names, has_repeated, has_duplicate}
use Rattle.jp_model.specs.Json.Tree.{Tree, Value, null, boolean, number, string, container, Children, no_child, child, node, value_of, Name, joined}
use Rattle.jp_model.proofs.Reader.Lexical.{clash}
use Rattle.jp_nodes.specs.Spots.{children_in}
use Rattle.jp_values.specs.Members.{has_name, member_named, EndsWith}

-- ---- the last of some children

pub ends_here : (whole : Children) → EndsWith whole whole
ends_here whole = (no_child, refl)

joined-assoc : (a b c : Children) → joined (joined a b) c ≡ joined a (joined b c)
joined-assoc no_child b c = refl
joined-assoc (child name t a) b c = ap (λ (x : Children). child name t x) (joined-assoc a b c)

pub ends_trans : (whole some last : Children) → EndsWith whole some → EndsWith some last → EndsWith whole last
ends_trans whole some last p q = (joined p.0 q.0, joined-assoc p.0 q.0 last ∙ (ap (joined p.0) q.1 ∙ p.1))

pub ends_behind : (whole more : Children) (name : Option Name) (t : Tree) → EndsWith whole (child name t more) → EndsWith whole more
ends_behind whole more name t p = ends_trans whole (child name t more) more p (child name t no_child, refl)

-- ---- the first member of a name

-- a member of another name, or of none, is passed over
pub other_member : (x : List ℕ) (name : Option Name) (t : Tree) (more : Children) → has_name x name ≡ false → member_named x (child name t more) ≡ member_named x more
other_member x None t more h = refl
other_member x (Some name) (node s v) more h = cond-false _ _ _ h

pub first_member : (x : List ℕ) (name : Option Name) (t : Tree) (more : Children) → has_name x name ≡ true → member_named x (child name t more) ≡ Some (value_of t)
first_member x None t more h = absurd (cc)
first_member x (Some name) (node s v) more h = cond-true _ _ _ h

-- a name that is found is one of the names
found_is_named : (x : List ℕ) (children : Children) (v : Value) → member_named x children ≡ Some v → list_any (text_equal x) (names children) ≡ true
found_is_named x no_child v h = absurd (cc)
found_is_named x (child None t more) v h = found_is_named x more v h
found_is_named x (child (Some name) (node s w) more) v h = by (text_equal x name.points) refl h (found_is_named x more v)
  where
    by : (b : Bool) → text_equal x name.points ≡ b → (if b then Some w else member_named x more) ≡ Some v → (member_named x more ≡ Some v → list_any (text_equal x) (names more) ≡ true) → (text_equal x name.points || list_any (text_equal x) (names more)) ≡ true
    by true e g k = ap (λ c. c || list_any (text_equal x) (names more)) e
    by false e g k = ap (λ c. c || list_any (text_equal x) (names more)) e ∙ k g

-- where names are distinct, what is found among the last is the first of that name
pub found_behind : (x : List ℕ) (before rest : Children) (v : Value) → has_repeated (names (joined before rest)) ≡ false → member_named x rest ≡ Some v → member_named x (joined before rest) ≡ Some v
found_behind x no_child rest v d h = h
found_behind x (child None t before) rest v d h = found_behind x before rest v d h
found_behind x (child (Some name) (node s w) before) rest v d h =
    let parts = or_parts (list_any (text_equal name.points) (names (joined before rest))) (has_repeated (names (joined before rest))) d in
    let later : member_named x (joined before rest) ≡ Some v = found_behind x before rest v parts.1 h in
    by (text_equal x name.points) refl parts.0 later
  where
    by : (b : Bool) → text_equal x name.points ≡ b → list_any (text_equal name.points) (names (joined before rest)) ≡ false → member_named x (joined before rest) ≡ Some v → (if text_equal x name.points then Some w else member_named x (joined before rest)) ≡ Some v
    by false e n later = cond-false _ _ _ e ∙ later
    by true e n later =
        let same : x ≡ name.points = (bytes_eq-Decides x name.points).0 e in
        absurd (clash _ (subst (λ (y : List ℕ). list_any (text_equal y) (names (joined before rest)) ≡ true) same (found_is_named x (joined before rest) v later)) n)

-- the names of one object are distinct
pub names_distinct : (t : Tree) → has_duplicate t ≡ false → has_repeated (names (children_in (value_of t))) ≡ false
names_distinct (node s null) d = refl
names_distinct (node s (boolean b)) d = refl
names_distinct (node s (number m e)) d = refl
names_distinct (node s (string points)) d = refl
names_distinct (node s (container kind children)) d = (or_parts _ _ d).0

pub found_in_whole : (x : List ℕ) (whole rest : Children) (v : Value) → has_repeated (names whole) ≡ false → EndsWith whole rest → member_named x rest ≡ Some v → member_named x whole ≡ Some v
found_in_whole x whole rest v d p h =
    ap (member_named x) (sym p.1) ∙ found_behind x p.0 rest v (ap (λ (c : Children). has_repeated (names c)) p.1 ∙ d) h
