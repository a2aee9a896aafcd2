-- Equal values have one canonical text.
use Rattle.std.proofs.Common.{◌≡◌, ℕ, List, ◌∷◌, ◌++◌, map, Bool, true, false, cond, Some, None, bytes_eq, refl, sym, ap, ap₂, subst, ◌∙◌, inl, inr}
use Rattle.std.specs.Cmp.{IsTotalOrder}
use Rattle.std.proofs.lemmas.Bool.{and_parts, or_parts, cond-true, both_ways, false_from_ne_true}
use Rattle.jp_canon.proofs.ByName.{IsIn, AreNamed}
use Rattle.jp_canon.specs.Canonical.{Member, by_name, bracketed, string_text, value_text, element_texts, member_texts}
use Rattle.jp_decimal.specs.Values.{order}
use Rattle.jp_model.specs.Json.Faults.{names, has_repeated, children_have_duplicate}
use Rattle.jp_model.specs.Json.Tree.{node, Value, null, boolean, number, string, container, array, object, Children, no_child, child}
use Rattle.jp_model.specs.Meaning.Compare.{values_equal, elements_equal, members_within}
use Rattle.jp_laws.specs.Values.{are_members, each_has_members}
use Rattle.jp_laws.proofs.CanonicalMembers.{same_by_name}
use Rattle.jp_laws.proofs.CanonicalNumbers.{equal_text}
use Rattle.jp_laws.proofs.ValueEquality.{OfEachChild, Matched, Plain, among, back, boolean_same, each_found, found, found_named, plain_each, text_itself, text_same, unsome, within_matched}

-- ---- a member by its name

abbrev member_of : List ℕ → Value → Member
member_of k v = record { name = k; text = string_text k ++ 0x3A ∷ value_text v }

-- a member's text is of the value that a look-up of its name finds
abbrev Listed : Member → Children → Type 0
Listed m cs = (v : Value) × (found m.name cs ≡ Some v) × (m ≡ member_of m.name v)

in_found : (cs : Children) → has_repeated (names cs) ≡ false → (m : Member) → IsIn m (member_texts cs) → Listed m cs
in_found no_child d m i = absurd i
in_found (child None t more) d m i = in_found more d m i
in_found (child (Some name) (node s v) more) d m (inl e) =
    subst (λ (x : Member). Listed x (child (Some name) (node s v) more)) (sym e) (v, cond-true (bytes_eq name.points name.points) _ _ (text_itself name.points), refl)
in_found (child (Some name) (node s v) more) d m (inr i) =
    let p = or_parts (among name.points (names more)) (has_repeated (names more)) d in
    let l = in_found more p.1 m i in
    let other = false_from_ne_true (bytes_eq m.name name.points) (λ e. both_ways _ p.0 (subst (λ z. among z (names more) ≡ true) (text_same m.name name.points e) (found_named m.name more l.0 l.1))) in
    (l.0, rw other l.1, l.2)

found_in : (cs : Children) (k : List ℕ) (v : Value) → found k cs ≡ Some v → IsIn (member_of k v) (member_texts cs)
found_in no_child k v f = absurd (cc)
found_in (child None t more) k v f = found_in more k v f
found_in (child (Some name) (node s w) more) k v f = step (bytes_eq k name.points) refl f (found_in more k v)
  where
    step : (t : Bool) → bytes_eq k name.points ≡ t → cond t (Some w) (found k more) ≡ Some v → (found k more ≡ Some v → IsIn (member_of k v) (member_texts more)) → IsIn (member_of k v) (member_texts (child (Some name) (node s w) more))
    step true e g again = inl (ap₂ member_of (text_same k name.points e) (sym (unsome g)))
    step false e g again = inr (again g)

pub named : (cs : Children) → has_repeated (names cs) ≡ false → AreNamed (member_texts cs)
named no_child d = tt
named (child None t more) d = named more d
named (child (Some name) (node s v) more) d =
    let p = or_parts (among name.points (names more)) (has_repeated (names more)) d in
    ((λ x i e. let l = in_found more p.1 x i in both_ways _ p.0 (subst (λ z. among z (names more) ≡ true) (sym e) (found_named x.name more l.0 l.1))), named more p.1)

-- ---- values

abbrev Texted : Value → Type 0
Texted v = (w : Value) → Plain v → Plain w → values_equal v w ≡ true → value_text v ≡ value_text w

elements_texted : (xs ys : Children) → OfEachChild Texted xs → OfEachChild Plain xs → OfEachChild Plain ys → elements_equal xs ys ≡ true → element_texts xs ≡ element_texts ys
elements_texted no_child no_child a p q h = refl
elements_texted no_child (child b (node t y) ys) a p q h = absurd (cc)
elements_texted (child n (node s x) xs) no_child a p q h = absurd (cc)
elements_texted (child n (node s x) xs) (child b (node t y) ys) a p q h =
    let e = and_parts (values_equal x y) (elements_equal xs ys) h in
    ap₂ (λ (z : List ℕ) (l : List (List ℕ)). z ∷ l) (a.0 y p.0 q.0 e.0) (elements_texted xs ys a.1 p.1 q.1 e.1)

-- each member of the first object, with its text, is one of the second
members_texted : (xs ys : Children) → OfEachChild Texted xs → OfEachChild Plain xs → OfEachChild Plain ys → has_repeated (names xs) ≡ false → Matched xs ys → (m : Member) → IsIn m (member_texts xs) → IsIn m (member_texts ys)
members_texted xs ys a p q d h m i =
    let l = in_found xs d m i in
    let w = h m.name l.0 l.1 in
    let e = each_found Texted m.name xs l.0 a l.1 w.0 (each_found Plain m.name xs l.0 p l.1) (each_found Plain m.name ys w.0 q w.1) w.2 in
    subst (λ (x : Member). IsIn x (member_texts ys)) (sym (l.2 ∙ ap (λ (t : List ℕ). record { name = m.name; text = string_text m.name ++ 0x3A ∷ t }) e)) (found_in ys m.name w.0 w.1)

-- and the other way round
members_back : (xs ys : Children) → OfEachChild Texted xs → OfEachChild Plain xs → OfEachChild Plain ys → has_repeated (names ys) ≡ false → ((v w : Value) → Plain v → Plain w → values_equal w v ≡ true → values_equal v w ≡ true) → Matched ys xs
    → (m : Member) → IsIn m (member_texts ys) → IsIn m (member_texts xs)
members_back xs ys a p q d turn h m i =
    let l = in_found ys d m i in
    let v = h m.name l.0 l.1 in
    let g = each_found Plain m.name xs v.0 p v.1 in
    let f = each_found Plain m.name ys l.0 q l.1 in
    let e = each_found Texted m.name xs v.0 a v.1 l.0 g f (turn v.0 l.0 g f v.2) in
    subst (λ (x : Member). IsIn x (member_texts xs)) (sym (l.2 ∙ ap (λ (t : List ℕ). record { name = m.name; text = string_text m.name ++ 0x3A ∷ t }) (sym e))) (found_in xs m.name v.0 v.1)

module _ (order_total : IsTotalOrder order) where
  objects_texted : (xs ys : Children) → OfEachChild Texted xs → Plain (container object xs) → Plain (container object ys) → values_equal (container object xs) (container object ys) ≡ true → by_name (member_texts xs) ≡ by_name (member_texts ys)
  objects_texted xs ys a p q h =
      let d = or_parts (has_repeated (names xs)) (children_have_duplicate xs) p.distinct in
      let e = or_parts (has_repeated (names ys)) (children_have_duplicate ys) q.distinct in
      let m = plain_each xs d.1 (and_parts (are_members xs) (each_has_members xs) p.members).1 in
      let n = plain_each ys e.1 (and_parts (are_members ys) (each_has_members ys) q.members).1 in
      let forth = within_matched xs ys (and_parts _ (members_within xs ys) h).1 in
      let again = within_matched ys xs (and_parts _ (members_within ys xs) (back order_total (container object xs) (container object ys) p q h)).1 in
      same_by_name (member_texts xs) (member_texts ys) (named xs d.0) (named ys e.0) (members_texted xs ys a m n d.0 forth) (members_back xs ys a m n e.0 (λ v w r s. back order_total w v s r) again)

  mutual
    pub one_text : (v : Value) → Texted v
    one_text null null p q h = refl
    one_text null w p q h = absurd (cc)
    one_text (boolean a) (boolean b) p q h = ap (λ c. value_text (boolean c)) (boolean_same order_total a b h)
    one_text (boolean a) w p q h = absurd (cc)
    one_text (number m e) (number n f) p q h = equal_text m e n f h
    one_text (number m e) w p q h = absurd (cc)
    one_text (string x) (string y) p q h = ap string_text (text_same x y h)
    one_text (string x) w p q h = absurd (cc)
    one_text (container array xs) (container array ys) p q h = ap (bracketed array) (elements_texted xs ys (each_text xs)
        (plain_each xs (or_parts (has_repeated (names xs)) (children_have_duplicate xs) p.distinct).1 p.members) (plain_each ys (or_parts (has_repeated (names ys)) (children_have_duplicate ys) q.distinct).1 q.members) h)
    one_text (container array xs) w p q h = absurd (cc)
    one_text (container object xs) (container object ys) p q h = ap (λ (l : List Member). bracketed object (map (λ m. m.text) l)) (objects_texted xs ys (each_text xs) p q h)
    one_text (container object xs) w p q h = absurd (cc)

    each_text : (cs : Children) → OfEachChild Texted cs
    each_text no_child = tt
    each_text (child name (node s v) more) = (one_text v, each_text more)
