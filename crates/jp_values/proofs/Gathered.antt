-- Members gathered of an object, in order of their names, and found there.
use Rattle.std.proofs.Common.{◌≡◌, ◌∙◌, ℕ, zero, suc, ◌+◌, ◌<◌, ◌≤◌, true, false, List, [], ◌∷◌, ◌++◌, length, get_or, refl, sym, ap, subst, arith, ◌⊎◌, inl, inr, Option, Some, None, Ordering, Less, Equal, Greater}
use Rattle.std.specs.Prelude.{Contains, option_map, IsSorted, IsPermutation}
use Rattle.std.specs.List.{HoldsAt}
use Rattle.std.specs.List.Sorted.{IsNonDecreasingBy, IsPartitionPoint}
use Rattle.std.specs.Cmp.Lexicographic.{slice_cmp, nat_list_cmp_total}
use Rattle.std.specs.Ordering.{nat_cmp, is_eq, is_lt, ordering_index, ordering_reverse}
use Rattle.std.proofs.lemmas.Bool.{cases_Bool, cases_lt}
use Rattle.std.proofs.lemmas.List.Elements.{Contains-append_left, Contains-append_right, Contains-append_cases}
use Rattle.std.proofs.lemmas.List.Sorted.{Contains-permutation, IsNonDecreasingBy-from_all_adjacent}
use Rattle.std.proofs.lemmas.Map.Text.{is_eq-slice_cmp}
use Rattle.std.proofs.lemmas.Slice.Eq.{bytes_eq-Decides}
use Rattle.jp_model.specs.Json.Faults.{names, has_repeated}
use Rattle.jp_model.specs.Json.Tree.{Value, Children, no_child, value_of, Name}
use Rattle.jp_nodes.specs.declared.cursor.Cursor.{Cursor}
use Rattle.jp_nodes.specs.Cursors.{node_of, name_of, children_from, children_after}
use Rattle.jp_values.specs.declared.member.Member.{Member}
use Rattle.jp_values.specs.Members.{has_name, member_named, EndsWith}
use Rattle.jp_values.specs.ByName.{points, by_name, AreMembers, AreByName}
use Rattle.jp_values.proofs.Lookups.{ends_here, ends_behind, other_member, first_member, found_in_whole}

-- ---- members gathered one by one

-- these are the members in front of the rest
pub record Gathered (whole rest : Children) (members : List Member) : Type 0 where
  pub found : (m : Member) → Contains members m → member_named (points m) whole ≡ Some (value_of (node_of m.node).tree)
  pub behind : (m : Member) → Contains members m → EndsWith whole (children_after m.node)
  pub ends : EndsWith whole rest
  pub complete : (x : List ℕ) (v : Value) → member_named x whole ≡ Some v → ((m : Member) × Contains members m × (points m ≡ x)) ⊎ (member_named x rest ≡ Some v)

none_in : {X : Type 0} (x : X) → Contains [] x → ⊥
none_in x (k, l, e) = omega (arith, l)

only_in : {X : Type 0} (x y : X) → Contains (x ∷ []) y → y ≡ x
only_in x y (zero, l, e) = sym e
only_in x y (suc k, l, e) = absurd (omega (arith, l))

pub gathered_none : (whole rest : Children) (members : List Member) → members ≡ [] → rest ≡ whole → Gathered whole rest members
gathered_none whole rest members e f =
    let none : (m : Member) → Contains members m → ⊥ = λ m k. none_in m (subst (λ (ms : List Member). Contains ms m) e k) in
    record {
      found = λ m k. absurd (none m k);
      behind = λ m k. absurd (none m k);
      ends = subst (λ (r : Children). EndsWith whole r) (sym f) (ends_here whole);
      complete = λ x v h. inr (ap (member_named x) f ∙ h);
    }

has_its_name : (x : List ℕ) (name : Option Name) → Some x ≡ option_map (λ (n : Name). n.points) name → has_name x name ≡ true
has_its_name x None e = absurd (cc)
has_its_name x (Some n) e = let same : x ≡ n.points = cc in (bytes_eq-Decides x n.points).1 same

is_its_name : (x y : List ℕ) (name : Option Name) → Some x ≡ option_map (λ (n : Name). n.points) name → has_name y name ≡ true → x ≡ y
is_its_name x y None e h = absurd (cc)
is_its_name x y (Some n) e h = let same : x ≡ n.points = cc in same ∙ sym ((bytes_eq-Decides y n.points).0 h)

no_name : (x : List ℕ) (name : Option Name) → None ≡ option_map (λ (n : Name). n.points) name → has_name x name ≡ false
no_name x None e = refl
no_name x (Some n) e = absurd (cc)

pub gathered_named : (whole : Children) (c : Cursor) (members : List Member) (m : Member) → has_repeated (names whole) ≡ false → m.node ≡ c → Some (points m) ≡ option_map (λ (n : Name). n.points) (name_of c) →
    Gathered whole (children_from (Some c)) members → Gathered whole (children_after c) (members ++ m ∷ [])
gathered_named whole c members m d n e g =
    let here : member_named (points m) whole ≡ Some (value_of (node_of c).tree) =
    found_in_whole (points m) whole (children_from (Some c)) (value_of (node_of c).tree) d g.ends (first_member (points m) (name_of c) (node_of c).tree (children_after c) (has_its_name (points m) (name_of c) e)) in
    let ends : EndsWith whole (children_after c) = ends_behind whole (children_after c) (name_of c) (node_of c).tree g.ends in
    record {
      found = λ k h. elim (Contains-append_cases members (m ∷ []) k h) [
        | inl old ↦ g.found k old
        | inr new ↦ subst (λ (x : Member). member_named (points x) whole ≡ Some (value_of (node_of x.node).tree)) (sym (only_in m k new)) (here ∙ ap (λ (x : Cursor). Some (value_of (node_of x).tree)) (sym n))
      ];
      behind = λ k h. elim (Contains-append_cases members (m ∷ []) k h) [
        | inl old ↦ g.behind k old
        | inr new ↦ subst (λ (x : Cursor). EndsWith whole (children_after x)) (sym (ap (λ (x : Member). x.node) (only_in m k new) ∙ n)) ends
      ];
      ends = ends;
      complete = λ x v h. elim (g.complete x v h) [
        | inl old ↦ inl (old.0, Contains-append_left members (m ∷ []) old.0 old.1, old.2)
        | inr r ↦ elim (cases_Bool (has_name x (name_of c))) [
          | inl t ↦ inl (m, Contains-append_right members (m ∷ []) m (0, omega arith, refl), is_its_name (points m) x (name_of c) e t)
          | inr f ↦ inr (sym (other_member x (name_of c) (node_of c).tree (children_after c) f) ∙ r)
        ]
      ];
    }

pub gathered_nameless : (whole : Children) (c : Cursor) (members : List Member) → None ≡ option_map (λ (n : Name). n.points) (name_of c) →
    Gathered whole (children_from (Some c)) members → Gathered whole (children_after c) members
gathered_nameless whole c members e g = record {
  found = g.found;
  behind = g.behind;
  ends = ends_behind whole (children_after c) (name_of c) (node_of c).tree g.ends;
  complete = λ x v h. elim (g.complete x v h) [
    | inl old ↦ inl old
    | inr r ↦ inr (sym (other_member x (name_of c) (node_of c).tree (children_after c) (no_name x (name_of c) e)) ∙ r)
  ];
}

pub gathered_all : (whole rest : Children) (members : List Member) → rest ≡ no_child → Gathered whole rest members → AreMembers whole members
gathered_all whole rest members e g = record {
  found = g.found;
  behind = g.behind;
  complete = λ x v h. elim (g.complete x v h) [
    | inl old ↦ old
    | inr r ↦ let none : None ≡ Some v = sym (ap (member_named x) e) ∙ r in absurd (cc)
  ];
}

-- ---- in another order

pub members_moved : (children : Children) (old new : List Member) → IsPermutation new old → IsPermutation old new → AreMembers children old → AreMembers children new
members_moved children old new p q g = record {
  found = λ m h. g.found m (Contains-permutation new old m p h);
  behind = λ m h. g.behind m (Contains-permutation new old m p h);
  complete = λ x v h. let o = g.complete x v h in (o.0, Contains-permutation old new o.0 q o.1, o.2);
}

-- ---- found by halving

abbrev order : List ℕ → List ℕ → Ordering
order = slice_cmp nat_cmp

tied_same : (x y : List ℕ) → order x y ≡ Equal → x ≡ y
tied_same x y e = (bytes_eq-Decides x y).0 (sym (is_eq-slice_cmp x y) ∙ ap is_eq e)

same_tied : (x y : List ℕ) → x ≡ y → order x y ≡ Equal
same_tied x y e = equal_is (order x y) (is_eq-slice_cmp x y ∙ (bytes_eq-Decides x y).1 e)
  where
    equal_is : (o : Ordering) → is_eq o ≡ true → o ≡ Equal
    equal_is Less h = absurd (cc)
    equal_is Equal h = refl
    equal_is Greater h = absurd (cc)

-- what is not greater rises no less far over a third
rises : (a b x : List ℕ) → is_lt (order b a) ≡ false → ordering_index (order a x) ≤ ordering_index (order b x)
rises a b x h = by (order b a) (order b x) (order a x) refl refl refl h
  where
    at_most : (o : Ordering) → ordering_index o ≤ 2
    at_most Less = omega arith
    at_most Equal = omega arith
    at_most Greater = omega arith

    by : (r s t : Ordering) → order b a ≡ r → order b x ≡ s → order a x ≡ t → is_lt r ≡ false → ordering_index t ≤ ordering_index s
    by Less s t e f g l = absurd (cc)
    by Equal s t e f g l = let k : s ≡ t = sym f ∙ (nat_list_cmp_total.congr b a x e ∙ g) in let j = ap ordering_index k in omega (arith, j)
    by Greater Greater t e f g l = at_most t
    by Greater Less t e f g l = let below : order a x ≡ Less = nat_list_cmp_total.trans a b x (nat_list_cmp_total.antisymm a b ∙ ap ordering_reverse e) f in let j : ordering_index t ≡ 0 = ap ordering_index (sym g ∙ below) in omega (arith, j)
    by Greater Equal t e f g l =
        let turned : order x a ≡ Greater = sym (nat_list_cmp_total.congr b x a f) ∙ e in
        let j : ordering_index t ≡ 0 = ap ordering_index (sym g ∙ (nat_list_cmp_total.antisymm a x ∙ ap ordering_reverse turned)) in
        omega (arith, j)

sorted_rises : (members : List Member) (wanted : Member) → IsSorted by_name members → IsNonDecreasingBy (λ (m : Member). ordering_index (by_name m wanted)) members
sorted_rises members wanted s =
    IsNonDecreasingBy-from_all_adjacent (λ (m : Member). ordering_index (by_name m wanted)) members
    (λ k d l. rises (points (get_or members k d)) (points (get_or members (k + 1) d)) (points wanted) (s k d (omega arith) l))

pub found_sorted : (children : Children) (members : List Member) (wanted m : Member) (k : ℕ) → AreMembers children members → k < length members → m ≡ get_or members k m → HoldsAt (λ (y : Member). by_name y wanted ≡ Equal) members k →
    Some (value_of (node_of m.node).tree) ≡ member_named (points wanted) children
found_sorted children members wanted m k g l e h =
    let same : points m ≡ points wanted = tied_same (points m) (points wanted) (ap (λ (y : Member). by_name y wanted) e ∙ h m) in
    sym (g.found m (k, l, sym e)) ∙ ap (λ x. member_named x children) same

none_or : (o : Option Value) → ((v : Value) → o ≡ Some v → ⊥) → None ≡ o
none_or None h = refl
none_or (Some v) h = absurd (h v refl)

pub missing_sorted : (children : Children) (members : List Member) (wanted : Member) (i : ℕ) → AreByName children members →
    (IsNonDecreasingBy (λ (y : Member). ordering_index (by_name y wanted)) members → IsPartitionPoint (λ (y : Member). by_name y wanted ≡ Less) (λ (y : Member). by_name y wanted ≡ Greater) members i) → None ≡ member_named (points wanted) children
missing_sorted children members wanted i g h =
    none_or (member_named (points wanted) children)
    (λ v e.
    let point = h (sorted_rises members wanted g.sorted) in
    let there = g.all.complete (points wanted) v e in
    let m = there.0 in
    let tied : by_name m wanted ≡ Equal = same_tied (points m) (points wanted) there.2 in
    let k = there.1.0 in
    let at : get_or members k m ≡ m = there.1.2 in
    elim (cases_lt k i) [
      | inl low ↦ let less : by_name m wanted ≡ Less = sym (ap (λ (y : Member). by_name y wanted) at) ∙ point.0 k m (omega arith) low in absurd (cc)
      | inr high ↦ let greater : by_name m wanted ≡ Greater = sym (ap (λ (y : Member). by_name y wanted) at) ∙ point.1 k m high there.1.1 in absurd (cc)
    ])
