-- Members in the order of their names: a sorted list of the same members, whose names differ, is that list.
use Rattle.std.proofs.Common.{◌≡◌, ℕ, zero, suc, ◌+◌, List, [], ◌∷◌, ◌++◌, length, map, get_or, take, drop, Some, None, true, false, refl, sym, ap, ap₂, subst, ◌∙◌, arith, ◌⊎◌, inl, inr, ⊎_elim}
use Rattle.std.specs.Prelude.{Contains, IsPermutation, IsSorted}
use Rattle.std.specs.List.{list_any}
use Rattle.std.specs.Ordering.{is_lt}
use Rattle.std.proofs.lemmas.Bool.{cond_both, or_parts}
use Rattle.std.proofs.lemmas.List.Sorted.{All-permutation, Contains-permutation, IsPermutation-map, IsPermutation-sym}
use Rattle.std.proofs.Math.Seq.{take-append_seam, drop-append_seam}
use Rattle.std.proofs.lemmas.Slice.Eq.{bytes_eq-Decides}
use Rattle.jp_canon.specs.Canonical.{Member, placed, by_name, member_texts}
use Rattle.jp_values.specs.declared.member.Member.{Member as Listed}
use Rattle.jp_values.specs.ByName.{points, by_name as name_order}
use Rattle.jp_canon.specs.Members.{with_text, IsWithin, AppendsMembers, AppendsByName, SortsFrom}
use Rattle.jp_canon.proofs.NameOrder.{less_is, less_trans, not_both, less_other}
use Rattle.jp_model.specs.Characters.{text_equal}
use Rattle.jp_model.specs.Json.Faults.{names, has_repeated, has_duplicate}
use Rattle.jp_model.specs.Json.Tree.{Tree, node, null, boolean, number, string, container, Children, no_child, child, value_of}
use Rattle.jp_model.specs.Meaning.Compare.{text_less}
use Rattle.jp_model.proofs.Reader.Lexical.{clash}
use Rattle.jp_tape.proofs.Repeated.{same_repeated}
use Rattle.jp_nodes.specs.Spots.{children_in}

-- a member is one of a list
abbrev pub IsIn : Member → List Member → Type 0
IsIn m [] = ⊥
IsIn m (n ∷ list) = (m ≡ n) ⊎ IsIn m list

-- ---- placed members

placed_in : (x m : Member) (list : List Member) → IsIn x (placed m list) → (x ≡ m) ⊎ IsIn x list
placed_in x m [] = λ i. i
placed_in x m (n ∷ list) =
    cond_both (text_less n.name m.name) (n ∷ placed m list) (m ∷ n ∷ list) (λ (l : List Member). IsIn x l → (x ≡ m) ⊎ IsIn x (n ∷ list))
    (λ _ i. ⊎_elim (λ e. inr (inl e)) (λ j. ⊎_elim (λ e. inl e) (λ k. inr (inr k)) (placed_in x m list j)) i) (λ _ i. i)

in_placed : (x m : Member) (list : List Member) → (x ≡ m) ⊎ IsIn x list → IsIn x (placed m list)
in_placed x m [] i = i
in_placed x m (n ∷ list) i =
    cond_both (text_less n.name m.name) (n ∷ placed m list) (m ∷ n ∷ list) (λ (l : List Member). IsIn x l)
    (λ _. ⊎_elim (λ e. inr (in_placed x m list (inl e))) (λ j. ⊎_elim (λ e. inl e) (λ k. inr (in_placed x m list (inr k))) j) i) (λ _. i)

pub by_name_in : (x : Member) (list : List Member) → IsIn x (by_name list) → IsIn x list
by_name_in x [] i = i
by_name_in x (m ∷ list) i = ⊎_elim (λ e. inl e) (λ j. inr (by_name_in x list j)) (placed_in x m (by_name list) i)

pub in_by_name : (x : Member) (list : List Member) → IsIn x list → IsIn x (by_name list)
in_by_name x [] i = i
in_by_name x (m ∷ list) i = in_placed x m (by_name list) (⊎_elim (λ e. inl e) (λ j. inr (in_by_name x list j)) i)

-- ---- in order

abbrev IsBelow : Member → List Member → Type 0
IsBelow m list = (x : Member) → IsIn x list → text_less m.name x.name ≡ true

abbrev pub AreAscending : List Member → Type 0
AreAscending [] = Unit {0}
AreAscending (m ∷ list) = IsBelow m list × AreAscending list

abbrev IsNamedElse : Member → List Member → Type 0
IsNamedElse m list = (x : Member) → IsIn x list → m.name ≡ x.name → ⊥

-- no two names are the same
abbrev pub AreNamed : List Member → Type 0
AreNamed [] = Unit {0}
AreNamed (m ∷ list) = IsNamedElse m list × AreNamed list

placed_ascending : (m : Member) (list : List Member) → IsNamedElse m list → AreAscending list → AreAscending (placed m list)
placed_ascending m [] d a = ((λ x i. absurd i), tt)
placed_ascending m (n ∷ list) d a =
    cond_both (text_less n.name m.name) (n ∷ placed m list) (m ∷ n ∷ list) (λ (l : List Member). AreAscending l)
    (λ h. ((λ x i. ⊎_elim (λ e. subst (λ (y : Member). text_less n.name y.name ≡ true) (sym e) h) (λ j. a.0 x j) (placed_in x m list i)), placed_ascending m list (λ x i. d x (inr i)) a.1))
    (λ h.
    let l = less_other m.name n.name (d n (inl refl)) h in
    ((λ x i. ⊎_elim (λ e. subst (λ (y : Member). text_less m.name y.name ≡ true) (sym e) l) (λ j. less_trans m.name n.name x.name l (a.0 x j)) i), a))

pub by_name_ascending : (list : List Member) → AreNamed list → AreAscending (by_name list)
by_name_ascending [] d = tt
by_name_ascending (m ∷ list) d = placed_ascending m (by_name list) (λ x i. d.0 x (by_name_in x list i)) (by_name_ascending list d.1)

same_first : (x y : Member) (xs ys : List Member) → IsBelow x xs → IsBelow y ys → IsIn x (y ∷ ys) → IsIn y (x ∷ xs) → x ≡ y
same_first x y xs ys a b (inl e) j = e
same_first x y xs ys a b (inr i) (inl e) = sym e
same_first x y xs ys a b (inr i) (inr j) = absurd (not_both x.name y.name (a y j) (b x i))

-- what is after the first is after the other's first
behind_first : (x y z : Member) (xs ys : List Member) → x ≡ y → IsBelow x xs → IsIn z xs → IsIn z (y ∷ ys) → IsIn z ys
behind_first x y z xs ys e a i (inl f) = let l = a z i in let m = subst (λ (u : Member). text_less x.name u.name ≡ true) (f ∙ sym e) l in absurd (not_both x.name x.name m m)
behind_first x y z xs ys e a i (inr j) = j

pub same_ascending : (xs ys : List Member) → AreAscending xs → AreAscending ys → ((x : Member) → IsIn x xs → IsIn x ys) → ((y : Member) → IsIn y ys → IsIn y xs) → xs ≡ ys
same_ascending [] [] a b f g = refl
same_ascending [] (y ∷ ys) a b f g = absurd (g y (inl refl))
same_ascending (x ∷ xs) [] a b f g = absurd (f x (inl refl))
same_ascending (x ∷ xs) (y ∷ ys) a b f g =
    let e = same_first x y xs ys a.0 b.0 (f x (inl refl)) (g y (inl refl)) in
    ap₂ (λ (z : Member) (l : List Member). z ∷ l) e
    (same_ascending xs ys a.1 b.1 (λ z i. behind_first x y z xs ys e a.0 i (f z (inr i))) (λ z i. behind_first y x z ys xs (sym e) b.0 i (g z (inr i))))

-- ---- by a sort

in_at : (list : List Member) (x : Member) → Contains list x → IsIn x list
in_at [] x (k, l, e) = absurd (omega (arith, l))
in_at (m ∷ list) x (zero, l, e) = inl (sym e)
in_at (m ∷ list) x (suc k, l, e) = inr (in_at list x (k, omega (arith, l), e))

at_in : (list : List Member) (x : Member) → IsIn x list → Contains list x
at_in [] x i = absurd i
at_in (m ∷ list) x (inl e) = (0, omega arith, sym e)
at_in (m ∷ list) x (inr i) = let c = at_in list x i in (suc c.0, (let l = c.1 in omega (arith, l)), c.2)

abbrev pub name_of : Member → List ℕ
name_of m = m.name

not_among : (m x : Member) (list : List Member) → list_any (text_equal m.name) (map name_of list) ≡ false → IsIn x list → m.name ≡ x.name → ⊥
not_among m x [] h i e = i
not_among m x (n ∷ list) h (inl s) e = clash _ ((bytes_eq-Decides m.name n.name).1 (e ∙ ap name_of s)) (or_parts _ _ h).0
not_among m x (n ∷ list) h (inr i) e = not_among m x list (or_parts (text_equal m.name n.name) _ h).1 i e

pub named : (list : List Member) → has_repeated (map name_of list) ≡ false → AreNamed list
named [] h = tt
named (m ∷ list) h = let parts = or_parts (list_any (text_equal m.name) (map name_of list)) _ h in ((λ x i. not_among m x list parts.0 i), named list parts.1)

-- none is less than the one before it
abbrev AreRising : List Member → Type 0
AreRising [] = Unit {0}
AreRising (m ∷ []) = Unit {0}
AreRising (m ∷ n ∷ list) = (text_less n.name m.name ≡ false) × AreRising (n ∷ list)

ascending : (list : List Member) → AreRising list → AreNamed list → AreAscending list
ascending [] r d = tt
ascending (m ∷ []) r d = ((λ x i. absurd i), tt)
ascending (m ∷ n ∷ list) r d =
    let rest = ascending (n ∷ list) r.1 d.1 in
    let less = less_other m.name n.name (d.0 n (inl refl)) r.0 in
    ((λ x i. ⊎_elim (λ e. subst (λ (y : Member). text_less m.name y.name ≡ true) (sym e) less) (λ j. less_trans m.name n.name x.name less (rest.0 x j)) i), rest)

rising : (list : List Listed) → IsSorted name_order list → AreRising (map with_text list)
rising [] h = tt
rising (m ∷ []) h = tt
rising (m ∷ n ∷ list) h = (
  sym (less_is (points n) (points m)) ∙ h 0 m (omega arith) (omega arith),
  rising (n ∷ list) (λ k d a l. ap (λ i. is_lt (name_order (get_or (m ∷ n ∷ list) i d) (get_or (n ∷ list) k d))) (let e : suc (k + 1) ≡ suc k + 1 = omega arith in e) ∙ h (suc k) d (omega arith) (omega (arith, l))),
)

names_are : (children : Children) → map name_of (member_texts children) ≡ names children
names_are no_child = refl
names_are (child None t more) = names_are more
names_are (child (Some name) t more) = ap (λ (l : List (List ℕ)). name.points ∷ l) (names_are more)

-- the members of an object, whose names differ, sorted
pub sorted_by_name : (children : Children) (listed sorted : List Listed) → has_repeated (names children) ≡ false → map with_text listed ≡ member_texts children → IsPermutation listed sorted → IsSorted name_order sorted → map with_text sorted ≡ by_name (member_texts children)
sorted_by_name children listed sorted distinct are p h =
    let ms : List Member = member_texts children in
    let qs : List Member = map with_text sorted in
    let moved : IsPermutation ms qs = subst (λ (l : List Member). IsPermutation l qs) are (IsPermutation-map with_text listed sorted p) in
    let back : IsPermutation qs ms = IsPermutation-sym ms qs moved in
    let differ : has_repeated (map name_of ms) ≡ false = ap has_repeated (names_are children) ∙ distinct in
    let differ_sorted : has_repeated (map name_of qs) ≡ false = same_repeated (map name_of ms) (map name_of qs) (IsPermutation-map name_of ms qs moved) ∙ differ in
    sym (same_ascending (by_name ms) qs (by_name_ascending ms (named ms differ)) (ascending qs (rising sorted h) (named qs differ_sorted))
    (λ x i. in_at qs x (Contains-permutation ms qs x moved (at_in ms x (by_name_in x ms i)))) (λ x i. in_by_name x ms (in_at ms x (Contains-permutation qs ms x back (at_in qs x i)))))

-- the names of one object are distinct
pub names_distinct : (t : Tree) → has_duplicate t ≡ false → has_repeated (names (children_in (value_of t))) ≡ false
names_distinct (node s null) d = refl
names_distinct (node s (boolean b)) d = refl
names_distinct (node s (number m e)) d = refl
names_distinct (node s (string points)) d = refl
names_distinct (node s (container kind children)) d = (or_parts _ _ d).0

-- ---- the last of a list

pub appended_by_name : (old mid new : List Listed) (from : ℕ) (children : Children) → from ≡ length old → has_repeated (names children) ≡ false → AppendsMembers old mid children → SortsFrom from mid new → AppendsByName old new children
appended_by_name old mid new from children e distinct h k =
    let front : take from mid ≡ old = ap₂ (λ (i : ℕ) (l : List Listed). take i l) e h.all ∙ take-append_seam old h.part in
    let rest : drop from mid ≡ h.part = ap₂ (λ (i : ℕ) (l : List Listed). drop i l) e h.all ∙ drop-append_seam old h.part in
    let moved : IsPermutation h.part k.part = subst (λ (l : List Listed). IsPermutation l k.part) rest k.moved in
    record {
      part = k.part;
      all = k.all ∙ ap (λ (l : List Listed). l ++ k.part) front;
      are = sorted_by_name children h.part k.part distinct h.are moved k.sorted;
      within = All-permutation (IsWithin children) h.part k.part moved h.within;
    }
