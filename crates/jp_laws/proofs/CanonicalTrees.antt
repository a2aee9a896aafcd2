-- A tree with the members of each object in the order of their names: the canonical text is the text of its parts, one after
-- another, and it has what the tree has.
use Rattle.std.proofs.Common.{◌≡◌, ℕ, List, [], ◌∷◌, ◌++◌, map, Bool, true, false, cond, Some, None, refl, sym, ap, ap₂, subst, ◌∙◌, append_assoc, append-nil}
use Rattle.std.specs.List.{join_with_byte}
use Rattle.std.proofs.lemmas.Bool.{cond_both}
use Rattle.jp_canon.specs.Canonical.{Member, by_name, bracketed, canonical_text, value_text, element_texts, member_texts}
use Rattle.jp_canon.specs.Canonical as canon
use Rattle.jp_model.specs.Json.Tree.{Tree, node, Value, null, boolean, number, string, container, array, object, Children, no_child, child, Name, joined}
use Rattle.jp_model.specs.Meaning.Compare.{text_less}
use Rattle.jp_laws.specs.JsonTexts as printed
use Rattle.jp_laws.specs.JsonTexts.{CanBeLabel, CanBeSaid, CanBeValue, CanBeChildren, HasNumbers, IsOfNumbers, HaveNumbers}
use Rattle.jp_laws.specs.Reordered.{ReorderedTrees, reordered_trees, ReorderedValues, same_null, same_boolean, same_number, same_string, same_array, same_object, ReorderedElements, no_element, next_element, ReorderedMembers, no_member, member_among}
use Rattle.jp_laws.specs.Values.{are_members}
use Rattle.jp_laws.proofs.CanonicalNumerals.{said}
use Rattle.jp_laws.proofs.CanonicalTexts.{canonical}

-- a member put before the first whose name is not less
abbrev pub put : Name → Tree → Children → Children
put a t no_child = child (Some a) t no_child
put a t (child None u more) = child None u (put a t more)
put a t (child (Some b) u more) = cond (text_less b.points a.points) (child (Some b) u (put a t more)) (child (Some a) t (child (Some b) u more))

abbrev mutual
  pub sorted : Tree → Tree
  sorted (node s v) = node s (sorted_value v)

  pub sorted_value : Value → Value
  sorted_value null = null
  sorted_value (boolean b) = boolean b
  sorted_value (number m e) = number m e
  sorted_value (string x) = string x
  sorted_value (container array cs) = container array (sorted_elements cs)
  sorted_value (container object cs) = container object (sorted_members cs)

  pub sorted_elements : Children → Children
  sorted_elements no_child = no_child
  sorted_elements (child name t more) = child None (sorted t) (sorted_elements more)

  pub sorted_members : Children → Children
  sorted_members no_child = no_child
  sorted_members (child None t more) = sorted_members more
  sorted_members (child (Some name) t more) = put name (sorted t) (sorted_members more)

-- ---- its text

-- children with their names, each a text
abbrev texts : Children → List (List ℕ)
texts no_child = []
texts (child name t more) = (printed.label_text canonical name ++ printed.tree_text canonical t) ∷ texts more

joined_text : (cs : Children) → join_with_byte 0x2C (texts cs) ≡ printed.first_text canonical cs
joined_text no_child = refl
joined_text (child name t no_child) = ap (λ (l : List ℕ). printed.label_text canonical name ++ l) (sym (append-nil (printed.tree_text canonical t)))
joined_text (child name t (child b u more)) =
    append_assoc (printed.label_text canonical name) (printed.tree_text canonical t) (0x2C ∷ join_with_byte 0x2C (texts (child b u more)))
    ∙ ap (λ (l : List ℕ). printed.label_text canonical name ++ (printed.tree_text canonical t ++ 0x2C ∷ l)) (joined_text (child b u more))

-- the same as members
abbrev pub listed : Children → List Member
listed no_child = []
listed (child None t more) = listed more
listed (child (Some name) t more) = record { name = name.points; text = printed.label_text canonical (Some name) ++ printed.tree_text canonical t } ∷ listed more

listed_texts : (cs : Children) → are_members cs ≡ true → map (λ (m : Member). m.text) (listed cs) ≡ texts cs
listed_texts no_child h = refl
listed_texts (child None t more) h = absurd (cc)
listed_texts (child (Some name) t more) h = ap (λ (l : List (List ℕ)). (printed.label_text canonical (Some name) ++ printed.tree_text canonical t) ∷ l) (listed_texts more h)

put_listed : (a : Name) (t : Tree) (cs : Children) → canon.placed (record { name = a.points; text = printed.label_text canonical (Some a) ++ printed.tree_text canonical t }) (listed cs) ≡ listed (put a t cs)
put_listed a t no_child = refl
put_listed a t (child None u more) = put_listed a t more
put_listed a t (child (Some b) u more) = step (text_less b.points a.points) (put_listed a t more)
  where
    m : Member
    m = record { name = a.points; text = printed.label_text canonical (Some a) ++ printed.tree_text canonical t }

    n : Member
    n = record { name = b.points; text = printed.label_text canonical (Some b) ++ printed.tree_text canonical u }

    step : (less : Bool) → canon.placed m (listed more) ≡ listed (put a t more)
        → cond less (n ∷ canon.placed m (listed more)) (m ∷ n ∷ listed more) ≡ listed (cond less (child (Some b) u (put a t more)) (child (Some a) t (child (Some b) u more)))
    step true e = ap (λ (l : List Member). n ∷ l) e
    step false e = refl

put_members : (a : Name) (t : Tree) (cs : Children) → are_members cs ≡ true → are_members (put a t cs) ≡ true
put_members a t no_child h = refl
put_members a t (child None u more) h = absurd (cc)
put_members a t (child (Some b) u more) h = cond_both (text_less b.points a.points) _ _ (λ (l : Children). are_members l ≡ true) (λ _. put_members a t more h) (λ _. h)

sorted_named : (cs : Children) → are_members (sorted_members cs) ≡ true
sorted_named no_child = refl
sorted_named (child None t more) = sorted_named more
sorted_named (child (Some name) t more) = put_members name (sorted t) (sorted_members more) (sorted_named more)

mutual
  pub tree_printed : (t : Tree) → canonical_text t ≡ printed.tree_text canonical (sorted t)
  tree_printed (node s v) = value_printed v

  pub value_printed : (v : Value) → value_text v ≡ printed.value_text canonical (sorted_value v)
  value_printed null = refl
  value_printed (boolean b) = refl
  value_printed (number m e) = sym (said m e).bytes
  value_printed (string x) = refl
  value_printed (container array cs) = ap (bracketed array) (elements_printed cs) ∙ ap (λ (l : List ℕ). 0x5B ∷ (l ++ 0x5D ∷ [])) (joined_text (sorted_elements cs))
  value_printed (container object cs) =
      ap (λ (l : List Member). bracketed object (map (λ m. m.text) l)) (members_printed cs)
      ∙ (ap (bracketed object) (listed_texts (sorted_members cs) (sorted_named cs)) ∙ ap (λ (l : List ℕ). 0x7B ∷ (l ++ 0x7D ∷ [])) (joined_text (sorted_members cs)))

  elements_printed : (cs : Children) → element_texts cs ≡ texts (sorted_elements cs)
  elements_printed no_child = refl
  elements_printed (child name t more) = ap₂ (λ (x : List ℕ) (l : List (List ℕ)). x ∷ l) (tree_printed t) (elements_printed more)

  pub members_printed : (cs : Children) → by_name (member_texts cs) ≡ listed (sorted_members cs)
  members_printed no_child = refl
  members_printed (child None t more) = members_printed more
  members_printed (child (Some name) t more) =
      ap₂ (λ (x : List ℕ) (l : List Member). canon.placed (record { name = name.points; text = x }) l)
      (ap (λ (x : List ℕ). canon.string_text name.points ++ 0x3A ∷ x) (tree_printed t) ∙ sym (append_assoc (canon.string_text name.points) (0x3A ∷ []) (printed.tree_text canonical (sorted t))))
      (members_printed more)
      ∙ put_listed name (sorted t) (sorted_members more)

-- ---- it is the tree, but for the order of members

record Split (a : Name) (t : Tree) (cs : Children) : Type 0 where
  front : Children
  rest : Children
  before : cs ≡ joined front rest
  after : put a t cs ≡ joined front (child (Some a) t rest)

split : (a : Name) (t : Tree) (cs : Children) → Split a t cs
split a t no_child = record { front = no_child; rest = no_child; before = refl; after = refl }
split a t (child None u more) =
    let s = split a t more in
    record { front = child None u s.front; rest = s.rest; before = ap (child None u) s.before; after = ap (child None u) s.after }
split a t (child (Some b) u more) = step (text_less b.points a.points) refl (split a t more)
  where
    step : (less : Bool) → text_less b.points a.points ≡ less → Split a t more → Split a t (child (Some b) u more)
    step true e s =
        record { front = child (Some b) u s.front; rest = s.rest; before = ap (child (Some b) u) s.before; after = rw e (ap (child (Some b) u) s.after) }
    step false e s = record { front = no_child; rest = child (Some b) u more; before = refl; after = rw e refl }

mutual
  tree_reordered : (t : Tree) → CanBeSaid t → ReorderedTrees t (sorted t)
  tree_reordered (node s v) h = reordered_trees (value_reordered v h)

  pub value_reordered : (v : Value) → CanBeValue v → ReorderedValues v (sorted_value v)
  value_reordered null h = same_null
  value_reordered (boolean b) h = same_boolean
  value_reordered (number m e) h = same_number
  value_reordered (string x) h = same_string
  value_reordered (container array cs) h = same_array (elements_reordered cs h)
  value_reordered (container object cs) h = same_object (members_reordered cs h)

  elements_reordered : (cs : Children) → CanBeChildren array cs → ReorderedElements cs (sorted_elements cs)
  elements_reordered no_child h = no_element
  elements_reordered (child None t more) h = next_element (tree_reordered t h.1) (elements_reordered more h.2)
  elements_reordered (child (Some name) t more) h = absurd h.0

  members_reordered : (cs : Children) → CanBeChildren object cs → ReorderedMembers cs (sorted_members cs)
  members_reordered no_child h = no_member
  members_reordered (child None t more) h = absurd h.0
  members_reordered (child (Some name) t more) h =
      let s = split name (sorted t) (sorted_members more) in
      subst (ReorderedMembers (child (Some name) t more)) (sym s.after) (member_among name name s.front s.rest refl (tree_reordered t h.1) (subst (ReorderedMembers more) s.before (members_reordered more h.2)))
