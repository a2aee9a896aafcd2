-- What was found for the names of columns among the members so far, and what is left of the others.
use Rattle.std.proofs.Common.{◌≡◌, ◌∙◌, ℕ, ◌+◌, ◌<◌, List, [], ◌∷◌, ◌++◌, All, IfSome, length, get_or, map, set, take, drop, Bool, true, false, Option, Some, None, option_map, sym, ap, refl, subst, ◌⊎◌, inl, inr, arith}
use Rattle.std.specs.Prelude.{is_some}
use Rattle.std.proofs.lemmas.Bool.{cases_eq, true≢false}
use Rattle.std.proofs.Math.Seq.{take-append_seam}
use Rattle.std.proofs.lemmas.Grind.{get_or-set_at}
use Rattle.std.proofs.lemmas.List.{ext_get_or, get_or-map, get_or-set_other, length-map}
use Rattle.std.proofs.lemmas.List.Elements.{All-from_get_or}
use Rattle.jp_model.specs.Characters.{text_equal}
use Rattle.jp_model.specs.Json.Faults.{names, has_repeated}
use Rattle.jp_model.specs.Json.Tree.{Name}
use Rattle.jp_model.specs.Meaning.Nodes.{Node, step_to}
use Rattle.jp_model.specs.Meaning.Slices.{is_name, named}
use Rattle.jp_nodes.specs.declared.cursor.Cursor.{Cursor}
use Rattle.jp_nodes.specs.Cursors.{children_after, children_from, line_of, name_of, node_of}
use Rattle.jp_children.specs.Found.{node_list}
use Rattle.jp_children.specs.Walks.{IsAt}
use Rattle.jp_children.proofs.Members.{only_one}
use Rattle.jp_children.proofs.Walks.{chosen_from, chosen_here, passed_here}

-- ---- names

-- the name that a child is reached by
pub name_is : (x : List ℕ) (index : ℕ) (name : Option Name) (points : List ℕ) → Some points ≡ option_map (λ n. n.points) name → is_name x (step_to index name) ≡ text_equal x points
name_is x index None points e = absurd (cc)
name_is x index (Some name) points e = let same : points ≡ name.points = cc in ap (text_equal x) (sym same)

-- an element that is there stays where it is written once more
pub written : {A : Type 0} (list : List A) (i j : ℕ) (x d : A) → i < length list → get_or list j d ≡ x → get_or (set list i x) j d ≡ x
written list i j x d within e = elim (cases_eq j i) [
  | inl same ↦ get_or-set_at list i j x d same within
  | inr other ↦ get_or-set_other list i j x d other ∙ e
]

-- what is written back over a whole list is the list then
pub written_back : {A : Type 0} (n : ℕ) (new old : List A) → length new ≡ length old → n ≡ length old → take n (new ++ drop (length new) old) ≡ new
written_back n new old e f = ap (λ k. take k (new ++ drop (length new) old)) (f ∙ sym e) ∙ take-append_seam new (drop (length new) old)

-- ---- members

-- a name's member is found, and no more are left, or none is found and all are left
abbrev pub IsFound : Node → ℕ → Option Cursor → List ℕ → Option Cursor → Type 0
IsFound parent index next x some =
    ((node_list some ≡ named x parent) × (chosen_from (is_name x) parent index next ≡ []))
    ⊎ ((some ≡ None) × (chosen_from (is_name x) parent index next ≡ named x parent))

module _ (parent : Node) (x : List ℕ) (some : Option Cursor) (index : ℕ) (c : Cursor) (next : Option Cursor) where
  pub found_here : IsAt parent index (Some c) → has_repeated (names (children_from (Some c))) ≡ false → children_from next ≡ children_after c → is_name x (step_to index (name_of c)) ≡ true
      → IsFound parent index (Some c) x some → IsFound parent (index + 1) next x (Some c)
  found_here at once e here (inl (found, none)) =
      let more = chosen_here (is_name x) parent index c next at e here in
      absurd (cc)
  found_here at once e here (inr (none, all)) =
      let only = only_one x parent index c at here once in
      let more = chosen_here (is_name x) parent index c next at e here in
      let both : node_of c ∷ chosen_from (is_name x) parent (index + 1) next ≡ node_of c ∷ [] = sym more ∙ only in
      inl (sym only ∙ all, cc)

  pub found_before : children_from next ≡ children_after c → is_name x (step_to index (name_of c)) ≡ false → IsFound parent index (Some c) x some → IsFound parent (index + 1) next x some
  found_before e other (inl (found, none)) = inl (found, sym (passed_here (is_name x) parent index c next e other) ∙ none)
  found_before e other (inr (none, all)) = inr (none, sym (passed_here (is_name x) parent index c next e other) ∙ all)

-- the same for each column, where those of the child's name have it and the others are as before
module _ (parent : Node) (texts : List (List ℕ)) (old new : List (Option Cursor)) (c : Cursor) (count : length new ≡ length old)
    (noted : (column index : ℕ) → column < length old → is_name (get_or texts column []) (step_to index (name_of c)) ≡ true → get_or new column None ≡ Some c)
    (others : (column index : ℕ) → is_name (get_or texts column []) (step_to index (name_of c)) ≡ false → get_or new column None ≡ get_or old column None) where
  pub found_each : (index : ℕ) (next : Option Cursor) → IsAt parent index (Some c) → has_repeated (names (children_from (Some c))) ≡ false → children_from next ≡ children_after c
      → ((column : ℕ) → column < length old → IsFound parent index (Some c) (get_or texts column []) (get_or old column None))
      → (column : ℕ) → column < length new → IsFound parent (index + 1) next (get_or texts column []) (get_or new column None)
  found_each index next at once e each column within = pick (is_name x (step_to index (name_of c))) refl
    where
      x : List ℕ
      x = get_or texts column []

      inside : column < length old
      inside = omega (arith, count, within)

      pick : (b : Bool) → is_name x (step_to index (name_of c)) ≡ b → IsFound parent (index + 1) next x (get_or new column None)
      pick true is = subst (IsFound parent (index + 1) next x) (sym (noted column index inside is)) (found_here parent x (get_or old column None) index c next at once e is (each column inside))
      pick false is = subst (IsFound parent (index + 1) next x) (sym (others column index is)) (found_before parent x (get_or old column None) index c next e is (each column inside))

  pub lined_each : (line : List ℕ) → line_of c ≡ line → All (λ some. IfSome some (λ d. line_of d ≡ line)) old → All (λ some. IfSome some (λ d. line_of d ≡ line)) new
  lined_each line is all = All-from_get_or (λ some. IfSome some (λ d. line_of d ≡ line)) new None (λ column within. pick column within (is_name (get_or texts column []) (step_to 0 (name_of c))) refl)
    where
      pick : (column : ℕ) → column < length new → (b : Bool) → is_name (get_or texts column []) (step_to 0 (name_of c)) ≡ b → IfSome (get_or new column None) (λ d. line_of d ≡ line)
      pick column within true h = subst (λ some. IfSome some (λ d. line_of d ≡ line)) (sym (noted column 0 (omega (arith, count, within)) h)) is
      pick column within false h = subst (λ some. IfSome some (λ d. line_of d ≡ line)) (sym (others column 0 h)) (all column None (omega (arith, count, within)))

pub found_last : (parent : Node) (x : List ℕ) (some : Option Cursor) (index : ℕ) → IsFound parent index None x some → node_list some ≡ named x parent
found_last parent x some index (inl (found, none)) = found
found_last parent x some index (inr (none, all)) = ap node_list none ∙ all

-- where something was found it is the member, whatever is left
pub found_already : (parent : Node) (x : List ℕ) (some : Option Cursor) (index : ℕ) (next : Option Cursor) → is_some some ≡ true → IsFound parent index next x some → node_list some ≡ named x parent
found_already parent x some index next e (inl (found, none)) = found
found_already parent x some index next e (inr (none, all)) = absurd (true≢false (sym e ∙ ap is_some none))

-- what holds of each column holds of all
pub all_columns : (parent : Node) (texts : List (List ℕ)) (found : List (Option Cursor)) → length found ≡ length texts
    → ((column : ℕ) → column < length found → node_list (get_or found column None) ≡ named (get_or texts column []) parent) → map node_list found ≡ map (λ x. named x parent) texts
all_columns parent texts found e each =
    ext_get_or [] (map node_list found) (map (λ x. named x parent) texts) (length-map found node_list ∙ (e ∙ sym (length-map texts (λ x. named x parent))))
    (λ column within.
    let inside : column < length found = omega (arith, length-map found node_list, within) in
    get_or-map node_list found column None [] inside ∙ (each column inside ∙ sym (get_or-map (λ x. named x parent) texts column [] [] (omega (arith, inside, e)))))
