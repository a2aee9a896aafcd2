-- What is written for a tree is a line that is accepted, with white space at will around it.
use Rattle.std.proofs.Common.{◌≡◌, ℕ, ◌+◌, max, Bool, false, ◌||◌, List, [], ◌∷◌, ◌++◌, length, Option, Some, None, refl, sym, ap, ap₂, subst, ◌∙◌, arith, suc}
use Rattle.std.specs.Prelude.{nat_lt}
use Rattle.std.proofs.lemmas.List.{append-nil}
use Rattle.std.proofs.lemmas.Str.{IsUtf8-append}
use Rattle.jp_model.specs.declared.Framing.TheVariants.{Lines}
use Rattle.jp_model.specs.Json.Faults.{depth, value_depth, greatest_depth, has_surrogate, value_has_surrogate, children_have_surrogate, name_has_lone_surrogate, names, name_points, has_repeated, has_duplicate, value_has_duplicate, children_have_duplicate, has_long_exponent}
use Rattle.jp_model.specs.Json.Places.{White}
use Rattle.jp_model.specs.Json.Reader.{status_of}
use Rattle.jp_model.specs.Json.Status.{parsed, fault_of_tree}
use Rattle.jp_model.specs.Json.Spelling.{Text}
use Rattle.jp_model.specs.Json.Tree.{Tree, node, Value, null, boolean, number, string, container, Children, no_child, child, Name, span}
use Rattle.jp_model.proofs.Reader.Statuses.{only_status}
use Rattle.jp_laws.specs.JsonTexts.{unplaced, unplaced_value, unplaced_children, unplaced_name}
use Rattle.jp_cut_laws.specs.Values.{IsValue}
use Rattle.jp_laws.proofs.TextsFrom.{IsTextFrom, go_on}
use Rattle.jp_cut_laws.proofs.From.{rest_length, white_front}
use Rattle.jp_cut_laws.proofs.Spelled.{tree_at}
use Rattle.jp_cut_laws.proofs.Utf8.{tree_utf8, white_utf8}
use Rattle.jp_cut_laws.proofs.Whole.{status_is, without_faults}
use Rattle.jp_cut_laws.proofs.Written.{IsWhite, Writes}

-- ---- faults of a tree do not hang on where its parts stand

mutual
  tree_depth : (t : Tree) → depth (unplaced t) ≡ depth t
  tree_depth (node s v) = depth_of v

  depth_of : (v : Value) → value_depth (unplaced_value v) ≡ value_depth v
  depth_of null = refl
  depth_of (boolean b) = refl
  depth_of (number m e) = refl
  depth_of (string x) = refl
  depth_of (container kind c) = ap suc (greatest c)

  greatest : (c : Children) → greatest_depth (unplaced_children c) ≡ greatest_depth c
  greatest no_child = refl
  greatest (child name t more) = ap₂ max (tree_depth t) (greatest more)

name_surrogate : (name : Option Name) → name_has_lone_surrogate (unplaced_name name) ≡ name_has_lone_surrogate name
name_surrogate None = refl
name_surrogate (Some name) = refl

mutual
  tree_surrogate : (t : Tree) → has_surrogate (unplaced t) ≡ has_surrogate t
  tree_surrogate (node s v) = surrogate_of v

  surrogate_of : (v : Value) → value_has_surrogate (unplaced_value v) ≡ value_has_surrogate v
  surrogate_of null = refl
  surrogate_of (boolean b) = refl
  surrogate_of (number m e) = refl
  surrogate_of (string x) = refl
  surrogate_of (container kind c) = surrogates c

  surrogates : (c : Children) → children_have_surrogate (unplaced_children c) ≡ children_have_surrogate c
  surrogates no_child = refl
  surrogates (child name t more) = ap₂ (λ (a b : Bool). a || b) (ap₂ (λ (a b : Bool). a || b) (name_surrogate name) (tree_surrogate t)) (surrogates more)

same_points : (name : Option Name) (a b : List (List ℕ)) → a ≡ b → name_points (unplaced_name name) a ≡ name_points name b
same_points None a b e = e
same_points (Some name) a b e = ap (λ (xs : List (List ℕ)). name.points ∷ xs) e

same_names : (c : Children) → names (unplaced_children c) ≡ names c
same_names no_child = refl
same_names (child name t more) = same_points name _ _ (same_names more)

mutual
  tree_duplicate : (t : Tree) → has_duplicate (unplaced t) ≡ has_duplicate t
  tree_duplicate (node s v) = duplicate_of v

  duplicate_of : (v : Value) → value_has_duplicate (unplaced_value v) ≡ value_has_duplicate v
  duplicate_of null = refl
  duplicate_of (boolean b) = refl
  duplicate_of (number m e) = refl
  duplicate_of (string x) = refl
  duplicate_of (container kind c) = ap₂ (λ (a b : Bool). a || b) (ap has_repeated (same_names c)) (duplicates c)

  duplicates : (c : Children) → children_have_duplicate (unplaced_children c) ≡ children_have_duplicate c
  duplicates no_child = refl
  duplicates (child name t more) = ap₂ (λ (a b : Bool). a || b) (tree_duplicate t) (duplicates more)

-- ---- lines

-- a tree has none of the faults that do not hang on its bytes
pub record IsSound (t : Tree) : Type 0 where
  pub shallow : nat_lt 512 (depth t) ≡ false
  pub whole : has_surrogate t ≡ false
  pub distinct : has_duplicate t ≡ false

-- a line that is accepted, with a tree that says the same from a place up to another
pub record LineOf (line : List ℕ) (from to : ℕ) (t : Tree) : Type 0 where
  pub tree : Tree
  pub accepted : status_of Lines line ≡ parsed tree
  pub start : (span tree).start ≡ from
  pub end : (span tree).end ≡ to
  pub same : unplaced tree ≡ unplaced t

no_fault : (line : List ℕ) (t : Tree) → IsSound t → has_long_exponent line t ≡ false → fault_of_tree Lines line t ≡ None
no_fault line t h short = rw (h.shallow, h.whole, short, h.distinct) refl

sound_alike : (t u : Tree) → unplaced u ≡ unplaced t → IsSound t → IsSound u
sound_alike t u e h = record {
  shallow = ap (nat_lt 512) (sym (tree_depth u) ∙ ap depth e ∙ tree_depth t) ∙ h.shallow;
  whole = sym (tree_surrogate u) ∙ ap has_surrogate e ∙ tree_surrogate t ∙ h.whole;
  distinct = sym (tree_duplicate u) ∙ ap has_duplicate e ∙ tree_duplicate t ∙ h.distinct;
}

pub sound : (line : List ℕ) (t : Tree) → status_of Lines line ≡ parsed t → IsSound t
sound line t e = let faults = without_faults line t (status_is line t e).2 in record { shallow = faults.0; whole = faults.1; distinct = faults.3 }

pub written_line : (before bytes after : List ℕ) (t : Tree) → IsWhite before → IsWhite after → Writes bytes t → IsSound t → LineOf (before ++ (bytes ++ after)) (length before) (length before + length bytes) t
written_line before bytes after t white_before white_after h is_sound =
    let line : List ℕ = before ++ (bytes ++ after) in
    let first : IsTextFrom line 0 line = record { place = omega arith; is = refl } in
    let at = go_on line 0 before (bytes ++ after) first in
    let i : ℕ = 0 + length before in
    let last = subst (IsTextFrom line (i + length bytes)) (sym (append-nil after)) (go_on line i bytes after at) in
    let found = tree_at line t bytes h i (i + length bytes) after refl at in
    let all = rest_length line (i + length bytes) (after ++ []) last in
    let none : length (after ++ []) ≡ length after = ap length (append-nil after) in
    let text : Text line found.here = record {
      before = subst (White line 0) (sym found.start) (white_front line 0 before (bytes ++ after) white_before first);
      value = found.spells;
      after = subst (λ k. White line k (length line)) (sym found.end) (subst (White line (i + length bytes)) (let e : i + length bytes + length after ≡ length line = omega (arith, all, none) in e) (white_front line (i + length bytes) after [] white_after last));
    } in
    let utf8 = IsUtf8-append before (bytes ++ after) (white_utf8 before white_before) (IsUtf8-append bytes after (tree_utf8 t bytes h) (white_utf8 after white_after)) in
    let fault = no_fault line found.here (sound_alike t found.here found.same is_sound) found.short in
    record {
      tree = found.here;
      accepted = sym (only_status Lines line (parsed found.here) (utf8, text, fault));
      start = found.start ∙ (let e : i ≡ length before = omega arith in e);
      end = found.end ∙ (let e : i + length bytes ≡ length before + length bytes = omega arith in e);
      same = found.same;
    }

-- what is written for a tree is a value
pub record ValueOf (bytes : List ℕ) (t : Tree) : Type 0 where
  pub tree : Tree
  pub is : IsValue bytes tree
  pub same : unplaced tree ≡ unplaced t

pub written_value : (bytes : List ℕ) (t : Tree) → Writes bytes t → IsSound t → ValueOf bytes t
written_value bytes t h is_sound =
    let line = written_line [] bytes [] t tt tt h is_sound in
    let all = append-nil bytes in
    record { tree = line.tree; is = record { accepted = subst (λ xs. status_of Lines xs ≡ parsed line.tree) all line.accepted; start = line.start; end = line.end ∙ (let e : 0 + length bytes ≡ length bytes = omega arith in e) }; same = line.same }
