-- The node of a seek, and the rows of a line.
use Rattle.std.proofs.Common.{◌≡◌, ℕ, List, [], ◌∷◌, length, not, ◌==◌, true, Some, slice_get, refl, sym, ap, subst, ◌∙◌}
use Rattle.jp_model.specs.Json.Status.{LineStatus, blank, refused, parsed}
use Rattle.jp_model.specs.Json.Tree.{Tree}
use Rattle.jp_model.specs.Meaning.Nodes.{Node, root_node, subtree}
use Rattle.jp_model.specs.Plans.{is_tree, steps_nodes}
use Rattle.jp_model.specs.Steps.{Step}
use Rattle.std.specs.Prelude.{Result, Ok, Err, OnOk}
use Rattle.jp_index.specs.Entries.{Entry, entries_at, entries_of, entry_of, status_entry}
use Rattle.jp_store.specs.Collections.{Collection, statuses_in, line_status}
use Rattle.jp_lines.specs.Views.{status_kind}
use Rattle.jp_plan.specs.Passing.{seek_status, is_told_tree, IsLineOf}
use Rattle.jp_plan.proofs.Entries.{collection_entry, one_entry, no_entry}

-- the entry of a line with a tree is of its tree, and of the one node of the path
pub record Starts (path : List Step) (t : Tree) (place : ℕ) (node : Node) : Type 0 where
  pub at : slice_get (subtree (root_node t)) place ≡ Some node
  pub only : steps_nodes path t ≡ node ∷ []

pub starts : (c : Collection) (path : List Step) (n : ℕ) (t : Tree) (e : Entry) (place : ℕ) → IsLineOf c n → line_status n c ≡ parsed t
    → entries_at n (entries_of path (statuses_in c)) ≡ e ∷ [] → slice_get (subtree (root_node e.tree)) place ≡ Some e.node → Starts path t place e.node
starts c path n t e place is s h k =
    let here : entry_of path n t ≡ e ∷ [] = ap (status_entry path n) (sym s) ∙ (sym (collection_entry c path n is) ∙ h) in
    let one = one_entry path n t e here in
    record { at = subst (λ u. slice_get (subtree (root_node u)) place ≡ Some e.node) one.1 k; only = one.0 }

-- a seek that has a node has an entry
pub not_sought : (c : Collection) (path : List Step) (n : ℕ) (t : Tree) → IsLineOf c n → line_status n c ≡ parsed t
    → entries_at n (entries_of path (statuses_in c)) ≡ [] → seek_status (Some path) (line_status n c) ≡ true → ⊥
not_sought c path n t is s h k =
    let here : entry_of path n t ≡ [] = ap (status_entry path n) (sym s) ∙ (sym (collection_entry c path n is) ∙ h) in
    let none = no_entry path n t here in
    let passes : not (length (steps_nodes path t) == 0) ≡ true = ap (seek_status (Some path)) (sym s) ∙ k in
    let at_none : not (length {A = Node} [] == 0) ≡ true = subst (λ (ns : List Node). not (length ns == 0) ≡ true) none passes in
    absurd (cc)

pub on_ok : {A E : Type 0} {P Q : Type 0} (r : Result A E) → OnOk r P → (P → Q) → OnOk r Q
on_ok (Ok x) p f = f p
on_ok (Err e) p f = p

-- a status tells whether there is a tree
pub tree_told : (s : LineStatus) → is_told_tree (status_kind s) ≡ is_tree s
tree_told blank = refl
tree_told (refused fault) = refl
tree_told (parsed t) = refl
