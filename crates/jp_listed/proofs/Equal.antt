-- A set of canonical texts has what is equal to a value of one of them.
use Rattle.std.proofs.Common.{◌≡◌, ◌∙◌, ◌↔◌, ℕ, List, [], ◌∷◌, ◌||◌, map, Bool, true, false, All, Some, bytes_eq, refl, sym, ap₂}
use Rattle.std.proofs.lemmas.List.Elements.{All-head, All-tail}
use Rattle.std.proofs.lemmas.Slice.Eq.{bytes_eq-Decides}
use Rattle.jp_canon.specs.Canonical.{canonical_text, value_text}
use Rattle.jp_laws.specs.Nodes.{IsWithin, itself}
use Rattle.jp_listed.specs.Sets.{IsOfLine, is_among}
use Rattle.jp_listed.specs.Slots.{has_text}
use Rattle.jp_model.specs.declared.Framing.{Framing}
use Rattle.jp_model.specs.Json.Status.{parsed, HasStatus}
use Rattle.jp_model.specs.Json.Tree.{Tree, node, value_of}
use Rattle.jp_model.specs.Meaning.Compare.{compared}
use Rattle.jp_model.specs.Meaning.Nodes.{Node, root_node}
use Rattle.jp_model.specs.Query.Syntax.{equal}

-- the canonical text of a tree is that of its value
pub text_of_value : (t : Tree) → canonical_text t ≡ value_text (value_of t)
text_of_value (node s v) = refl

-- that canonical texts are equal exactly where values are
abbrev pub TellsValues : Type 0
TellsValues = (f g : Framing) (line other : List ℕ) (t u : Tree) → HasStatus f line (parsed t) → HasStatus g other (parsed u)
    → (n m : Node) → IsWithin (root_node t) n → IsWithin (root_node u) m
    → (canonical_text n.tree ≡ canonical_text m.tree) ↔ (compared equal (Some (value_of n.tree)) (Some (value_of m.tree)) ≡ true)

module _ (told : TellsValues) (u : Tree) (of_line : IsOfLine u) (n : Node) (within : IsWithin (root_node u) n) where
  one_equal : (t : Tree) → IsOfLine t → bytes_eq (canonical_text t) (value_text (value_of n.tree)) ≡ compared equal (Some (value_of t)) (Some (value_of n.tree))
  one_equal t line = pick (bytes_eq (canonical_text t) (value_text (value_of n.tree))) refl (compared equal (Some (value_of t)) (Some (value_of n.tree))) refl
    where
      both : (canonical_text t ≡ canonical_text n.tree) ↔ (compared equal (Some (value_of t)) (Some (value_of n.tree)) ≡ true)
      both = told line.0 of_line.0 line.1 of_line.1 t u line.2 of_line.2 (root_node t) n itself within

      pick : (a : Bool) → bytes_eq (canonical_text t) (value_text (value_of n.tree)) ≡ a → (b : Bool) → compared equal (Some (value_of t)) (Some (value_of n.tree)) ≡ b → a ≡ b
      pick true e true f = refl
      pick false e false f = refl
      pick true e false f = sym (both.0 ((bytes_eq-Decides (canonical_text t) (value_text (value_of n.tree))).0 e ∙ sym (text_of_value n.tree))) ∙ f
      pick false e true f = sym e ∙ (bytes_eq-Decides (canonical_text t) (value_text (value_of n.tree))).1 (both.1 f ∙ text_of_value n.tree)

  pub equal_among : (values : List Tree) → All IsOfLine values → has_text (map canonical_text values) (value_text (value_of n.tree)) ≡ is_among values (value_of n.tree)
  equal_among [] all = refl
  equal_among (t ∷ values) all = ap₂ (λ a b. a || b) (one_equal t (All-head IsOfLine t values all)) (equal_among values (All-tail IsOfLine t values all))
