-- The tokens of a JSON text, by its derivation (RFC 8259, section 2): the position where each begins, and that of the closing
-- quote of each string and name.
use Rattle.std.specs.Prelude.{ℕ, ◌+◌, List, [], ◌∷◌, ◌++◌, Option, Some, None}
use Rattle.jp_model.specs.declared.Span.{Span}
use Rattle.jp_model.specs.Json.Spelling.{Spells, SpellsValue, SpellsFirst, SpellsMore, SpellsLabel}
use Rattle.jp_model.specs.Json.Tree.{Tree, node, Value, null, boolean, number, string, container, Container, array, object, Children, no_child, child, Name, span}

-- a name, its closing quote and its colon
abbrev pub label_tokens : (line : List ℕ) (kind : Container) (from value : ℕ) (name : Option Name) → SpellsLabel line kind from value name → List ℕ
label_tokens line array from value None h = []
label_tokens line array from value (Some name) h = []
label_tokens line object from value None h = []
label_tokens line object from value (Some name) h = from ∷ name.body.end ∷ h.colon.place ∷ []

abbrev mutual
  -- those of a tree
  pub tokens : (line : List ℕ) (t : Tree) → Spells line t → List ℕ
  tokens line (node s v) h = value_tokens line s v h

  -- those of a value, at a span
  pub value_tokens : (line : List ℕ) (s : Span) (v : Value) → SpellsValue line s v → List ℕ
  value_tokens line s null h = s.start ∷ []
  value_tokens line s (boolean b) h = s.start ∷ []
  value_tokens line s (number m e) h = s.start ∷ []
  value_tokens line s (string points) h = s.start ∷ h.last ∷ []
  value_tokens line s (container kind children) h = s.start ∷ first_tokens line kind (s.start + 1) s.end children h.1

  -- after an opening bracket
  pub first_tokens : (line : List ℕ) (kind : Container) (from to : ℕ) (c : Children) → SpellsFirst line kind from to c → List ℕ
  first_tokens line kind from to no_child h = h.place ∷ []
  first_tokens line kind from to (child name t more) h =
      label_tokens line kind h.0 (span t).start name h.2 ++ (tokens line t h.3 ++ more_tokens line kind (span t).end to more h.4)

  -- after a child
  pub more_tokens : (line : List ℕ) (kind : Container) (from to : ℕ) (c : Children) → SpellsMore line kind from to c → List ℕ
  more_tokens line kind from to no_child h = h.place ∷ []
  more_tokens line kind from to (child name t more) h =
      h.1.place ∷ (label_tokens line kind h.0 (span t).start name h.2 ++ (tokens line t h.3 ++ more_tokens line kind (span t).end to more h.4))
