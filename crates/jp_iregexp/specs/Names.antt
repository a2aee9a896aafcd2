-- The names of properties, as the program keeps them.
use Rattle.std.specs.Prelude.{ℕ, List, [], ◌∷◌, Option, Some, None}
use Rattle.jp_iregexp.specs.declared.class.Property.{Property}
use Rattle.jp_iregexp.specs.Nodes.{property_of}
use Rattle.jp_model.specs.Pattern.Tree.{Property as TreeProperty}

-- a letter, and another one where there is one
abbrev pub letters_of : ℕ → Option ℕ → List ℕ
letters_of first None = first ∷ []
letters_of first (Some second) = first ∷ second ∷ []

-- a name and what it names
abbrev pub entry_of : ℕ × Option ℕ × Property → List ℕ × TreeProperty
entry_of entry = (letters_of entry.0 entry.1, property_of entry.2)
