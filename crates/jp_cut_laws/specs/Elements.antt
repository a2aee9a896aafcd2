-- Arrays of elements that a line accepts, and lines that say the same (RFC 8259, section 5).
use Rattle.std.specs.Prelude.{◌≡◌, ℕ, true, List, [], ◌∷◌, ◌++◌, ⊤}
use Rattle.jp_model.specs.declared.Framing.TheVariants.{Lines}
use Rattle.jp_model.specs.Lines.{is_blank}
use Rattle.jp_model.specs.Json.Reader.{status_of}
use Rattle.jp_model.specs.Json.Status.{parsed}
use Rattle.jp_model.specs.Json.Tree.{Tree, Children, no_child, child, span}
use Rattle.jp_laws.specs.JsonTexts.{unplaced}

-- these bytes are a line that is accepted, and its value begins with the first of them: white space stands only after it
pub record IsElement (bytes : List ℕ) (t : Tree) : Type 0 where
  pub accepted : status_of Lines bytes ≡ parsed t
  pub start : (span t).start ≡ 0

-- Elements, at least one, each with white space at will in front of it, a comma between two, and the closing bracket of
-- their array after the last.
pub data AreElements : List ℕ → List (List ℕ) → Type 0 where
  last : (white bytes : List ℕ) (t : Tree) → is_blank white ≡ true → IsElement bytes t → AreElements (white ++ (bytes ++ 0x5D ∷ [])) (bytes ∷ [])
  next : (white bytes rest : List ℕ) (t : Tree) (others : List (List ℕ)) → is_blank white ≡ true → IsElement bytes t → AreElements rest others → AreElements (white ++ (bytes ++ 0x2C ∷ rest)) (bytes ∷ others)

-- what follows the opening bracket of an array of these elements, up to the closing one
pub data IsInside : List ℕ → List (List ℕ) → Type 0 where
  empty : (white : List ℕ) → is_blank white ≡ true → IsInside (white ++ 0x5D ∷ []) []
  filled : (inside : List ℕ) (elements : List (List ℕ)) → AreElements inside elements → IsInside inside elements

-- an array of these elements
pub record IsArray (bytes : List ℕ) (elements : List (List ℕ)) : Type 0 where
  pub inside : List ℕ
  pub opened : bytes ≡ 0x5B ∷ inside
  pub are : IsInside inside elements

-- these bytes are a line that is accepted, and its tree says the same as another
pub record SaysTheSame (bytes : List ℕ) (t : Tree) : Type 0 where
  pub tree : Tree
  pub accepted : status_of Lines bytes ≡ parsed tree
  pub same : unplaced tree ≡ unplaced t

-- the same of some lines and as many children, in turn
abbrev pub SayTheSame : List (List ℕ) → Children → Type 0
SayTheSame [] no_child = ⊤
SayTheSame [] (child name t more) = ⊥
SayTheSame (bytes ∷ rest) no_child = ⊥
SayTheSame (bytes ∷ rest) (child name t more) = SaysTheSame bytes t × SayTheSame rest more
