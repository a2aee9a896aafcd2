-- The names of objects, as the builder keeps them.
use Rattle.std.specs.Prelude.{◌≡◌, ℕ, ◌<◌, ◌≤◌, List, length, get_or, map, IsTrue, All}
use Rattle.jp_model.specs.Json.Places.{bytes_between}
use Rattle.jp_strings.specs.Plain.{ArePlain}
use Rattle.jp_strings.specs.Points.{points_of, is_text_from}
use Rattle.jp_tape.specs.declared.builder.body.Body.{Body}
use Rattle.jp_tape.specs.declared.builder.kept.KeptName.{KeptName}

-- what a body spells
abbrev pub points : Body → List ℕ
points b = points_of b.bytes.now

-- what each spells
abbrev pub all_points : List Body → List (List ℕ)
all_points bodies = map points bodies

-- what is between the quotes of a name of a line
abbrev pub bytes_of : List ℕ → KeptName → List ℕ
bytes_of line name = bytes_between line name.body.start name.body.end

-- its code points
abbrev pub spelled_name : List ℕ → KeptName → List ℕ
spelled_name line name = points_of (bytes_of line name)

-- those of each name
abbrev pub spelled_names : List ℕ → List KeptName → List (List ℕ)
spelled_names line names = map (spelled_name line) names

-- the line has a name there, in which no surrogate stands alone
pub record IsKept (line : List ℕ) (name : KeptName) : Type 0 where
  pub order : name.body.start ≤ name.body.end
  pub within : name.body.end ≤ length line
  pub text : IsTrue (is_text_from (bytes_of line name) 0)
  pub plain : IsTrue name.is_plain → ArePlain (bytes_of line name) 0 (length (bytes_of line name))

-- such are all of them
abbrev pub AreKept : List ℕ → List KeptName → Type 0
AreKept line names = All (IsKept line) names

-- the bytes of a name are not those of the first `count` of others
abbrev pub DiffersFrom : List ℕ → KeptName → List KeptName → ℕ → Type 0
DiffersFrom line name others count = (k : ℕ) (n : KeptName) → k < count → bytes_of line (get_or others k n) ≡ bytes_of line name → ⊥

-- each of the first `count` names stands for itself, and the bytes of no two of them are the same
pub record AreApart (line : List ℕ) (names : List KeptName) (count : ℕ) : Type 0 where
  pub plain : (k : ℕ) (n : KeptName) → k < count → IsTrue (get_or names k n).is_plain
  pub apart : (j k : ℕ) (n : KeptName) → j < k → k < count → bytes_of line (get_or names j n) ≡ bytes_of line (get_or names k n) → ⊥
