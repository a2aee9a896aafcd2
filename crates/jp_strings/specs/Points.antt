-- The code points of a body, as a function that computes. A body is what stands between a string's quotes (RFC 8259,
-- section 7).
use Rattle.std.specs.Prelude.{◌≡◌, ℕ, zero, suc, Bool, true, false, not, cond, ◌==◌, List, [], ◌∷◌, length, Option, Some, None}
use Rattle.jp_model.specs.Json.Strings.{SpellsBody, paired, has_lone_surrogate}
use Rattle.jp_model.specs.Json.Reader.{and_then, character_at}

-- The bytes are a body, and no half of a pair stands alone in what they spell.
pub record IsText (body : List ℕ) : Type 0 where
  pub points : List ℕ
  pub spelled : SpellsBody body 0 (length body) points
  pub is_whole : has_lone_surrogate points ≡ false

-- what the characters from a position up to the end stand for, if the bytes there are characters and no more than n
abbrev pub units_within : ℕ → List ℕ → ℕ → Option (List ℕ)
units_within zero body at = cond (at == length body) (Some []) None
units_within (suc n) body at =
    elim (at == length body) [
      | true ↦ Some []
      | false ↦ and_then (character_at body at) (λ c. and_then (units_within n body c.1) (λ units. Some (c.0 ∷ units)))
    ]

-- the same, however many they are
unfoldable pub units_from : List ℕ → ℕ → Option (List ℕ)
units_from body at = units_within (length body) body at

-- the code points of units, where there are any
abbrev pub points_in : Option (List ℕ) → List ℕ
points_in None = []
points_in (Some units) = paired units

-- the code points that a body spells from a position up to its end, and none where the bytes there spell none
unfoldable pub points_from : List ℕ → ℕ → List ℕ
points_from body at = points_in (units_from body at)

-- the code points that a body spells
unfoldable pub points_of : List ℕ → List ℕ
points_of body = points_from body 0

-- there are units, and none is half of a pair alone
abbrev pub are_whole : Option (List ℕ) → Bool
are_whole None = false
are_whole (Some units) = not (has_lone_surrogate (paired units))

-- from a position up to the end the body spells code points, none of them half of a pair
unfoldable pub is_text_from : List ℕ → ℕ → Bool
is_text_from body at = are_whole (units_from body at)

-- A code point is spelled at a position, and the text goes on after it.
pub record GoesOn (body : List ℕ) (at point behind : ℕ) : Type 0 where
  pub points : points_from body at ≡ point ∷ points_from body behind
  pub text : is_text_from body behind ≡ true
