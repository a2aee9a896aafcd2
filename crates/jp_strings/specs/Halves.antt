-- Halves of surrogate pairs that stand alone, found from left to right.
use Rattle.std.specs.Prelude.{◌≡◌, ℕ, ◌<◌, ◌≤◌, Bool, true, false, not, ◌||◌, List, [], ◌∷◌, length, drop, Option, option_map}
use Rattle.std.specs.Str.{IsUtf8}
use Rattle.jp_model.specs.Characters.{is_high_surrogate, is_low_surrogate}
use Rattle.jp_strings.specs.declared.checks.Halves.{Halves}
use Rattle.jp_strings.specs.Points.{units_from}

-- just one of two facts holds
abbrev pub differ : Bool → Bool → Bool
differ true b = not b
differ false b = b

-- a half stands alone in these units, where a high half stands directly before them or not
abbrev pub alone : Bool → List ℕ → Bool
alone after_high [] = after_high
alone after_high (u ∷ us) = differ after_high (is_low_surrogate u) || alone (is_high_surrogate u) us

-- the same, with what was seen before
abbrev pub alone_behind : Halves → List ℕ → Bool
alone_behind seen units = seen.is_lone || alone seen.after_high units

-- the answer for a body whose units these are, if it has any
abbrev pub answer : Halves → Option (List ℕ) → Option Bool
answer seen units = option_map (alone_behind seen) units

-- what was seen up to a position, and what was seen up to one after it, give the same answer
pub record Advances (body : List ℕ) (at : ℕ) (seen : Halves) (behind : ℕ) (more : Halves) : Type 0 where
  pub order : at < behind
  pub within : behind ≤ length body
  pub utf8 : IsUtf8 (drop behind body)
  pub same : answer seen (units_from body at) ≡ answer more (units_from body behind)
