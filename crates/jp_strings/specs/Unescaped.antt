-- A part of the text that a body spells.
use Rattle.std.specs.Prelude.{◌≡◌, ℕ, ◌<◌, ◌++◌, true, List, length, encode_utf8_all}
use Rattle.jp_strings.specs.Points.{points_from, is_text_from}

-- what is spelled from a position up to another, which is something, was appended to some bytes, and the text goes on there
pub record Unescapes (body : List ℕ) (at behind : ℕ) (before after : List ℕ) : Type 0 where
  pub some : length (points_from body behind) < length (points_from body at)
  pub bytes : after ++ encode_utf8_all (points_from body behind) ≡ before ++ encode_utf8_all (points_from body at)
  pub text : is_text_from body behind ≡ true
