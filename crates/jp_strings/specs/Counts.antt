-- How many code points stand between two positions of a text.
use Rattle.std.specs.Prelude.{◌≡◌, ℕ, ◌+◌, ◌<◌, true, List, length}
use Rattle.jp_strings.specs.Points.{points_from, is_text_from}

-- this number, and some more, are spelled from a position up to another, where the text goes on
pub record Counts (body : List ℕ) (at behind count : ℕ) : Type 0 where
  pub some : 0 < count
  pub points : length (points_from body at) ≡ count + length (points_from body behind)
  pub text : is_text_from body behind ≡ true
