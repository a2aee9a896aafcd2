-- Where a body stands in a line.
use Rattle.std.specs.Prelude.{◌≡◌, ℕ, ◌+◌, ◌<◌, ◌≤◌, true, List, length, take, drop}
use Rattle.jp_lanes.specs.Search.{is_special}
use Rattle.jp_model.specs.Json.Places.{byte_at}

-- it stands there from a position on, and the line ends behind it, or a byte follows that does not stand for itself
pub record StandsWithin (line body : List ℕ) (from : ℕ) : Type 0 where
  pub inside : from + length body ≤ length line
  pub is : body ≡ take (length body) (drop from line)
  pub closes : from + length body < length line → is_special (byte_at line (from + length body)) ≡ true
