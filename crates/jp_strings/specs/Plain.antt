-- Bytes that stand for themselves.
use Rattle.std.specs.Prelude.{◌≡◌, ℕ, ◌<◌, ◌≤◌, Bool, false, ◌||◌, nat_lt, nat_le, List}
use Rattle.jp_lanes.specs.Search.{is_special}
use Rattle.jp_model.specs.Json.Places.{byte_at}

-- no special byte stands from a position up to another, so that each character there stands for itself
abbrev pub ArePlain : List ℕ → ℕ → ℕ → Type 0
ArePlain body i j = (k : ℕ) → i ≤ k → k < j → is_special (byte_at body k) ≡ false

-- a byte that begins a character of UTF-8, and goes on with none
abbrev pub begins_character : ℕ → Bool
begins_character byte = nat_lt byte 0x80 || nat_le 0xC0 byte
