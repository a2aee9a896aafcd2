-- What is known of one line that is read block by block.
use Rattle.std.specs.Prelude.{◌≡◌, ℕ, List, length, None}
use Rattle.jp_model.specs.Json.Marks.{marks}
use Rattle.jp_masks.specs.Machine.{start, before}
use Rattle.jp_masks.specs.declared.block.Carry.{Carry}

-- the bytes up to a position were read, and these are their marks and what is known after them
pub record HasMarked (read positions : List ℕ) (known : Carry) (position : ℕ) : Type 0 where
  pub marked : positions ≡ marks read
  pub knows : known ≡ before None start read (length read)
  pub long : position ≡ length read
