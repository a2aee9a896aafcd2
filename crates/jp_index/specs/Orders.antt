-- What the order of an index stands for.
use Rattle.std.specs.Prelude.{◌≡◌, ◌⊎◌, ℕ, ◌+◌, ◌<◌, ◌≤◌, max, true, List, Some, Vec, vec_len, vec_capacity}
use Rattle.std.specs.declared.alloc.Global.{Global}
use Rattle.std.specs.Option.{is_some}
use Rattle.jp_index.specs.Chunks.{lines_in}
use Rattle.jp_index.specs.declared.chunks.Order.{Order}

-- its lines
abbrev pub lines_of : Order → List ℕ
lines_of order = lines_in order.chunks.items

-- it takes one line more without allocating
pub record HasSpare (order : Order) : Type 0 where
  pub chunk : is_some order.spare ≡ true
  pub room : vec_len order.chunks < vec_capacity order.chunks

-- it took room for one chunk more at most, and for it in the list
pub record HasGrownByOne (old new : Order) : Type 0 where
  pub chunks : new.chunks.items ≡ old.chunks.items
  pub list : vec_capacity new.chunks ≤ max (vec_capacity old.chunks) (vec_len old.chunks + 1)
  pub chunk : (chunk : Vec ℕ Global) → new.spare ≡ Some chunk → (old.spare ≡ Some chunk) ⊎ (vec_capacity chunk ≡ 512)
