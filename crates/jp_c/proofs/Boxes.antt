-- What the walks of a box and of its parts share: both are a pointer and an allocator, and own the same.
use seplogic.Ra.Ura.{Ura}
use base.Fml.{Fml, Lft, ftrue, flft}
use contract.BorrowLft.{◌⊑◌}
use contract.Monad.{fact}
use base.Fml.{Share}
use types.Kit.{Item, ‵, raw, ◌⊛◌}
use denote.RattleType.{RattleType}
use denote.RawPtr.{Ptr}
use Rattle.core.proofs.alloc.Calls.{token}
use Rattle.std_alloc.specs.Box.Ownership.{box_owns}
use Rattle.std_alloc.proofs.BoxSteps.Form.{Bx, D, R, P}
use Rattle.jp_c.specs.contracts.parts.Parts as parts

module _ (E : Bx) where
  -- the parts of a box at these types
  abbrev pub PartsRow : RattleType
  PartsRow = parts.the_row (R E) (P E) E.al.g

  -- they are the same three things as the box has
  abbrev pub as_box : PartsRow.Denot → D E
  as_box p = record { ptr = p.ptr; alloc = p.alloc; value = p.value }

  abbrev pub as_parts : D E → PartsRow.Denot
  as_parts b = record { ptr = b.ptr; alloc = b.alloc; value = b.value }

  -- and own the value at the pointer, with the right to free its block
  abbrev pub Owned : E.al.row.Denot → Ptr → E.row.Denot → Fml
  Owned alloc at x = box_owns (token E.al alloc) (R E) at x

  module _ {M : Type 1} (𝓤 : Ura M) where
    -- the lifetimes of the two types are alive
    abbrev pub tokens : (value alloc : Lft) → (share other : Share) → Item 𝓤
    tokens value alloc share other = ‵ (flft value share) ⊛ ‵ (flft alloc other) ⊛ ‵ ftrue

    -- and no longer than the types live
    abbrev pub lives : (value alloc : Lft) → Item 𝓤
    lives value alloc = raw (fact 𝓤 (value ⊑ E.row.lives)) ⊛ raw (fact 𝓤 (alloc ⊑ E.al.row.lives)) ⊛ ‵ ftrue
