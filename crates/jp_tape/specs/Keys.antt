-- The slots that names fall on by their bytes.
use Rattle.std.specs.Prelude.{◌≡◌, ◌<◌, ◌+◌, ◌-◌, ◌*◌, ◌^◌, ◌/◌, ◌%◌, ℕ, List, length, get_or, take, drop, cond, min, max, nat_le, Bool, false, ◌==◌}
use Rattle.std.specs.Int.{w32, from_le_bytes}
use Rattle.std.specs.List.{list_all}
use Rattle.jp_tape.specs.declared.builder.kept.KeptName.{KeptName}
use Rattle.jp_tape.specs.Names.{bytes_of, spelled_name}

-- the four bytes at a place as a number
unfoldable pub four_at : List ℕ → ℕ → ℕ
four_at bytes at = from_le_bytes w32 (take 4 (drop at bytes))

-- a number that depends on all bits of three numbers
unfoldable pub mixed : ℕ → ℕ → ℕ → ℕ
mixed first middle last = ((first * 0xD6E8FEB86659FD93 % 2 ^ 64 + middle) % 2 ^ 64 * 0xD6E8FEB86659FD93 % 2 ^ 64 + last) % 2 ^ 64 * 0xD6E8FEB86659FD93 % 2 ^ 64

-- the key of a name: of its first, middle and last four bytes, or of its first, middle and last byte where it is shorter
unfoldable pub key_of : List ℕ → ℕ
key_of name =
    cond (nat_le 4 (length name))
    (mixed (four_at name 0) (four_at name ((length name - 4) / 2)) (four_at name (length name - 4)))
    (mixed (get_or name 0 0) (get_or name (length name / 2) 0) (get_or name (length name - 1) 0))

-- which of `slots` slots a name falls on
unfoldable pub slot_of : (slots : ℕ) → List ℕ → ℕ
slot_of slots name = key_of name / 2 ^ 32 * slots / 2 ^ 32

-- that of a name of a line
abbrev pub slot_in : List ℕ → ℕ → KeptName → ℕ
slot_in line slots name = slot_of slots (bytes_of line name)

-- how many slots there are for some names: one where a name has an escape
abbrev pub slot_count : List KeptName → ℕ
slot_count names = cond (list_all (λ (n : KeptName). n.is_plain) names) (max (16 * min (length names) (2 ^ 28)) 256) 1

-- how often a slot was hit, after one more hit; 2 stands for more than once
abbrev pub hit_again : ℕ → ℕ
hit_again hits = cond (hits == 0) 1 2

-- a name shares its slot with another
abbrev pub shares_slot : (KeptName → ℕ) → List ℕ → KeptName → Bool
shares_slot slot hits name = get_or hits (slot name) 0 == 2

-- the first names have hit their slots, and those that share one more than once
pub record AreHit (slot : KeptName → ℕ) (names : List KeptName) (count : ℕ) (hits : List ℕ) : Type 0 where
  pub once : (k : ℕ) (n : KeptName) → k < count → 0 < get_or hits (slot (get_or names k n)) 0
  pub twice : (j k : ℕ) (n : KeptName) → j < k → k < count → slot (get_or names j n) ≡ slot (get_or names k n) → get_or hits (slot (get_or names k n)) 0 ≡ 2

-- none of the first names shares its slot
abbrev pub AreAlone : (KeptName → ℕ) → List KeptName → ℕ → List ℕ → Type 0
AreAlone slot names count hits = (k : ℕ) (n : KeptName) → k < count → shares_slot slot hits (get_or names k n) ≡ false

-- names that spell the same have one slot
abbrev pub FallByText : List ℕ → List KeptName → (KeptName → ℕ) → Type 0
FallByText line names slot = (j k : ℕ) (n : KeptName) → j < length names → k < length names → spelled_name line (get_or names j n) ≡ spelled_name line (get_or names k n) → slot (get_or names j n) ≡ slot (get_or names k n)
