-- Why bytes are no text of a string.
use Rattle.std.specs.Prelude.{◌≡◌, ℕ, true, List, length}
use Rattle.jp_model.specs.Json.Strings.{SpellsBody, has_lone_surrogate}
use Rattle.jp_strings.specs.declared.fault.StringFault.{StringFault}
use Rattle.jp_strings.specs.declared.fault.StringFault.TheVariants.{Shape, Surrogate}

-- the bytes are no body; or they are one, and half of a pair stands alone in it (RFC 8259, section 8.2)
abbrev pub HasFault : List ℕ → StringFault → Type 0
HasFault body Shape = (points : List ℕ) → SpellsBody body 0 (length body) points → ⊥
HasFault body Surrogate = (points : List ℕ) × SpellsBody body 0 (length body) points × (has_lone_surrogate points ≡ true)
