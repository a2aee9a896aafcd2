-- Where texts stand among others, and how they are sorted.
use Rattle.std.specs.Prelude.{◌≡◌, ℕ, ◌-◌, ◌<◌, ◌≤◌, ◌/◌, leb, ◌&&◌, ◌+◌, ◌^◌, Bool, bytes_eq, List, [], map, take, drop, length, get_or, if◌then◌else◌}
use Rattle.std.specs.List.{list_any}
use Rattle.std.specs.List.Sorted.{IsPartitionPoint, IsSortedBy}
use Rattle.std.specs.Ordering.{is_lt, nat_cmp, ordering_then}
use Rattle.std.specs.Cmp.Lexicographic.{slice_cmp}
use Rattle.std.specs.declared.cmp.Ordering.{Ordering}
use Rattle.jp_listed.specs.Hashes.{hash_of}
use Rattle.jp_listed.specs.declared.slot.Slot.{Slot}

-- the bytes from one place to another, and none where they are not all there
abbrev pub text_at : List ℕ → Slot → List ℕ
text_at bytes slot = if leb slot.start slot.end && leb slot.end (length bytes) then take (slot.end - slot.start) (drop slot.start bytes) else []

-- the texts of some slots
abbrev pub texts_at : List ℕ → List Slot → List (List ℕ)
texts_at bytes slots = map (text_at bytes) slots

-- a text is one of these
abbrev pub has_text : List (List ℕ) → List ℕ → Bool
has_text texts text = list_any (λ kept. bytes_eq kept text) texts

-- a slot has the hash of its text
abbrev pub IsHashed : List ℕ → Slot → Type 0
IsHashed bytes slot = slot.hash ≡ hash_of (text_at bytes slot)

-- the order of a slot and a text: by the hashes, and then by the texts
abbrev pub order_with : List ℕ → (hash : ℕ) (text : List ℕ) → Slot → Ordering
order_with bytes hash text slot = ordering_then (nat_cmp slot.hash hash) (slice_cmp nat_cmp (text_at bytes slot) text)

-- the order of two slots
abbrev pub slot_order : List ℕ → Slot → Slot → Ordering
slot_order bytes slot other = order_with bytes other.hash (text_at bytes other) slot

-- no slot comes before the one in front of it
abbrev pub Ascend : List ℕ → List Slot → Type 0
Ascend bytes slots = IsSortedBy (λ slot other. is_lt (slot_order bytes slot other)) slots

-- a bucket of hashes of this width begins at a place among the slots: those before it belong to earlier ones, and the others
-- do not
pub record IsStart (width : ℕ) (slots : List Slot) (bucket start : ℕ) : Type 0 where
  pub within : start ≤ length slots
  pub cut : IsPartitionPoint (λ slot. slot.hash / width < bucket) (λ slot. bucket ≤ slot.hash / width) slots start

-- each bucket begins at its place
abbrev pub AreStarts : (width : ℕ) → List Slot → List ℕ → Type 0
AreStarts width slots starts = (bucket : ℕ) → bucket < length starts → IsStart width slots bucket (get_or starts bucket 0)

-- each hash has a bucket, and there is one place more
abbrev pub AreWhole : (width : ℕ) → List ℕ → Type 0
AreWhole width starts = (hash : ℕ) → hash < 2 ^ 64 → hash / width + 1 < length starts
