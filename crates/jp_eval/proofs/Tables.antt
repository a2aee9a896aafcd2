-- What each slot asks, read by the slots before it.
use Rattle.std.proofs.Common.{◌≡◌, ◌∙◌, ◌+◌, ◌<◌, ◌≤◌, ℕ, zero, suc, List, [], ◌∷◌, ◌++◌, length, take, drop, sym, ap, ap₂, refl, arith, append_assoc, append-nil, length-append, Some, None}
use Rattle.std.specs.Prelude.{slice_get}
use Rattle.std.proofs.Math.Seq.{take-append_seam}
use Rattle.std.proofs.lemmas.List.{length-take-le, take_all}
use Rattle.std.proofs.lemmas.Option.{slice_get_past, slice_get_within}
use Rattle.jp_eval.specs.Programs.{Meant, Table, slot_view, table_behind, table_of}
use Rattle.jp_eval.specs.declared.program.Slot.{Slot}

-- slots after others
behind_more : (table : Table) (a b : List Slot) → table_behind table (a ++ b) ≡ table_behind (table_behind table a) b
behind_more table [] b = refl
behind_more table (slot ∷ a) b = behind_more (table ++ slot_view table slot ∷ []) a b

pub table_added : (slots : List Slot) (slot : Slot) → table_of (slots ++ slot ∷ []) ≡ table_of slots ++ slot_view (table_of slots) slot ∷ []
table_added slots slot = behind_more [] slots (slot ∷ [])

length_behind : (table : Table) (slots : List Slot) → length (table_behind table slots) ≡ length table + length slots
length_behind table [] = let e : length table ≡ length table + 0 = omega arith in e
length_behind table (slot ∷ slots) =
    let others = length_behind (table ++ slot_view table slot ∷ []) slots in
    let more = length-append table (slot_view table slot ∷ []) in
    omega (arith, others, more)

pub length_table : (slots : List Slot) → length (table_of slots) ≡ length slots
length_table slots = let size = length_behind [] slots in omega (arith, size)

-- the table that slots are put after stands at the front
grown : (table : Table) (slots : List Slot) → (more : Table) × (table_behind table slots ≡ table ++ more)
grown table [] = ([], sym (append-nil table))
grown table (slot ∷ slots) =
    let meant : Meant = slot_view table slot in
    let others = grown (table ++ meant ∷ []) slots in
    (meant ∷ others.0, others.1 ∙ append_assoc table (meant ∷ []) others.0)

-- an item, between those before it and those after
item_between : {A : Type 0} (l : List A) (i : ℕ) (x : A) → slice_get l i ≡ Some x → l ≡ (take i l ++ x ∷ []) ++ drop (suc i) l
item_between [] i x e = absurd (cc)
item_between (y ∷ l) zero x e = let same : y ≡ x = cc in ap (λ z. z ∷ l) same
item_between (y ∷ l) (suc i) x e = ap (λ m. y ∷ m) (item_between l i x e)

-- what stands after a list of this length
pub get_behind : {A : Type 0} (l : List A) (x : A) (more : List A) → slice_get ((l ++ x ∷ []) ++ more) (length l) ≡ Some x
get_behind [] x more = refl
get_behind (y ∷ l) x more = get_behind l x more

-- in the table of some slots, one after the first of them, and those before it
meant_behind : (before : List Slot) (slot : Slot) (others : List Slot) → (slice_get (table_of ((before ++ slot ∷ []) ++ others)) (length before) ≡ Some (slot_view (table_of before) slot)) × (take (length before) (table_of ((before ++ slot ∷ []) ++ others)) ≡ table_of before)
meant_behind before slot others =
    let front : Table = table_of before in
    let meant : Meant = slot_view front slot in
    let size : length before ≡ length front = sym (length_table before) in
    let more = grown (front ++ meant ∷ []) others in
    let all : table_of ((before ++ slot ∷ []) ++ others) ≡ (front ++ meant ∷ []) ++ more.0 =
    behind_more [] (before ++ slot ∷ []) others ∙ (ap (λ (t : Table). table_behind t others) (table_added before slot) ∙ more.1) in (
      ap₂ slice_get all size ∙ get_behind front meant more.0,
      ap₂ take size (all ∙ append_assoc front (meant ∷ []) more.0) ∙ take-append_seam front (meant ∷ more.0),
    )

-- the slot at a position, read by those before it
pub slot_found : (slots : List Slot) (position : ℕ) (slot : Slot) → slice_get slots position ≡ Some slot → slice_get (table_of slots) position ≡ Some (slot_view (take position (table_of slots)) slot)
slot_found slots position slot e =
    let before : List Slot = take position slots in
    let others : List Slot = drop (suc position) slots in
    let within = slice_get_within slots position slot e in
    let size : length before ≡ position = length-take-le position slots (omega (arith, within)) in
    let all : slots ≡ (before ++ slot ∷ []) ++ others = item_between slots position slot e in
    let there = meant_behind before slot others in
    let front : take position (table_of slots) ≡ table_of before = ap₂ (λ (k : ℕ) (l : List Slot). take k (table_of l)) (sym size) all ∙ there.1 in
    ap₂ (λ (k : ℕ) (l : List Slot). slice_get (table_of l) k) (sym size) all ∙ (there.0 ∙ ap (λ (t : Table). Some (slot_view t slot)) (sym front))

pub no_slot : (slots : List Slot) (position : ℕ) → length slots ≤ position → slice_get (table_of slots) position ≡ None
no_slot slots position h = let size = length_table slots in slice_get_past (table_of slots) position (omega (arith, h, size))

-- what stands in a part of a list
pub get_in_part : {A : Type 0} (l : List A) (known position : ℕ) → position < known → slice_get (take known l) position ≡ slice_get l position
get_in_part l zero position h = absurd (omega (arith, h))
get_in_part [] (suc known) position h = refl
get_in_part (x ∷ l) (suc known) zero h = refl
get_in_part (x ∷ l) (suc known) (suc position) h = get_in_part l known position (omega (arith, h))

-- all are known
pub all_known : (slots : List Slot) (known : ℕ) → known ≡ length slots → take known (table_of slots) ≡ table_of slots
all_known slots known e = let size = length_table slots in take_all known (table_of slots) (omega (arith, e, size))
