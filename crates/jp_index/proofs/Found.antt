-- The lines that an index finds, and those that it has.
use Rattle.std.proofs.Common.{◌≡◌, ◌∙◌, ◌↔◌, ℕ, zero, suc, ◌+◌, ◌-◌, ◌^◌, ◌<◌, ◌≤◌, ◌==◌, Bool, true, false, cond, List, [], ◌∷◌, ◌++◌, length, map, get_or, set, drop, Option, Some, None, refl, sym, ap, ap₂, subst, arith, length-append, inl, inr, Equal, if◌then◌else◌}
use Rattle.std.specs.Prelude.{All, Contains, filter}
use Rattle.std.specs.List.{AllPairs}
use Rattle.std.specs.List.Sorted.{IsPermutation, IsSorted, IsStrictlyIncreasing}
use Rattle.std.specs.Cmp.Lexicographic.{options_total}
use Rattle.std.specs.Option.{is_some, option_cmp}
use Rattle.std.specs.Ordering.{nat_cmp}
use Rattle.std.proofs.lemmas.Bool.{cases_lt}
use Rattle.std.proofs.lemmas.Cmp.{tied_itself}
use Rattle.std.proofs.lemmas.List.{length-map, map-append, get_or-set_other, get_or-set_same, get_or_append_left, get_or_default, get_or_past}
use Rattle.std.proofs.lemmas.List.Elements.{All-nil, All-cons, All-head, All-tail, All-map}
use Rattle.std.proofs.lemmas.List.Kept.{AllPairs-cons, AllPairs-filter}
use Rattle.std.proofs.lemmas.List.Sorted.{Contains-permutation, IsPermutation-sym}
use Rattle.jp_model.specs.Json.Tree.{Value}
use Rattle.jp_model.specs.Meaning.Compare.{compared}
use Rattle.jp_model.specs.Query.Syntax.{CompareOp, not_equal}
use Rattle.jp_model.specs.Steps.{Step}
use Rattle.jp_values.specs.Keys.{IsKeyOf, key_order}
use Rattle.jp_values.specs.KeyLaws.{keys_total}
use Rattle.jp_values.specs.declared.key.Key.{Key}
use Rattle.jp_index.specs.ByKey.{Ascend, AreByKey, but}
use Rattle.jp_model.specs.Numbered.{numbers_where}
use Rattle.jp_index.specs.Cells.{cell_key, key_at}
use Rattle.jp_index.specs.Edges.{is_between}
use Rattle.jp_index.specs.Entries.{Entry, entry_value, lines_where, entries_at}
use Rattle.jp_index.specs.Indexes.{IsKeyFor, CellIs, CellsAre}
use Rattle.jp_index.specs.declared.slot.Slot.{Slot}
use Rattle.jp_index.proofs.Ascending.{Below, first_of_pairs, rest_of_pairs, same_rising}
use Rattle.jp_index.proofs.ByKey.{same_or_not}
use Rattle.jp_index.proofs.Cells.{cell_at, none_below, none_above}
use Rattle.jp_index.proofs.Edges.{between_is}
use Rattle.jp_index.proofs.Numbered.{numbers_few}
use Rattle.jp_index.proofs.Numbers.{numbers_rise, keyed_passes, passes_keyed, sorted_rise}
use Rattle.jp_index.proofs.Taken.{where-append, where_passes, where_fails, none_fails}

one_or_none : (b : Bool) (n : ℕ) → n ≡ cond b 1 0 → n ≤ 1
one_or_none true n e = omega arith
one_or_none false n e = omega arith

-- ---- the lines whose values compare so

between_for : (op : CompareOp) (key : Key) (v : Value) → IsKeyOf key v → (op ≡ not_equal → ⊥) → (k : Option Key) (x : Value) → IsKeyFor k x → is_between op k key ≡ compared op (Some x) (Some v)
between_for op key v g n None x h = none_fails x key v op h g n
between_for op key v g n (Some k) x h = between_is k key x v h g op n

one_cell : (b : Bool) (n : ℕ) (here rest : List ℕ) → (b ≡ true → here ≡ n ∷ []) → (b ≡ false → here ≡ []) → here ++ rest ≡ (if b then n ∷ rest else rest)
one_cell true n here rest f g = ap (λ l. l ++ rest) (f refl)
one_cell false n here rest f g = ap (λ l. l ++ rest) (g refl)

module _ (path : List Step) where
  cell_where : (op : CompareOp) (key : Key) (v : Value) → IsKeyOf key v → (op ≡ not_equal → ⊥) → (n : ℕ) (c : Option Slot) (here : List Entry) (rest : List ℕ) → CellIs path n c here
      → lines_where op v here ++ rest ≡ (if is_between op (cell_key c) key then n ∷ rest else rest)
  cell_where op key v g m n None here rest h = ap (λ es. lines_where op v es ++ rest) h
  cell_where op key v g m n (Some slot) here rest h =
      let b = is_between op slot.key key in
      one_cell b n (lines_where op v here) rest
      (where_passes path n slot here op v b h (between_for op key v g m slot.key)) (where_fails path n slot here op v b h (between_for op key v g m slot.key))

  pub where_is : (op : CompareOp) (key : Key) (v : Value) → IsKeyOf key v → (op ≡ not_equal → ⊥) → (n : ℕ) (cs : List (Option Slot)) (es : List Entry) → CellsAre path n cs es
      → lines_where op v es ≡ numbers_where (λ c. is_between op (cell_key c) key) n cs
  unfolding CellsAre
  where_is op key v g m n [] es h = ap (lines_where op v) h
  where_is op key v g m n (c ∷ cs) es h =
      ap (lines_where op v) h.2 ∙ (where-append op v h.0 h.1 ∙ (ap (λ l. lines_where op v h.0 ++ l) (where_is op key v g m (n + 1) cs h.1 h.4) ∙ cell_where op key v g m n c h.0 _ h.3))

  -- ---- all lines of the index

  cell_line : (n : ℕ) (c : Option Slot) (here : List Entry) (rest : List ℕ) → CellIs path n c here → map (λ (e : Entry). e.line) here ++ rest ≡ (if is_some c then n ∷ rest else rest)
  cell_line n None here rest h = ap (λ es. map (λ (e : Entry). e.line) es ++ rest) h
  cell_line n (Some slot) here rest h = ap (λ es. map (λ (e : Entry). e.line) es ++ rest) h.1 ∙ ap (λ k. k ∷ rest) h.2.line_is

  pub lines_are : (n : ℕ) (cs : List (Option Slot)) (es : List Entry) → CellsAre path n cs es → map (λ (e : Entry). e.line) es ≡ numbers_where is_some n cs
  unfolding CellsAre
  lines_are n [] es h = ap (map (λ (e : Entry). e.line)) h
  lines_are n (c ∷ cs) es h =
      ap (map (λ (e : Entry). e.line)) h.2 ∙ (map-append (λ (e : Entry). e.line) h.0 h.1 ∙ (ap (λ l. map (λ (e : Entry). e.line) h.0 ++ l) (lines_are (n + 1) cs h.1 h.4) ∙ cell_line n c h.0 _ h.3))

  cell_count : (n : ℕ) (c : Option Slot) (here : List Entry) → CellIs path n c here → length here ≡ cond (is_some c) 1 0
  cell_count n None here h = ap length h
  cell_count n (Some slot) here h = ap length h.1

  -- how many they are, by their numbers
  pub count_is : (cs : List (Option Slot)) (es : List Entry) (lines : List ℕ) (count : ℕ) → CellsAre path 1 cs es → lines ≡ numbers_where is_some 1 cs → count ≡ length lines → count ≡ length es
  count_is cs es lines count h e c = c ∙ (ap length (e ∙ sym (lines_are 1 cs es h)) ∙ length-map es (λ (e : Entry). e.line))

  -- a line has one entry at most
  cell_one : (m : ℕ) (c : Option Slot) (here : List Entry) → CellIs path m c here → length here ≤ 1
  cell_one m c here h = let e = cell_count m c here h in one_or_none (is_some c) (length here) e

  pub one_entry : (cs : List (Option Slot)) (es : List Entry) (m : ℕ) → CellsAre path 1 cs es → length (entries_at m es) ≤ 1
  one_entry cs es zero h = let e : length (entries_at zero es) ≡ 0 = ap length (none_below path cs es zero h refl) in omega arith
  one_entry cs es (suc i) h =
      elim (cases_lt i (length cs)) [
        | inl low ↦ cell_one (suc i) (get_or cs i None) (entries_at (suc i) es) (cell_at path 1 cs es i (suc i) None h low (omega arith))
        | inr high ↦ let e : length (entries_at (suc i) es) ≡ 0 = ap length (none_above path cs es (suc i) h (omega arith)) in omega arith
      ]

between_some : (op : CompareOp) (key : Key) (k : Option Key) → is_between op k key ≡ true → is_some k ≡ true
between_some op key None e = absurd (cc)
between_some op key (Some k) e = refl

-- a run of lines in order of keys, sorted by their numbers
pub found : (path : List Step) (op : CompareOp) (key : Key) (v : Value) (cs : List (Option Slot)) (es : List Entry) (by_key run lines : List ℕ) → CellsAre path 1 cs es → IsKeyOf key v → (op ≡ not_equal → ⊥)
    → AreByKey (key_at cs) by_key → Ascend (key_at cs) run → ((a : ℕ) → Contains run a ↔ (Contains by_key a × (is_between op (key_at cs a) key ≡ true)))
    → IsPermutation run lines → IsSorted nat_cmp lines → lines ≡ lines_where op v es
found path op key v cs es by_key run lines h g n order ascend members moved sorted =
    same_rising lines (numbers_where (λ c. is_between op (cell_key c) key) 1 cs) (sorted_rise (key_at cs) run lines ascend moved sorted) (numbers_rise (λ c. is_between op (cell_key c) key) 1 cs)
    (λ z a. passes_keyed (λ k. is_between op k key) refl cs z ((members z).0 (Contains-permutation lines run z (IsPermutation-sym run lines moved) a)).1)
    (λ z a.
    let between = keyed_passes (λ k. is_between op k key) refl cs z a in
    Contains-permutation run lines z moved ((members z).1 (order.are_all z (between_some op key (key_at cs z) between), between)))
    ∙ sym (where_is path op key v g n 1 cs es h)

-- ---- ascending lines

rising : (xs : List ℕ) → AllPairs Below xs → IsStrictlyIncreasing xs
rising xs h k l = h k (k + 1) 0 (omega arith) l

pub lines_ascend : (path : List Step) (cs : List (Option Slot)) (es : List Entry) → CellsAre path 1 cs es → IsStrictlyIncreasing (map (λ (e : Entry). e.line) es)
lines_ascend path cs es h = subst IsStrictlyIncreasing (sym (lines_are path 1 cs es h)) (rising (numbers_where is_some 1 cs) (numbers_rise is_some 1 cs))

all_of_map : {X : Type 0} (P : ℕ → Type 0) (f : X → ℕ) (xs : List X) → All P (map f xs) → All (λ x. P (f x)) xs
all_of_map P f [] h = All-nil (λ x. P (f x))
all_of_map P f (x ∷ xs) h = All-cons (λ y. P (f y)) x xs (All-head P (f x) (map f xs) h) (all_of_map P f xs (All-tail P (f x) (map f xs) h))

module _ {X : Type 0} (f : X → ℕ) where
  abbrev Before : X → X → Type 0
  Before x y = f x < f y

  pairs_of_map : (xs : List X) → AllPairs Below (map f xs) → AllPairs Before xs
  pairs_of_map [] h = λ i j d l m. absurd (omega arith)
  pairs_of_map (x ∷ xs) h = AllPairs-cons Before x xs (all_of_map (Below (f x)) f xs (first_of_pairs Below (f x) (map f xs) h)) (pairs_of_map xs (rest_of_pairs Below (f x) (map f xs) h))

  map_of_pairs : (xs : List X) → AllPairs Before xs → AllPairs Below (map f xs)
  map_of_pairs [] h = λ i j d l m. absurd (omega arith)
  map_of_pairs (x ∷ xs) h = AllPairs-cons Below (f x) (map f xs) (All-map (Below (f x)) f xs (first_of_pairs Before x xs h)) (map_of_pairs xs (rest_of_pairs Before x xs h))

pub found_ascend : (path : List Step) (op : CompareOp) (v : Value) (cs : List (Option Slot)) (es : List Entry) → CellsAre path 1 cs es → IsStrictlyIncreasing (lines_where op v es)
found_ascend path op v cs es h =
    let line : Entry → ℕ = λ e. e.line in
    let test : Entry → Bool = λ e. compared op (Some (entry_value e)) (Some v) in
    let all : AllPairs Below (map line es) = subst (AllPairs Below) (sym (lines_are path 1 cs es h)) (numbers_rise is_some 1 cs) in
    rising (map line (filter test es)) (map_of_pairs line (filter test es) (AllPairs-filter (Before line) test es (pairs_of_map line es all)))

-- ---- edits of cells

past_more : (cs : List (Option Slot)) (i : ℕ) → length cs ≤ i → get_or (cs ++ None ∷ []) i None ≡ None
past_more [] zero l = refl
past_more [] (suc i) l = refl
past_more (c ∷ cs) zero l = absurd (omega arith)
past_more (c ∷ cs) (suc i) l = past_more cs i (omega arith)

pub key_more : (cs : List (Option Slot)) (a : ℕ) → key_at (cs ++ None ∷ []) a ≡ key_at cs a
key_more cs zero = refl
key_more cs (suc i) = ap cell_key (elim (cases_lt i (length cs)) [
  | inl low ↦ get_or_append_left cs (None ∷ []) None i low
  | inr high ↦ past_more cs i high ∙ sym (get_or_past cs i None high)
])

left_same : (b : Bool) → b ≡ true → (k l : Option Key) → (if b then None else k) ≡ (if b then None else l)
left_same true e k l = refl
left_same false e k l = absurd (cc)

pub but_set : (cs : List (Option Slot)) (line i : ℕ) (c : Option Slot) → line ≡ i + 1 → (a : ℕ) → but line (key_at (set cs i c)) a ≡ but line (key_at cs) a
but_set cs line i c e zero = refl
but_set cs line i c e (suc j) = elim (cases_lt j i) [
  | inl low ↦ ap (λ d. if suc j == line then None else cell_key d) (get_or-set_other cs i j c None (λ f. omega arith))
  | inr high ↦ elim (cases_lt i j) [
    | inl above ↦ ap (λ d. if suc j == line then None else cell_key d) (get_or-set_other cs i j c None (λ f. omega arith))
    | inr low ↦ let same : suc j ≡ line = omega arith in left_same (suc j == line) (search (arith, same)) _ _
  ]
]

-- a cell with the same key
pub same_set : (cs : List (Option Slot)) (i : ℕ) (c d : Option Slot) → i < length cs → d ≡ get_or cs i d → option_cmp key_order (cell_key d) (cell_key c) ≡ Equal
    → (a : ℕ) → option_cmp key_order (key_at cs a) (key_at (set cs i c) a) ≡ Equal
same_set cs i c d l e same zero = refl
same_set cs i c d l e same (suc j) = elim (same_or_not j i) [
  | inl is ↦
      ap₂ (λ (x y : Option Slot). option_cmp key_order (cell_key x) (cell_key y)) (ap (λ k. get_or cs k None) is ∙ (get_or_default cs i None d l ∙ sym e)) (ap (λ k. get_or (set cs i c) k None) is ∙ get_or-set_same cs i c None l)
      ∙ same
  | inr other ↦ ap (λ x. option_cmp key_order (key_at cs (suc j)) (cell_key x)) (get_or-set_other cs i j c None other) ∙ tied_itself (options_total keys_total) (key_at cs (suc j))
]

-- no more lines are kept than there are cells
pub count_few : (cs : List (Option Slot)) (lines : List ℕ) (count : ℕ) → length cs < 2 ^ 32 → lines ≡ numbers_where is_some 1 cs → count ≡ length lines → count < 2 ^ 32
count_few cs lines count few e c = let all = numbers_few is_some 1 cs in let same : count ≡ length (numbers_where is_some 1 cs) = c ∙ ap length e in omega arith

no_keys : (a : ℕ) → is_some (key_at [] a) ≡ true → ⊥
no_keys zero e = absurd (cc)
no_keys (suc i) e = absurd (cc)

pub none_by_key : (cs : List (Option Slot)) (lines : List ℕ) → cs ≡ [] → lines ≡ [] → AreByKey (key_at cs) lines
none_by_key cs lines e f =
    let none : AreByKey (key_at []) [] = record { ascend = λ i j d l m. absurd (omega arith); have_keys = λ k d l. absurd (omega arith); are_all = λ a t. absurd (no_keys a t) } in
    subst (λ ds. AreByKey (key_at ds) lines) (sym e) (subst (AreByKey (key_at [])) (sym f) none)
