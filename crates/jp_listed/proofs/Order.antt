-- Slots in order: what is found among them, and where their buckets begin.
use Rattle.std.proofs.Common.{◌≡◌, ◌∙◌, ℕ, ◌+◌, ◌-◌, ◌<◌, ◌≤◌, ◌/◌, ◌*◌, ◌^◌, ◌≢◌, take, drop, List, [], ◌∷◌, ◌++◌, ◌||◌, length, get_or, Bool, true, false, refl, sym, ap, ap₂, subst, arith, All, Result, Ok, Err, is_ok, Ordering, inl, inr, bytes_eq}
use Rattle.std.specs.Cmp.{IsTotalOrder, then_total, on_total, nat_cmp_total}
use Rattle.std.specs.Cmp.Lexicographic.{slice_cmp, nat_list_cmp_total, texts_ties}
use Rattle.std.specs.List.{AllWithin, HoldsAt, list_any}
use Rattle.std.specs.List.Sorted.{IsSearchInRange, IsBinarySearchResult, IsNonDecreasingBy}
use Rattle.std.specs.Ordering.{is_lt, is_eq, nat_cmp, ordering_then, on, then_cmp}
use Rattle.std.specs.declared.cmp.Ordering.TheVariants.{Less, Equal, Greater}
use Rattle.std.proofs.lemmas.Bool.{cases_lt, false_from_ne_true}
use Rattle.std.proofs.lemmas.Bool.Decides.{nat_tests}
use Rattle.std.proofs.lemmas.List.{get_or_append_left, get_or_push, length-append, length-take, length-drop, get_or-take, get_or-drop, take-append-drop, drop-drop}
use Rattle.std.proofs.lemmas.Nat.{le-div, div_below}
use Rattle.std.proofs.Math.Nat.{div-mul-le_self, lt-div-mul-add}
use Rattle.std.proofs.lemmas.List.Folds.{list_any_none, list_any_at, list_any-append}
use Rattle.std.proofs.lemmas.List.Sorted.{ranks_by, sorted_far, searchable_from_sorted}
use Rattle.std.proofs.lemmas.Slice.Eq.{bytes_eq-Decides}
use Rattle.jp_listed.specs.Hashes.{hash_of}
use Rattle.jp_listed.specs.Slots.{text_at, texts_at, has_text, IsHashed, order_with, slot_order, Ascend, IsStart, AreStarts, AreWhole}
use Rattle.jp_listed.specs.declared.slot.Slot.{Slot}

-- what slots are sorted by
abbrev pub key : List ℕ → Slot → ℕ × List ℕ
key bytes slot = (slot.hash, text_at bytes slot)

abbrev pub key_order : ℕ × List ℕ → ℕ × List ℕ → Ordering
key_order = then_cmp (on (λ k. k.0) nat_cmp) (on (λ k. k.1) (slice_cmp nat_cmp))

pub keys_total : IsTotalOrder key_order
keys_total = then_total (on_total (λ k. k.0) nat_cmp_total) (on_total (λ k. k.1) nat_list_cmp_total)

-- one of some slots has the text
pub any_at : (bytes : List ℕ) (slots : List Slot) (text : List ℕ) → has_text (texts_at bytes slots) text ≡ list_any (λ slot. bytes_eq (text_at bytes slot) text) slots
any_at bytes [] text = refl
any_at bytes (slot ∷ slots) text = ap (λ b. bytes_eq (text_at bytes slot) text || b) (any_at bytes slots text)

equal_numbers : (n : ℕ) → nat_cmp n n ≡ Equal
equal_numbers n = grind (arith, nat_tests)

-- a slot has the text where neither comes before the other
is_level : (o p : Ordering) → is_eq (ordering_then o p) ≡ true → is_eq p ≡ true
is_level Less p e = absurd (cc)
is_level Equal p e = e
is_level Greater p e = absurd (cc)

pub matches : (bytes : List ℕ) (slot : Slot) (hash : ℕ) (text : List ℕ) → IsHashed bytes slot → hash ≡ hash_of text
    → bytes_eq (text_at bytes slot) text ≡ is_eq (order_with bytes hash text slot)
matches bytes slot hash text hashed h = pick (bytes_eq (text_at bytes slot) text) refl (is_eq (order_with bytes hash text slot)) refl
  where
    ties : bytes_eq (text_at bytes slot) text ≡ is_eq (slice_cmp nat_cmp (text_at bytes slot) text)
    ties = texts_ties (text_at bytes slot) text

    pick : (a : Bool) → bytes_eq (text_at bytes slot) text ≡ a → (b : Bool) → is_eq (order_with bytes hash text slot) ≡ b → a ≡ b
    pick true e true f = refl
    pick false e false f = refl
    pick true e false f =
        let same : text_at bytes slot ≡ text = (bytes_eq-Decides (text_at bytes slot) text).0 e in
        let level : slot.hash ≡ hash = hashed ∙ ap hash_of same ∙ sym h in
        let first : nat_cmp slot.hash hash ≡ Equal = ap (λ n. nat_cmp n hash) level ∙ equal_numbers hash in
        let second : is_eq (slice_cmp nat_cmp (text_at bytes slot) text) ≡ true = sym ties ∙ e in
        sym (ap (λ o. is_eq (ordering_then o (slice_cmp nat_cmp (text_at bytes slot) text))) first ∙ second) ∙ f
    pick false e true f = sym e ∙ (ties ∙ is_level (nat_cmp slot.hash hash) (slice_cmp nat_cmp (text_at bytes slot) text) f)

-- what a search by halves finds
pub found : (bytes : List ℕ) (slots : List Slot) (hash : ℕ) (text : List ℕ) (r : Result ℕ ℕ) → Ascend bytes slots → All (IsHashed bytes) slots → hash ≡ hash_of text
    → IsSearchInRange r (length slots) → IsBinarySearchResult (order_with bytes hash text) slots r → is_ok r ≡ has_text (texts_at bytes slots) text
found bytes slots hash text (Ok i) up hashed h within at =
    let d : Slot = record { hash = 0; start = 0; end = 0 } in
    sym (any_at bytes slots text ∙ list_any_at (λ slot. bytes_eq (text_at bytes slot) text) slots i d within (matches bytes (get_or slots i d) hash text (hashed i d within) h ∙ ap is_eq (at d)))
found bytes slots hash text (Err i) up hashed h within at =
    let split = at (searchable_from_sorted keys_total (key bytes) slots (hash, text) up) in
    sym (any_at bytes slots text ∙ list_any_none (λ slot. bytes_eq (text_at bytes slot) text) slots (λ k d l.
    matches bytes (get_or slots k d) hash text (hashed k d l) h ∙ elim (cases_lt k i) [
      | inl low ↦ ap is_eq (split.0 k d (omega arith) low)
      | inr high ↦ ap is_eq (split.1 k d high l)
    ]))

-- ---- buckets

low_hash : (a b : ℕ × List ℕ) → is_lt (key_order b a) ≡ false → a.0 ≤ b.0
low_hash a b e = elim (cases_lt b.0 a.0) [
  | inl low ↦ absurd (less (nat_cmp b.0 a.0) (let f : nat_cmp b.0 a.0 ≡ Less = grind (arith, nat_tests, low) in f) (slice_cmp nat_cmp b.1 a.1) e)
  | inr high ↦ high
]
  where
    less : (o : Ordering) → o ≡ Less → (p : Ordering) → is_lt (ordering_then o p) ≡ false → ⊥
    less o is p f = absurd (cc)

-- the hashes of slots in order do not fall
pub rising : (bytes : List ℕ) (slots : List Slot) → Ascend bytes slots → IsNonDecreasingBy (λ slot. slot.hash) slots
rising bytes slots up i j d l m =
    low_hash (key bytes (get_or slots i d)) (key bytes (get_or slots j d)) (sorted_far (λ a b. is_lt (slot_order bytes a b)) (ranks_by keys_total (key bytes)) slots up i j d l m)

-- buckets do not fall along numbers
bucket_rises : (width a b : ℕ) → 0 < width → a ≤ b → a / width ≤ b / width
bucket_rises width a b wide le = le-div (a / width) b width wide (omega (arith, div-mul-le_self a width, le))

-- a bucket begins where the first slot is that belongs to no earlier one
pub start_here : (width : ℕ) (slots : List Slot) (bucket from first : ℕ) → 0 < width → IsNonDecreasingBy (λ slot. slot.hash) slots
    → AllWithin (λ slot. slot.hash / width < bucket) slots 0 from → AllWithin (λ slot. slot.hash / width < bucket) slots from first → first ≤ length slots
    → (first < length slots → HoldsAt (λ slot. bucket ≤ slot.hash / width) slots first) → IsStart width slots bucket first
start_here width slots bucket from first wide up before between within there = record {
  within = within;
  cut = (
    (λ k d low high. elim (cases_lt k from) [
      | inl lower ↦ before k d low lower
      | inr upper ↦ between k d upper high
    ]),
    (λ k d low high.
        let at : bucket ≤ (get_or slots first d).hash / width = there (omega arith) d in
        let rises = bucket_rises width (get_or slots first d).hash (get_or slots k d).hash wide (up first k d low high) in
        omega (arith, at, rises)),
  );
}

-- one more bucket begins at its place
pub more_starts : (width : ℕ) (slots : List Slot) (starts : List ℕ) (first : ℕ) → AreStarts width slots starts → IsStart width slots (length starts) first
    → AreStarts width slots (starts ++ first ∷ [])
more_starts width slots starts first are is bucket l = elim (cases_lt bucket (length starts)) [
  | inl low ↦ subst (IsStart width slots bucket) (sym (get_or_append_left starts (first ∷ []) 0 bucket low)) (are bucket low)
  | inr high ↦
      let same : length starts ≡ bucket = omega (arith, high, l, length-append starts (first ∷ [])) in
      subst (IsStart width slots bucket) (sym (get_or_push starts first 0 bucket same)) (subst (λ b. IsStart width slots b first) same is)
]

-- ---- the slots of a bucket

-- a bucket ends where the next begins
pub bucket_ends : (width : ℕ) (slots : List Slot) (bucket low high : ℕ) → IsStart width slots bucket low → IsStart width slots (bucket + 1) high → low ≤ high
bucket_ends width slots bucket low high first next = elim (cases_lt high low) [
  | inl less ↦
      let d : Slot = record { hash = 0; start = 0; end = 0 } in
      let a : (get_or slots high d).hash / width < bucket = first.cut.0 high d (omega arith) less in
      let b : bucket + 1 ≤ (get_or slots high d).hash / width = next.cut.1 high d (omega arith) (omega (arith, less, first.within)) in
      absurd (omega (arith, a, b))
  | inr more ↦ more
]

-- no slot of another bucket has a text of a hash
pub apart : (bytes : List ℕ) (slot : Slot) (width : ℕ) (text : List ℕ) → IsHashed bytes slot → slot.hash / width ≢ hash_of text / width → bytes_eq (text_at bytes slot) text ≡ false
apart bytes slot width text hashed other = false_from_ne_true _ (λ same. other (ap (λ h. h / width) (hashed ∙ ap hash_of ((bytes_eq-Decides (text_at bytes slot) text).0 same))))

-- the texts of a hash are those of its bucket
pub in_bucket : (bytes : List ℕ) (slots : List Slot) (width low high : ℕ) (text : List ℕ) → All (IsHashed bytes) slots
    → IsStart width slots (hash_of text / width) low → IsStart width slots (hash_of text / width + 1) high
    → has_text (texts_at bytes (take (high - low) (drop low slots))) text ≡ has_text (texts_at bytes slots) text
in_bucket bytes slots width low high text hashed first next =
    let p : Slot → Bool = λ slot. bytes_eq (text_at bytes slot) text in
    let before : list_any p (take low slots) ≡ false = list_any_none p (take low slots) (λ k d l.
    let m : k < low = omega (arith, length-take low slots, l) in
    ap p (get_or-take low slots k d m) ∙ apart bytes (get_or slots k d) width text (hashed k d (omega (arith, m, first.within))) (λ e. omega (arith, first.cut.0 k d (omega arith) m, e))) in
    let behind : list_any p (drop high slots) ≡ false = list_any_none p (drop high slots) (λ k d l.
    let m : high + k < length slots = omega (arith, length-drop high slots, l) in
    ap p (get_or-drop high slots k d) ∙ apart bytes (get_or slots (high + k) d) width text (hashed (high + k) d m) (λ e. omega (arith, next.cut.1 (high + k) d (omega arith) m, e))) in
    let ends : low ≤ high = bucket_ends width slots (hash_of text / width) low high first next in
    let rest : drop (high - low) (drop low slots) ≡ drop high slots = drop-drop (high - low) low slots ∙ ap (λ k. drop k slots) (let e : low + (high - low) ≡ high = omega (arith, ends) in e) in
    let parts : slots ≡ take low slots ++ (take (high - low) (drop low slots) ++ drop high slots) =
    sym (take-append-drop low slots) ∙ ap (λ l. take low slots ++ l) (sym (take-append-drop (high - low) (drop low slots)) ∙ ap (λ l. take (high - low) (drop low slots) ++ l) rest) in
    any_at bytes (take (high - low) (drop low slots)) text
    ∙ sym (any_at bytes slots text ∙ ap (list_any p) parts ∙ list_any-append p (take low slots) (take (high - low) (drop low slots) ++ drop high slots)
    ∙ ap₂ (λ a b. a || b) before (list_any-append p (take (high - low) (drop low slots)) (drop high slots) ∙ ap (λ b. list_any p (take (high - low) (drop low slots)) || b) behind)
    ∙ or_false (list_any p (take (high - low) (drop low slots))))
  where
    or_false : (b : Bool) → (false || (b || false)) ≡ b
    or_false true = refl
    or_false false = refl

-- ---- all hashes have a bucket

widened : (a b : ℕ) → a * b + b ≡ b * (a + 1)
widened a b = grind arith

pub all_whole : (width buckets : ℕ) (starts : List ℕ) → 0 < buckets → width ≡ (2 ^ 64 - 1) / buckets + 1 → length starts ≡ buckets + 1 → AreWhole width starts
all_whole width buckets starts some is count hash h =
    let much : 2 ^ 64 - 1 < (2 ^ 64 - 1) / buckets * buckets + buckets = lt-div-mul-add some in
    let all : (2 ^ 64 - 1) / buckets * buckets + buckets ≡ buckets * width = widened ((2 ^ 64 - 1) / buckets) buckets ∙ ap (λ w. buckets * w) (sym is) in
    let below : hash / width < buckets = div_below hash width buckets (omega (arith, is)) (omega (arith, much, all, h)) in
    omega (arith, below, count)
