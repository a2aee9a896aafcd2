-- Lines in chunks.
use Rattle.std.proofs.Common.{◌≡◌, ◌∙◌, ℕ, zero, suc, ◌+◌, ◌-◌, ◌<◌, ◌≤◌, ◌==◌, Bool, true, false, List, [], ◌∷◌, ◌++◌, length, get_or, set, take, drop, Option, refl, sym, ap, ap₂, subst, arith, append-nil, append_assoc, inl, inr, Ordering, Less, Equal, Greater}
use Rattle.std.specs.Prelude.{All, Contains, filter, insert, remove, Vec, vec_len}
use Rattle.std.specs.declared.alloc.Global.{Global}
use Rattle.std.specs.List.{AllPairs}
use Rattle.std.specs.List.Sorted.{IsPartitionedBy, IsPartitionPoint}
use Rattle.std.specs.Option.{is_some}
use Rattle.std.specs.Ordering.{is_le, is_lt, ordering_reverse}
use Rattle.std.proofs.lemmas.Bool.{cases_lt, cases_Bool, true≢false}
use Rattle.std.proofs.lemmas.Bool.Decides.{nat_tests}
use Rattle.std.proofs.lemmas.List.{get_or_default, get_or_append_left, get_or-append-add, length-append, take-append-drop, take_more, drop-drop}
use Rattle.std.proofs.lemmas.List.Concat.{flat_map-append}
use Rattle.std.proofs.lemmas.List.Edits.{insert-append_left, insert-append_right, remove-append_left, remove-append_right}
use Rattle.std.proofs.lemmas.List.Elements.{All-nil, All-append, All-tail, All-head, All-contains, Contains-get_or, Contains-append_left, Contains-append_right, Contains-append_cases, filter-append}
use Rattle.std.proofs.lemmas.List.Kept.{AllPairs-cons}
use Rattle.std.proofs.lemmas.Grind.{get_or-set_at}
use Rattle.jp_values.specs.declared.key.Key.{Key}
use Rattle.jp_index.specs.ByKey.{line_order, Ascend, AreByKey, IsPositionOf, but}
use Rattle.jp_index.specs.Chunks.{IsChunk, begins_by, chunk_at, lines_before, lines_behind, lines_in, with_chunk}
use Rattle.jp_index.proofs.Ascending.{behind_all, cross, pairs_left, pairs_right, partitioned}
use Rattle.jp_index.proofs.ByKey.{lines_total, never, apart, same_or_not, left_out, none_left_out, put_in, ascend_in}
use Rattle.jp_index.proofs.Runs.{between, none_in_front, none_behind}
use Rattle.jp_index.specs.Edges.{in_front, start_of, end_of}
use Rattle.jp_model.specs.Query.Syntax.{CompareOp}

abbrev pub Chunk : Type 0
Chunk = Vec ℕ Global

module _ {X : Type 0} (P : X → Type 0) where
  pub all_from : (xs : List X) → ((x : X) → Contains xs x → P x) → All P xs
  all_from xs f k d l = f (get_or xs k d) (Contains-get_or xs k d l)

-- ---- chunks one after another

pub cut : (chunks : List Chunk) (i : ℕ) → i < length chunks → lines_in chunks ≡ with_chunk chunks i (chunk_at chunks i)
cut [] i l = absurd (omega arith)
cut (x ∷ xs) zero l = refl
cut (x ∷ xs) (suc i) l = ap (λ t. x.items ++ t) (cut xs i (omega arith)) ∙ sym (append_assoc x.items (lines_in (take i xs)) (chunk_at xs i ++ lines_in (drop (suc i) xs)))

pub chunk_is : (chunks : List Chunk) (i : ℕ) (chunk : Chunk) → i < length chunks → chunk ≡ get_or chunks i chunk → chunk.items ≡ chunk_at chunks i
chunk_is [] i c l e = absurd (omega arith)
chunk_is (x ∷ xs) zero c l e = ap (λ (d : Chunk). d.items) e
chunk_is (x ∷ xs) (suc i) c l e = chunk_is xs i c (omega arith) e

pub cut_set : (chunks : List Chunk) (i : ℕ) (chunk : Chunk) → i < length chunks → lines_in (set chunks i chunk) ≡ with_chunk chunks i chunk.items
cut_set [] i chunk l = absurd (omega arith)
cut_set (x ∷ xs) zero chunk l = refl
cut_set (x ∷ xs) (suc i) chunk l = ap (λ t. x.items ++ t) (cut_set xs i chunk (omega arith)) ∙ sym (append_assoc x.items (lines_in (take i xs)) (chunk.items ++ lines_in (drop (suc i) xs)))

pub cut_removed : (chunks : List Chunk) (i : ℕ) (chunk : Chunk) → chunk.items ≡ [] → lines_in (remove (set chunks i chunk) i) ≡ with_chunk chunks i []
cut_removed [] zero chunk e = refl
cut_removed [] (suc i) chunk e = refl
cut_removed (x ∷ xs) zero chunk e = refl
cut_removed (x ∷ xs) (suc i) chunk e = ap (λ t. x.items ++ t) (cut_removed xs i chunk e) ∙ sym (append_assoc x.items (lines_in (take i xs)) (lines_in (drop (suc i) xs)))

split_at : (chunks : List Chunk) (i : ℕ) (lower upper : Chunk) → i < length chunks → lines_in (insert (set chunks i lower) (suc i) upper) ≡ with_chunk chunks i (lower.items ++ upper.items)
split_at [] i lower upper l = absurd (omega arith)
split_at (x ∷ xs) zero lower upper l = sym (append_assoc lower.items upper.items (lines_in xs))
split_at (x ∷ xs) (suc i) lower upper l = ap (λ t. x.items ++ t) (split_at xs i lower upper (omega arith)) ∙ sym (append_assoc x.items (lines_in (take i xs)) ((lower.items ++ upper.items) ++ lines_in (drop (suc i) xs)))

-- a chunk in two
pub cut_split : (chunks : List Chunk) (i : ℕ) (lower upper : Chunk) → i < length chunks → lines_in (insert (set chunks i lower) (i + 1) upper) ≡ with_chunk chunks i (lower.items ++ upper.items)
cut_split chunks i lower upper l = let e : i + 1 ≡ suc i = omega arith in ap (λ j. lines_in (insert (set chunks i lower) j upper)) e ∙ split_at chunks i lower upper l

pub in_two : (chunks : List Chunk) (n : ℕ) → lines_in chunks ≡ lines_in (take n chunks) ++ lines_in (drop n chunks)
in_two chunks n = ap lines_in (sym (take-append-drop n chunks)) ∙ flat_map-append (λ (c : Chunk). c.items) (take n chunks) (drop n chunks)

pub long : (chunk : Chunk) → vec_len chunk ≡ length chunk.items
long chunk = chunk.ok.0

pub long_list : (chunks : Vec Chunk Global) → vec_len chunks ≡ length chunks.items
long_list chunks = chunks.ok.0

take_nil : (n : ℕ) → take {A = ℕ} n [] ≡ []
take_nil zero = refl
take_nil (suc n) = refl

pub some_chunk : (chunks : Vec Chunk Global) → (vec_len chunks == 0) ≡ false → 1 ≤ length chunks.items
some_chunk chunks e = let n = long_list chunks in let m : 1 ≤ vec_len chunks = grind (arith, nat_tests) in omega arith

length_none : (lines : List ℕ) → length lines ≡ 0 → lines ≡ []
length_none [] e = refl
length_none (a ∷ rest) e = absurd (omega arith)

pub no_lines : (chunk : Chunk) → vec_len chunk ≡ 0 → chunk.items ≡ []
no_lines chunk e = length_none chunk.items (let n = long chunk in omega arith)

-- a chunk that was written and is empty
pub emptied : (chunks : List Chunk) (i : ℕ) (chunk found : Chunk) → i < length chunks → found ≡ get_or (set chunks i chunk) i found → (vec_len found == 0) ≡ true → chunk.items ≡ []
emptied chunks i chunk found l e t =
    let zero_is : vec_len found ≡ 0 = grind (arith, nat_tests) in
    ap (λ (c : Chunk). c.items) (sym (e ∙ get_or-set_at chunks i i chunk found refl l)) ∙ no_lines found zero_is

abbrev pub HasLine : Chunk → Type 0
HasLine chunk = 1 ≤ length chunk.items

pub with_lines : (chunks : List Chunk) → All IsChunk chunks → All HasLine chunks
with_lines chunks h k d l = let m = (h k d l).has_line in let n = long (get_or chunks k d) in omega arith

-- ---- where chunks begin

has_first : (lines : List ℕ) (d : ℕ) → 1 ≤ length lines → Contains lines (get_or lines 0 d)
has_first lines d l = Contains-get_or lines 0 d (omega arith)

begins_is : (test : ℕ → Bool) (lines : List ℕ) (d : ℕ) → 1 ≤ length lines → begins_by test lines ≡ test (get_or lines 0 d)
begins_is test [] d l = absurd (omega arith)
begins_is test (a ∷ rest) d l = refl

in_chunks : (chunks : List Chunk) (i : ℕ) (d : Chunk) (a : ℕ) → i < length chunks → Contains (get_or chunks i d).items a → Contains (lines_in chunks) a
in_chunks [] i d a l h = absurd (omega arith)
in_chunks (x ∷ xs) zero d a l h = Contains-append_left x.items (lines_in xs) a h
in_chunks (x ∷ xs) (suc i) d a l h = Contains-append_right x.items (lines_in xs) a (in_chunks xs i d a (omega arith) h)

-- a test that holds of what stands before a line of which it holds
module _ (R : ℕ → ℕ → Type 0) (test : ℕ → Bool) (falls : (a b : ℕ) → R a b → test b ≡ true → test a ≡ true) where
  abbrev Follows : Chunk → Chunk → Type 0
  Follows c d = begins_by test d.items ≡ true → begins_by test c.items ≡ true

  firsts_follow : (chunks : List Chunk) → AllPairs R (lines_in chunks) → All HasLine chunks → AllPairs Follows chunks
  firsts_follow [] h some = λ i j d l m. absurd (omega arith)
  firsts_follow (c ∷ cs) h some =
      let first : HasLine c = All-head HasLine c cs some in
      let rest : All HasLine cs = All-tail HasLine c cs some in
      AllPairs-cons Follows c cs
      (λ k d l e.
      let other : HasLine (get_or cs k d) = rest k d l in
      begins_is test c.items 0 first
      ∙ falls (get_or c.items 0 0) (get_or (get_or cs k d).items 0 0)
      (cross R c.items (lines_in cs) h (get_or c.items 0 0) (get_or (get_or cs k d).items 0 0) (has_first c.items 0 first) (in_chunks cs k d _ l (has_first (get_or cs k d).items 0 other)))
      (sym (begins_is test (get_or cs k d).items 0 other) ∙ e))
      (firsts_follow cs (pairs_right R c.items (lines_in cs) h) rest)

  pub chunks_parted : (chunks : List Chunk) → AllPairs R (lines_in chunks) → All HasLine chunks → IsPartitionedBy (λ (c : Chunk). begins_by test c.items) chunks
  chunks_parted chunks h some = partitioned Follows (λ (c : Chunk). begins_by test c.items) (λ x y f. f) chunks (firsts_follow chunks h some)

  rest_fails : (a : ℕ) (lines : List ℕ) → AllPairs R (a ∷ lines) → test a ≡ false → All (λ b. test b ≡ false) (a ∷ lines)
  rest_fails a lines h e k d l = elim (cases_Bool (test (get_or (a ∷ lines) k d))) [
    | inl holds ↦ elim (cases_lt 0 k) [
      | inl above ↦ absurd (true≢false (sym (falls a (get_or (a ∷ lines) k d) (h 0 k d above l) holds) ∙ e))
      | inr low ↦ let same : k ≡ 0 = omega arith in ap (λ j. test (get_or (a ∷ lines) j d)) same ∙ e
    ]
    | inr fails ↦ fails
  ]

  chunk_fails : (lines : List ℕ) → AllPairs R lines → begins_by test lines ≡ false → All (λ b. test b ≡ false) lines
  chunk_fails [] h e = All-nil (λ b. test b ≡ false)
  chunk_fails (a ∷ lines) h e = rest_fails a lines h e

  chunks_fail : (chunks : List Chunk) → AllPairs R (lines_in chunks) → All (λ (c : Chunk). begins_by test c.items ≡ false) chunks → All (λ b. test b ≡ false) (lines_in chunks)
  chunks_fail [] h e = All-nil (λ b. test b ≡ false)
  chunks_fail (c ∷ cs) h e =
      All-append (λ b. test b ≡ false) c.items (lines_in cs)
      (chunk_fails c.items (pairs_left R c.items (lines_in cs) h) (All-head (λ (d : Chunk). begins_by test d.items ≡ false) c cs e))
      (chunks_fail cs (pairs_right R c.items (lines_in cs) h) (All-tail (λ (d : Chunk). begins_by test d.items ≡ false) c cs e))

  abbrev pub Begin : List Chunk → ℕ → Type 0
  Begin chunks i = IsPartitionPoint (λ (c : Chunk). begins_by test c.items ≡ true) (λ (c : Chunk). begins_by test c.items ≡ false) chunks i

  -- no line passes after the chunks that begin so
  pub fails_behind : (chunks : List Chunk) → AllPairs R (lines_in chunks) → (i : ℕ) → Begin chunks i → (n : ℕ) → i ≤ n → All (λ b. test b ≡ false) (lines_in (drop n chunks))
  fails_behind chunks h i at n l =
      chunks_fail (drop n chunks) (pairs_right R (lines_in (take n chunks)) (lines_in (drop n chunks)) (subst (AllPairs R) (in_two chunks n) h))
      (behind_all (λ (c : Chunk). begins_by test c.items ≡ false) chunks n (λ k d low high. at.1 k d (omega arith) high))

  first_of : (d : Chunk) (chunks : List Chunk) → AllPairs R (lines_in chunks) → All HasLine chunks → (i : ℕ) → Begin chunks i → (n : ℕ) → n < i → n < length chunks
      → Contains (chunk_at chunks n) (get_or (chunk_at chunks n) 0 0) × (test (get_or (chunk_at chunks n) 0 0) ≡ true)
  first_of d chunks h some i at n l m =
      let same : (get_or chunks n d).items ≡ chunk_at chunks n = chunk_is chunks n (get_or chunks n d) m (get_or_default chunks n d (get_or chunks n d) m) in
      subst (λ ls. Contains ls (get_or ls 0 0) × (test (get_or ls 0 0) ≡ true)) same
      (has_first (get_or chunks n d).items 0 (some n d m), sym (begins_is test (get_or chunks n d).items 0 (some n d m)) ∙ at.0 n d (omega arith) l)

  front_of : (d : Chunk) (chunks : List Chunk) → AllPairs R (lines_in chunks) → All HasLine chunks → (i : ℕ) → Begin chunks i → i ≤ length chunks
      → (Q : ℕ → Type 0) → ((a b : ℕ) → R a b → test b ≡ true → Q a) → (n : ℕ) → n < i → All Q (lines_in (take n chunks))
  front_of d chunks h some i at most Q f n l =
      let m : n < length chunks = omega arith in
      let first = first_of d chunks h some i at n l m in
      let tail : List ℕ = chunk_at chunks n ++ lines_in (drop (suc n) chunks) in
      all_from Q (lines_in (take n chunks))
      (λ a k. f a (get_or (chunk_at chunks n) 0 0)
      (cross R (lines_in (take n chunks)) tail (subst (AllPairs R) (cut chunks n m) h) a (get_or (chunk_at chunks n) 0 0) k
      (Contains-append_left (chunk_at chunks n) (lines_in (drop (suc n) chunks)) (get_or (chunk_at chunks n) 0 0) first.0))
      first.1)

  -- each line in front of a chunk that begins so stands before its first line
  pub holds_in_front : (chunks : List Chunk) → AllPairs R (lines_in chunks) → All HasLine chunks → (i : ℕ) → Begin chunks i → i ≤ length chunks
      → (Q : ℕ → Type 0) → ((a b : ℕ) → R a b → test b ≡ true → Q a) → (n : ℕ) → n ≤ i - 1 → All Q (lines_in (take n chunks))
  holds_in_front chunks h some i at most Q f zero l = All-nil Q
  holds_in_front [] h some i at most Q f (suc n) l = All-nil Q
  holds_in_front (c ∷ cs) h some i at most Q f (suc n) l = front_of c (c ∷ cs) h some i at most Q f (suc n) (omega arith)

-- ---- one line put in or taken out

le_less : (o : Ordering) → is_le o ≡ true → (o ≡ Equal → ⊥) → o ≡ Less
le_less Less e n = refl
le_less Equal e n = absurd (n refl)
le_less Greater e n = absurd (cc)

not_le_turned : (o p : Ordering) → o ≡ ordering_reverse p → is_le o ≡ false → p ≡ Less
not_le_turned o Less e f = refl
not_le_turned o Equal e f = let g : is_le o ≡ true = ap is_le e in absurd (cc)
not_le_turned o Greater e f = let g : is_le o ≡ true = ap is_le e in absurd (cc)

turned_fails : (o p : Ordering) → o ≡ ordering_reverse p → p ≡ Less → is_lt o ≡ false
turned_fails o p e f = ap is_lt (e ∙ ap ordering_reverse f)

past_left : (xs ys : List ℕ) (j d : ℕ) → length xs ≤ j → get_or (xs ++ ys) j d ≡ get_or ys (j - length xs) d
past_left xs ys j d l = let e : length xs + (j - length xs) ≡ j = omega arith in ap (λ k. get_or (xs ++ ys) k d) (sym e) ∙ get_or-append-add xs ys (j - length xs) d

module _ (keys : ℕ → Option Key) (line : ℕ) where
  at_or_before : (a b : ℕ) → line_order keys a b ≡ Less → is_le (line_order keys b line) ≡ true → line_order keys a line ≡ Less
  at_or_before a b e f = elim (same_or_not b line) [
    | inl same ↦ subst (λ c. line_order keys a c ≡ Less) same e
    | inr other ↦ (lines_total keys).trans a b line e (le_less (line_order keys b line) f (apart keys b line other))
  ]

  pub le_falls : (a b : ℕ) → line_order keys a b ≡ Less → is_le (line_order keys b line) ≡ true → is_le (line_order keys a line) ≡ true
  le_falls a b e f = ap is_le (at_or_before a b e f)

  pub all_before : (chunks : List Chunk) → Ascend keys (lines_in chunks) → All HasLine chunks → (i : ℕ) → Begin (λ a b. line_order keys a b ≡ Less) (λ a. is_le (line_order keys a line)) le_falls chunks i → i ≤ length chunks
      → All (λ a. line_order keys a line ≡ Less) (lines_before chunks (i - 1))
  all_before chunks h some i at most = holds_in_front (λ a b. line_order keys a b ≡ Less) (λ a. is_le (line_order keys a line)) le_falls chunks h some i at most (λ a. line_order keys a line ≡ Less) at_or_before (i - 1) (omega arith)

  pub all_behind : (chunks : List Chunk) → Ascend keys (lines_in chunks) → (i : ℕ) → Begin (λ a b. line_order keys a b ≡ Less) (λ a. is_le (line_order keys a line)) le_falls chunks i
      → All (λ a. line_order keys line a ≡ Less) (lines_behind chunks (i - 1))
  all_behind chunks h i at k d l = not_le_turned (line_order keys _ line) (line_order keys line _) ((lines_total keys).antisymm _ line)
      (fails_behind (λ a b. line_order keys a b ≡ Less) (λ a. is_le (line_order keys a line)) le_falls chunks h i at (suc (i - 1)) (omega arith) k d l)

module _ (keys : ℕ → Option Key) (line : ℕ) (A B C : List ℕ) (before : All (λ a. line_order keys a line ≡ Less) A) (behind : All (λ a. line_order keys line a ≡ Less) C) where
  -- it stands in the chunk, or nowhere
  not_around : (Contains B line → ⊥) → Contains (A ++ (B ++ C)) line → ⊥
  not_around n h = elim (Contains-append_cases A (B ++ C) line h) [
    | inl there ↦ never keys line (All-contains (λ a. line_order keys a line ≡ Less) A line before there)
    | inr rest ↦ elim (Contains-append_cases B C line rest) [
      | inl here ↦ n here
      | inr there ↦ never keys line (All-contains (λ a. line_order keys line a ≡ Less) C line behind there)
    ]
  ]

  none_taken : AreByKey keys (A ++ (B ++ C)) → (Contains B line → ⊥) → AreByKey (but line keys) (A ++ (B ++ C))
  none_taken h n = none_left_out keys line (A ++ (B ++ C)) h (not_around n)

  one_taken : (i : ℕ) → AreByKey keys (A ++ (B ++ C)) → i < length B → line ≡ get_or B i line → AreByKey (but line keys) (A ++ (remove B i ++ C))
  one_taken i h l e =
      let n = length-append A (B ++ C) in
      let m = length-append B C in
      let at : line ≡ get_or (A ++ (B ++ C)) (length A + i) line = e ∙ sym (get_or-append-add A (B ++ C) i line ∙ get_or_append_left B C line i l) in
      let k : length A + i - length A ≡ i = omega arith in
      let moved : remove (A ++ (B ++ C)) (length A + i) ≡ A ++ (remove B i ++ C) =
      remove-append_right A (B ++ C) (length A) (length A + i) refl (omega arith) ∙ ap (λ j. A ++ remove (B ++ C) j) k ∙ ap (λ t. A ++ t) (remove-append_left B C i l) in
      subst (AreByKey (but line keys)) moved (left_out keys line (A ++ (B ++ C)) (length A + i) h (omega arith) at)

  one_put : (i : ℕ) → AreByKey (but line keys) (A ++ (B ++ C)) → is_some (keys line) ≡ true → i ≤ length B → IsPositionOf keys line B i → AreByKey keys (A ++ (insert B i line ++ C))
  one_put i h some l at =
      let n = length-append A (B ++ C) in
      let m = length-append B C in
      let k : length A + i - length A ≡ i = omega arith in
      let moved : insert (A ++ (B ++ C)) (length A + i) line ≡ A ++ (insert B i line ++ C) =
      insert-append_right A (B ++ C) (length A) (length A + i) line refl (omega arith) ∙ ap (λ j. A ++ insert (B ++ C) j line) k ∙ ap (λ t. A ++ t) (insert-append_left B C i line l) in
      subst (AreByKey keys) moved
      (put_in keys line (A ++ (B ++ C)) (length A + i) h some (omega arith) (
        λ j d low high. elim (cases_lt j (length A)) [
          | inl left ↦ ap (λ a. is_lt (line_order keys a line)) (get_or_append_left A (B ++ C) d j left) ∙ ap is_lt (before j d left)
          | inr right ↦ ap (λ a. is_lt (line_order keys a line)) (past_left A (B ++ C) j d right ∙ get_or_append_left B C d (j - length A) (omega arith)) ∙ at.0 (j - length A) d (omega arith) (omega arith)
        ],
        λ j d low high. elim (cases_lt (j - length A) (length B)) [
          | inl left ↦ ap (λ a. is_lt (line_order keys a line)) (past_left A (B ++ C) j d (omega arith) ∙ get_or_append_left B C d (j - length A) left) ∙ at.1 (j - length A) d (omega arith) left
          | inr right ↦ ap (λ a. is_lt (line_order keys a line)) (past_left A (B ++ C) j d (omega arith) ∙ past_left B C (j - length A) d right)
              ∙ turned_fails (line_order keys _ line) (line_order keys line _) ((lines_total keys).antisymm _ line) (behind (j - length A - length B) d (omega arith))
        ],
      ))

pub chunk_ascends : (keys : ℕ → Option Key) (chunks : List Chunk) (i : ℕ) → i < length chunks → Ascend keys (lines_in chunks) → Ascend keys (chunk_at chunks i)
chunk_ascends keys chunks i l h =
    let rest : List ℕ = chunk_at chunks i ++ lines_behind chunks i in
    pairs_left (λ a b. line_order keys a b ≡ Less) (chunk_at chunks i) (lines_behind chunks i)
    (pairs_right (λ a b. line_order keys a b ≡ Less) (lines_before chunks i) rest (subst (AllPairs (λ a b. line_order keys a b ≡ Less)) (cut chunks i l) h))

module _ (keys : ℕ → Option Key) (line : ℕ) (chunks : List Chunk) (i : ℕ) (within : i < length chunks)
    (before : Ascend keys (lines_in chunks) → All (λ a. line_order keys a line ≡ Less) (lines_before chunks i)) (behind : Ascend keys (lines_in chunks) → All (λ a. line_order keys line a ≡ Less) (lines_behind chunks i)) where
  pub take_none : AreByKey keys (lines_in chunks) → (Contains (chunk_at chunks i) line → ⊥) → AreByKey (but line keys) (lines_in chunks)
  take_none h n =
      subst (AreByKey (but line keys)) (sym (cut chunks i within))
      (none_taken keys line (lines_before chunks i) (chunk_at chunks i) (lines_behind chunks i) (before h.ascend) (behind h.ascend) (subst (AreByKey keys) (cut chunks i within) h) n)

  pub take_one : (position : ℕ) → AreByKey keys (lines_in chunks) → position < length (chunk_at chunks i) → line ≡ get_or (chunk_at chunks i) position line → AreByKey (but line keys) (with_chunk chunks i (remove (chunk_at chunks i) position))
  take_one position h l e =
      one_taken keys line (lines_before chunks i) (chunk_at chunks i) (lines_behind chunks i) (before h.ascend) (behind h.ascend) position (subst (AreByKey keys) (cut chunks i within) h) l e

  pub put_one : (position : ℕ) → AreByKey (but line keys) (lines_in chunks) → is_some (keys line) ≡ true → position ≤ length (chunk_at chunks i) → (Ascend keys (chunk_at chunks i) → IsPositionOf keys line (chunk_at chunks i) position)
      → AreByKey keys (with_chunk chunks i (insert (chunk_at chunks i) position line))
  put_one position h some l at =
      let up : Ascend keys (lines_in chunks) = ascend_in keys line (lines_in chunks) h in
      one_put keys line (lines_before chunks i) (chunk_at chunks i) (lines_behind chunks i) (before up) (behind up) position (subst (AreByKey (but line keys)) (cut chunks i within) h) some l (at (chunk_ascends keys chunks i within up))

-- ---- the lines of several chunks

pub lines_push : (chunks : List Chunk) (chunk : Chunk) → lines_in (chunks ++ chunk ∷ []) ≡ lines_in chunks ++ chunk.items
lines_push chunks chunk = flat_map-append (λ (c : Chunk). c.items) chunks (chunk ∷ []) ∙ ap (λ t. lines_in chunks ++ t) (append-nil chunk.items)

pub run_more : (p : ℕ → Bool) (chunks : List Chunk) (i : ℕ) (chunk : Chunk) → i < length chunks → chunk ≡ get_or chunks i chunk → filter p (lines_in (take (i + 1) chunks)) ≡ filter p (lines_in (take i chunks)) ++ filter p chunk.items
run_more p chunks i chunk l e =
    ap (λ cs. filter p (lines_in cs)) (take_more chunks i chunk l ∙ ap (λ c. take i chunks ++ c ∷ []) (sym e))
    ∙ (ap (filter p) (lines_push (take i chunks) chunk) ∙ filter-append p (lines_in (take i chunks)) chunk.items)

pub slice_more : (lines : List ℕ) (i j : ℕ) → i ≤ j → take i lines ++ take (j - i) (drop i lines) ≡ take j lines
slice_more lines zero j l = let e : j - 0 ≡ j = omega arith in ap (λ n. take n lines) e
slice_more lines (suc i) zero l = absurd (omega arith)
slice_more [] (suc i) (suc j) l = take_nil (suc j - suc i)
slice_more (a ∷ rest) (suc i) (suc j) l = let e : suc j - suc i ≡ j - i = omega arith in ap (λ n. a ∷ (take i rest ++ take n (drop i rest))) e ∙ ap (λ t. a ∷ t) (slice_more rest i j (omega arith))

module _ (keys : ℕ → Option Key) (op : CompareOp) (key : Key) (chunks : List Chunk) (i j : ℕ) (l : i ≤ j) where
  abbrev Middle : List Chunk
  Middle = take (j - i) (drop i chunks)

  in_three : lines_in chunks ≡ lines_in (take i chunks) ++ (lines_in Middle ++ lines_in (drop j chunks))
  in_three =
      let e : i + (j - i) ≡ j = omega arith in
      in_two chunks i ∙ ap (λ t. lines_in (take i chunks) ++ t) (in_two (drop i chunks) (j - i) ∙ ap (λ cs. lines_in Middle ++ lines_in cs) (drop-drop (j - i) i chunks ∙ ap (λ n. drop n chunks) e))

  pub middle_ascends : Ascend keys (lines_in chunks) → Ascend keys (lines_in Middle)
  middle_ascends h =
      let rest : List ℕ = lines_in Middle ++ lines_in (drop j chunks) in
      pairs_left (λ a b. line_order keys a b ≡ Less) (lines_in Middle) (lines_in (drop j chunks))
      (pairs_right (λ a b. line_order keys a b ≡ Less) (lines_in (take i chunks)) rest (subst (AllPairs (λ a b. line_order keys a b ≡ Less)) in_three h))

  pub all_in_middle : All (λ a. in_front (start_of op) (keys a) key ≡ true) (lines_in (take i chunks)) → All (λ a. in_front (end_of op) (keys a) key ≡ false) (lines_in (drop j chunks))
      → filter (between keys op key) (lines_in Middle) ≡ filter (between keys op key) (lines_in chunks)
  all_in_middle first last =
      let p : ℕ → Bool = between keys op key in
      sym (ap (filter p) in_three ∙ filter-append p (lines_in (take i chunks)) (lines_in Middle ++ lines_in (drop j chunks))
      ∙ ap₂ (λ (a b : List ℕ). a ++ b) (none_in_front keys op key (lines_in (take i chunks)) first)
      (filter-append p (lines_in Middle) (lines_in (drop j chunks)) ∙ ap (λ t. filter p (lines_in Middle) ++ t) (none_behind keys op key (lines_in (drop j chunks)) last) ∙ append-nil (filter p (lines_in Middle))))
