-- The bits of a set of lines, and the numbers of those that are set.
use Rattle.std.proofs.Common.{◌≡◌, ◌≢◌, ◌∙◌, ℕ, zero, suc, ◌+◌, ◌-◌, ◌*◌, ◌/◌, ◌%◌, ◌^◌, ◌<◌, ◌≤◌, ◌==◌, Bool, true, false, cond, List, [], ◌∷◌, ◌++◌, length, get_or, set, take, drop, refl, sym, ap, ap₂, arith, inl, inr, if◌then◌else◌}
use Rattle.std.specs.Int.{bit_at}
use lib.Pow.{shr-shr}
use mir.Val.{bool_byte}
use Rattle.std.proofs.lemmas.Bool.{cases_lt, cases_eq}
use Rattle.std.proofs.lemmas.List.{ext_get_or, length-set, get_or-set_other, get_or_append_left, get_or-append-add, get_or-take, length-take, length_push, take_more, drop_more, drop_all}
use Rattle.std.proofs.lemmas.Grind.{get_or-set_at}
use Rattle.std.proofs.lemmas.List.FromFn.{length-map-range_with_len, get_or-map-range_with_len}
use Rattle.std.proofs.lemmas.Nat.Bits.{bit_at-zero, bit_at_above}
use Rattle.jp_model.specs.Numbered.{numbers_where}
use Rattle.jp_model.proofs.Numbered.{numbers_where-append}
use Rattle.jp_index.specs.LineSets.{bit_of, bits_of, numbers_in}
use Rattle.std.specs.Prelude.{nat_lt}
use Rattle.jp_index.specs.Numbered.{numbers_behind, with_number}
use Rattle.jp_index.proofs.Numbered.{behind_are, lines_set, none_stay, passed_over}

pub shifted : (w s j : ℕ) → bit_at (w / 2 ^ s) j ≡ bit_at w (s + j)
shifted w s j = ap (λ n. n % 2) (shr-shr w s j)

pub length_bits : (ws : List ℕ) → length (bits_of ws) ≡ 64 * length ws
length_bits ws = length-map-range_with_len (bit_of ws) 0 (64 * length ws)

pub bit_is : (ws : List ℕ) (i d : ℕ) → i < 64 * length ws → get_or (bits_of ws) i d ≡ bit_of ws i
bit_is ws i d l = get_or-map-range_with_len (bit_of ws) 0 (64 * length ws) i i d l (omega arith)

-- ---- where a bit is

pub in_word : (position k : ℕ) → position ≤ k → k < (position / 64 + 1) * 64 → (k / 64 ≡ position / 64) × (k % 64 ≡ position % 64 + (k - position))
in_word position k l m = (omega arith, omega arith)

pub none_in_word : (ws : List ℕ) (position rest : ℕ) → rest ≡ get_or ws (position / 64) 0 / 2 ^ (position % 64) → rest ≡ 0 → (k : ℕ) → position ≤ k → k < (position / 64 + 1) * 64 → bit_of ws k ≡ 0
none_in_word ws position rest e z k l m =
    let at = in_word position k l m in
    ap₂ (λ (i j : ℕ). bit_at (get_or ws i 0) j) at.0 at.1 ∙ sym (shifted (get_or ws (position / 64) 0) (position % 64) (k - position)) ∙ ap (λ w. bit_at w (k - position)) (sym e ∙ z) ∙ bit_at-zero (k - position)

pub within_word : (w s n : ℕ) → w < 2 ^ 64 → bit_at (w / 2 ^ s) n ≡ 1 → s + n < 64
within_word w s n few e = elim (cases_lt (s + n) 64) [
  | inl low ↦ low
  | inr high ↦ let f : bit_at w (s + n) ≡ 0 = bit_at_above w 64 (s + n) few high in let g : bit_at w (s + n) ≡ 1 = sym (shifted w s n) ∙ e in absurd (omega arith)
]

pub found_in_word : (ws : List ℕ) (position n : ℕ) → position % 64 + n < 64 → bit_of ws (position + n) ≡ bit_at (get_or ws (position / 64) 0 / 2 ^ (position % 64)) n
found_in_word ws position n l =
    let at = in_word position (position + n) (omega arith) (omega arith) in
    let e : position + n - position ≡ n = omega arith in
    ap₂ (λ (i j : ℕ). bit_at (get_or ws i 0) j) at.0 (at.1 ∙ ap (λ k. position % 64 + k) e) ∙ sym (shifted (get_or ws (position / 64) 0) (position % 64) n)

-- ---- a bit that is written

module _ (ws : List ℕ) (position v b : ℕ) (within : position < 64 * length ws) (here : bit_at v (position % 64) ≡ b) (others : (j : ℕ) → j < 64 → j ≢ position % 64 → bit_at v j ≡ bit_at (get_or ws (position / 64) 0) j) where
  word_there : position / 64 < length ws
  word_there = omega arith

  bit_set : (i : ℕ) → i ≢ position → bit_of (set ws (position / 64) v) i ≡ bit_of ws i
  bit_set i n = elim (cases_eq (i / 64) (position / 64)) [
    | inl same ↦ ap (λ w. bit_at w (i % 64)) (get_or-set_at ws (position / 64) (i / 64) v 0 same word_there) ∙ (others (i % 64) (omega arith) (λ e. n (omega arith)) ∙ ap (λ k. bit_at (get_or ws k 0) (i % 64)) (sym same))
    | inr other ↦ ap (λ w. bit_at w (i % 64)) (get_or-set_other ws (position / 64) (i / 64) v 0 other)
  ]

  pub bits_set : bits_of (set ws (position / 64) v) ≡ set (bits_of ws) position b
  bits_set =
      let l : length (set ws (position / 64) v) ≡ length ws = length-set ws (position / 64) v in
      let m = length_bits (set ws (position / 64) v) in
      let k = length_bits ws in
      let j = length-set (bits_of ws) position b in
      ext_get_or 0 (bits_of (set ws (position / 64) v)) (set (bits_of ws) position b) (omega arith)
      (λ i low. bit_is (set ws (position / 64) v) i 0 (omega arith) ∙ elim (cases_eq i position) [
        | inl same ↦ ap (bit_of (set ws (position / 64) v)) same ∙ (ap (λ w. bit_at w (position % 64)) (get_or-set_at ws (position / 64) (position / 64) v 0 refl word_there) ∙ (here ∙ sym (get_or-set_at (bits_of ws) position i b 0 same (omega arith))))
        | inr other ↦ bit_set i other ∙ sym (get_or-set_other (bits_of ws) position i b 0 other ∙ bit_is ws i 0 (omega arith))
      ])

-- ---- the numbers of the bits that are set

abbrev pub is_set : ℕ → Bool
is_set bit = bit == 1

none_from : (n : ℕ) (ys : List ℕ) → ((i : ℕ) → i < length ys → get_or ys i 0 ≡ 0) → numbers_where is_set n ys ≡ []
none_from n [] h = refl
none_from n (y ∷ ys) h = let e : (y == 1) ≡ false = ap is_set (h 0 (omega arith)) in ap (λ b. if b then n ∷ numbers_where is_set (n + 1) ys else numbers_where is_set (n + 1) ys) e ∙ none_from (n + 1) ys (λ i l. h (suc i) (omega arith))

-- bits after that are not set give no number
pub none_more : (n : ℕ) (xs ys : List ℕ) → length xs ≤ length ys → ((i : ℕ) → i < length xs → get_or ys i 0 ≡ get_or xs i 0) → ((i : ℕ) → length xs ≤ i → i < length ys → get_or ys i 0 ≡ 0) → numbers_where is_set n ys ≡ numbers_where is_set n xs
none_more n [] ys l same none = none_from n ys (λ i m. none i (omega arith) m)
none_more n (x ∷ xs) [] l same none = absurd (omega arith)
none_more n (x ∷ xs) (y ∷ ys) l same none =
    let e : y ≡ x = same 0 (omega arith) in
    ap₂ (λ (b : Bool) (ns : List ℕ). if b then n ∷ ns else ns) (ap is_set e) (none_more (n + 1) xs ys (omega arith) (λ i m. same (suc i) (omega arith)) (λ i m k. none (suc i) (omega arith) (omega arith)))

one_more : (b : Bool) (n : ℕ) (ns : List ℕ) → length (if b then n ∷ ns else ns) ≡ cond b 1 0 + length ns
one_more true n ns = omega arith
one_more false n ns = omega arith

pub at_most_one : (b : Bool) → cond b 1 0 ≤ 1
at_most_one true = omega arith
at_most_one false = omega arith

pub counted_set : (n : ℕ) (xs : List ℕ) (i b : ℕ) → i < length xs → length (numbers_where is_set n (set xs i b)) + cond (is_set (get_or xs i 0)) 1 0 ≡ length (numbers_where is_set n xs) + cond (is_set b) 1 0
counted_set n [] i b l = absurd (omega arith)
counted_set n (x ∷ xs) zero b l = let e = one_more (is_set b) n (numbers_where is_set (n + 1) xs) in let f = one_more (is_set x) n (numbers_where is_set (n + 1) xs) in omega arith
counted_set n (x ∷ xs) (suc i) b l =
    let e = one_more (is_set x) n (numbers_where is_set (n + 1) (set xs i b)) in
    let f = one_more (is_set x) n (numbers_where is_set (n + 1) xs) in
    let g = counted_set (n + 1) xs i b (omega arith) in
    omega arith

pub numbers_push : (ws : List ℕ) → numbers_in (ws ++ 0 ∷ []) ≡ numbers_in ws
numbers_push ws =
    let more : List ℕ = ws ++ 0 ∷ [] in
    let l : length more ≡ length ws + 1 = length_push ws 0 in
    let m = length_bits more in
    let k = length_bits ws in
    none_more 0 (bits_of ws) (bits_of more) (omega arith)
    (λ i low. bit_is more i 0 (omega arith) ∙ (ap (λ w. bit_at w (i % 64)) (get_or_append_left ws (0 ∷ []) 0 (i / 64) (omega arith)) ∙ sym (bit_is ws i 0 (omega arith))))
    (λ i high low.
    let at : i / 64 ≡ length ws + 0 = omega arith in
    bit_is more i 0 (omega arith) ∙ (ap (λ j. bit_at (get_or more j 0) (i % 64)) at ∙ (ap (λ w. bit_at w (i % 64)) (get_or-append-add ws (0 ∷ []) 0 0) ∙ bit_at-zero (i % 64))))

-- ---- the numbers up to a position

module _ (ws : List ℕ) (position : ℕ) where
  -- one whose bit is set
  pub number_more : position < 64 * length ws → bit_of ws position ≡ 1 → numbers_where is_set 0 (take (position + 1) (bits_of ws)) ≡ numbers_where is_set 0 (take position (bits_of ws)) ++ position ∷ []
  number_more l e =
      let m = length_bits ws in
      let at : get_or (bits_of ws) position 0 ≡ 1 = bit_is ws position 0 l ∙ e in
      let short : length (take position (bits_of ws)) ≡ position = length-take position (bits_of ws) ∙ omega arith in
      ap (numbers_where is_set 0) (take_more (bits_of ws) position 0 (omega arith) ∙ ap (λ b. take position (bits_of ws) ++ b ∷ []) at)
      ∙ numbers_where-append is_set 0 position (take position (bits_of ws)) 1 (omega arith)

  -- those that are passed over
  pub numbers_skip : (next : ℕ) → position ≤ next → next ≤ 64 * length ws → ((k : ℕ) → position ≤ k → k < next → bit_of ws k ≡ 0) → numbers_where is_set 0 (take next (bits_of ws)) ≡ numbers_where is_set 0 (take position (bits_of ws))
  numbers_skip next l n h =
      let m = length_bits ws in
      let short : length (take position (bits_of ws)) ≡ position = length-take position (bits_of ws) ∙ omega arith in
      let long : length (take next (bits_of ws)) ≡ next = length-take next (bits_of ws) ∙ omega arith in
      none_more 0 (take position (bits_of ws)) (take next (bits_of ws)) (omega arith)
      (λ i low. get_or-take next (bits_of ws) i 0 (omega arith) ∙ sym (get_or-take position (bits_of ws) i 0 (omega arith)))
      (λ i high low. get_or-take next (bits_of ws) i 0 (omega arith) ∙ (bit_is ws i 0 (omega arith) ∙ h i (omega arith) (omega arith)))

one_or_none : (b : Bool) → is_set (cond b 1 0) ≡ b
one_or_none true = refl
one_or_none false = refl

-- a line put in or taken out
pub number_set : (ws : List ℕ) (line : ℕ) (b : Bool) → line < 64 * length ws → numbers_where is_set 0 (set (bits_of ws) line (cond b 1 0)) ≡ with_number line b (numbers_in ws)
number_set ws line b l =
    let m = length_bits ws in
    sym (ap (λ c. with_number line c (numbers_in ws)) (sym (one_or_none b)) ∙ lines_set is_set 0 (bits_of ws) line line (cond b 1 0) (omega arith) (omega arith))

-- how many lines there are then
pub count_set : (ws : List ℕ) (line : ℕ) (b : Bool) → line < 64 * length ws → length (numbers_where is_set 0 (set (bits_of ws) line (cond b 1 0))) + cond (is_set (bit_of ws line)) 1 0 ≡ length (numbers_in ws) + cond b 1 0
count_set ws line b l =
    let m = length_bits ws in
    ap (λ w. length (numbers_where is_set 0 (set (bits_of ws) line (cond b 1 0))) + cond (is_set w) 1 0) (sym (bit_is ws line 0 l))
    ∙ (counted_set 0 (bits_of ws) line (cond b 1 0) (omega arith) ∙ ap (λ c. length (numbers_in ws) + cond c 1 0) (one_or_none b))

-- a word that was pushed, or not
pub numbers_pushed : (b : Bool) (ws more : List ℕ) → more ≡ (if b then ws ++ 0 ∷ [] else ws) → numbers_in more ≡ numbers_in ws
numbers_pushed true ws more e = ap numbers_in e ∙ numbers_push ws
numbers_pushed false ws more e = ap numbers_in e

pub byte_is : (b : Bool) → bool_byte b ≡ cond b 1 0
byte_is true = refl
byte_is false = refl

pub was_set : (n : ℕ) (b : Bool) (seen ws : List ℕ) (line : ℕ) → n ≡ bool_byte b → b ≡ (bit_of seen line == 1) → seen ≡ ws → n ≡ cond (is_set (bit_of ws line)) 1 0
was_set n b seen ws line e f g = e ∙ (byte_is b ∙ ap (λ c. cond c 1 0) (f ∙ ap (λ vs. is_set (bit_of vs line)) g))

-- ---- the numbers after a line

pub numbers_past : (ws : List ℕ) (n : ℕ) → 64 * length ws ≤ n + 1 → numbers_behind n (numbers_in ws) ≡ []
numbers_past ws n past =
    let l = length_bits ws in
    none_stay is_set (λ k. nat_lt n k) 0 (bits_of ws) (λ k low high. let before : k ≤ n = omega arith in search (arith, before))

module _ (ws : List ℕ) (n position : ℕ) (within : position ≤ 64 * length ws) (from : n + 1 ≤ position) (between : (k : ℕ) → n + 1 ≤ k → k < position → bit_of ws k ≡ 0) where
  from_there : numbers_behind n (numbers_in ws) ≡ numbers_where is_set position (drop position (bits_of ws))
  from_there =
      let l = length_bits ws in
      let end : n + 1 + (position - (n + 1)) ≡ position = omega arith in
      behind_are is_set 0 (n + 1) n (bits_of ws) (omega arith)
      ∙ (passed_over is_set (position - (n + 1)) (n + 1) (n + 1) (bits_of ws) 0 (omega arith) (λ k low high. ap is_set (bit_is ws k 0 (omega arith) ∙ between k low (omega arith)))
      ∙ ap (λ k. numbers_where is_set k (drop k (bits_of ws))) end)

  pub first_there : position < 64 * length ws → bit_of ws position ≡ 1 → numbers_behind n (numbers_in ws) ≡ position ∷ numbers_behind position (numbers_in ws)
  first_there there one =
      let l = length_bits ws in
      let rest = numbers_where is_set (position + 1) (drop (position + 1) (bits_of ws)) in
      from_there
      ∙ (ap (numbers_where is_set position) (drop_more (bits_of ws) position 0 (omega arith))
      ∙ (ap (λ b. if b then position ∷ rest else rest) (ap is_set (bit_is ws position 0 there ∙ one))
      ∙ ap (λ ns. position ∷ ns) (sym (behind_are is_set 0 (position + 1) position (bits_of ws) (omega arith)))))

  pub none_there : 64 * length ws ≤ position → numbers_behind n (numbers_in ws) ≡ []
  none_there past = let l = length_bits ws in from_there ∙ ap (numbers_where is_set position) (drop_all position (bits_of ws) (omega arith))
