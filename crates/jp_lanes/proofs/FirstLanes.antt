-- The first byte of a kind, by a mask that tells of each of some bytes whether it is of that kind.
use Rattle.std.proofs.Common.{◌≡◌, ℕ, zero, suc, ◌+◌, ◌-◌, ◌*◌, ◌/◌, ◌%◌, ◌^◌, ◌<◌, ◌≤◌, Bool, true, false, not, cond, ◌||◌, eqb, List, [], ◌∷◌, map, length, take, drop, get_or, sym, ◌∙◌, ap, ap₂, refl, arith, bit_or, inl, inr, shr-shr}
use lib.Lanes.{mask_l, zip2, top, chunk}
use lib.Count.{count_trailing_zeros}
use Rattle.std.specs.List.{prefix_len}
use Rattle.std.proofs.lemmas.Simd.{zip2_of_maps, map-map, mask_l-mod, none_from_empty_mask, first_set_mask_l, run_in_chunk_le, run_in_chunk_fails, run_in_chunk_stops, length-chunk}
use Rattle.std.proofs.lemmas.Bool.{ne_eqb, cond-false, cases_lt}
use Rattle.std.proofs.lemmas.List.{length-map, drop-map, drop-take, drop-drop}
use Rattle.jp_lanes.specs.First.{IsFirst}
use Rattle.jp_lanes.proofs.SearchLanes.{lane}

-- ---- masks

either_lane : (a b : Bool) → top 7 (bit_or (lane a) (lane b)) ≡ (a || b)
either_lane true true = refl
either_lane true false = refl
either_lane false true = refl
either_lane false false = refl

same_map : {A B : Type 0} (f g : A → B) (xs : List A) → ((x : A) → f x ≡ g x) → map f xs ≡ map g xs
same_map f g xs e = λ t. map (λ x. e x t) xs

-- the lanes that pass one test or another
pub either_mask : (p q is : ℕ → Bool) (xs : List ℕ) {ys zs : List ℕ} → ys ≡ map (λ x. lane (p x)) xs → zs ≡ map (λ x. lane (q x)) xs → ((x : ℕ) → (p x || q x) ≡ is x) → length xs ≤ 64
    → mask_l (map (top 7) (zip2 bit_or ys zs)) % 2 ^ 64 ≡ mask_l (map is xs)
either_mask p q is xs first second right few =
    let two = zip2_of_maps bit_or (λ x. lane (p x)) (λ x. lane (q x)) xs first second in
    let tops = ap (map (top 7)) two ∙ (map-map (top 7) (λ x. bit_or (lane (p x)) (lane (q x))) xs ∙ same_map _ is xs (λ x. either_lane (p x) (q x) ∙ right x)) in
    ap (λ ms. mask_l ms % 2 ^ 64) tops ∙ mask_l-mod (map is xs) 64 (let l = length-map xs is in omega (arith, l, few))

half_mask : (b : Bool) (ms : List Bool) → mask_l (b ∷ ms) / 2 ^ 1 ≡ mask_l ms
half_mask true ms = omega arith
half_mask false ms = omega arith

none_behind : (k : ℕ) → 0 / 2 ^ k ≡ 0
none_behind zero = refl
none_behind (suc k) = let e : 1 + k ≡ suc k = omega arith in ap (λ n. 0 / 2 ^ n) (sym e) ∙ (sym (shr-shr 0 1 k) ∙ none_behind k)

-- a mask that is moved down tells of the lanes after
mask_behind : (k : ℕ) (ms : List Bool) → mask_l ms / 2 ^ k ≡ mask_l (drop k ms)
mask_behind zero ms = omega arith
mask_behind (suc k) [] = none_behind (suc k)
mask_behind (suc k) (b ∷ ms) =
    let e : 1 + k ≡ suc k = omega arith in
    ap (λ n. mask_l (b ∷ ms) / 2 ^ n) (sym e) ∙ (sym (shr-shr (mask_l (b ∷ ms)) 1 k) ∙ (ap (λ n. n / 2 ^ k) (half_mask b ms) ∙ mask_behind k ms))

-- the same of a mask of bytes
pub mask_later : (p : ℕ → Bool) (bytes : List ℕ) (at n k mask : ℕ) → k ≤ n → mask ≡ mask_l (map p (chunk at n bytes)) → mask / 2 ^ k ≡ mask_l (map p (chunk (at + k) (n - k) bytes))
mask_later p bytes at n k mask few e =
    let whole : k + (n - k) ≡ n = omega (arith, few) in
    ap (λ m. m / 2 ^ k) e
    ∙ (mask_behind k (map p (chunk at n bytes))
    ∙ (ap mask_l (drop-map p k (chunk at n bytes))
    ∙ ap (λ xs. mask_l (map p xs)) (ap (λ m. drop k (take m (drop at bytes))) (sym whole) ∙ (drop-take k (n - k) (drop at bytes) ∙ ap (take (n - k)) (drop-drop k at bytes)))))

-- and of a mask of the last bytes
pub mask_of_rest : (p : ℕ → Bool) (bytes : List ℕ) (n from mask : ℕ) → n ≤ length bytes → from ≤ length bytes → length bytes ≤ from + n → mask ≡ mask_l (map p (chunk (length bytes - n) n bytes)) →
    mask / 2 ^ (from - (length bytes - n)) ≡ mask_l (map p (chunk from (length bytes - from) bytes))
mask_of_rest p bytes n from mask block within rest e =
    let k = from - (length bytes - n) in
    let there : (length bytes - n) + k ≡ from = omega (arith, block, within, rest) in
    let left : n - k ≡ length bytes - from = omega (arith, block, within, rest) in
    mask_later p bytes (length bytes - n) n k mask (omega (arith, block, within, rest)) e ∙ ap₂ (λ a b. mask_l (map p (chunk b a bytes))) left there

-- ---- where the first byte is

-- none among these bytes
pub none_of_mask : (p : ℕ → Bool) (bytes : List ℕ) (at n mask : ℕ) → at + n ≤ length bytes → mask ≡ mask_l (map p (chunk at n bytes)) → mask ≡ 0 → (k : ℕ) → at ≤ k → k < at + n → p (get_or bytes k 0) ≡ false
none_of_mask p bytes at n mask inside e z = none_from_empty_mask p bytes at n 0 inside (sym e ∙ z)

-- and where the mask is empty to the end
pub first_at_end : (p : ℕ → Bool) (bytes : List ℕ) (from at n mask : ℕ) → from ≤ at → at + n ≡ length bytes → ((k : ℕ) → from ≤ k → k < at → p (get_or bytes k 0) ≡ false) → mask ≡ mask_l (map p (chunk at n bytes)) → mask ≡ 0 →
    IsFirst p bytes from (length bytes)
first_at_end p bytes from at n mask order end before e z = record {
  order = omega (arith, order, end);
  within = omega arith;
  before = λ k low high.
      elim (cases_lt k at) [
        | inl lt ↦ before k low lt
        | inr ge ↦ none_of_mask p bytes at n mask (omega (arith, end)) e z k ge (omega (arith, end, high))
      ];
  stops = λ l. absurd (omega (arith, l));
}

prefix_none : (p : ℕ → Bool) (xs : List ℕ) → prefix_len (λ x. not (p x)) xs ≡ length xs → mask_l (map p xs) ≡ 0
prefix_none p [] e = refl
prefix_none p (x ∷ xs) e = go (p x) e (prefix_none p xs)
  where
    go : (b : Bool) → cond (not b) (1 + prefix_len (λ y. not (p y)) xs) 0 ≡ suc (length xs) → (prefix_len (λ y. not (p y)) xs ≡ length xs → mask_l (map p xs) ≡ 0) → cond b 1 0 + 2 * mask_l (map p xs) ≡ 0
    go true e later = absurd (omega (arith, e))
    go false e later = let z = later (omega (arith, e)) in omega (arith, z)

lowest_run : (p : ℕ → Bool) (bytes : List ℕ) (at n mask : ℕ) → n ≤ 64 → at + n ≤ length bytes → mask ≡ mask_l (map p (chunk at n bytes)) → (mask ≡ 0 → ⊥) → count_trailing_zeros 64 mask ≡ prefix_len (λ x. not (p x)) (chunk at n bytes)
lowest_run p bytes at n mask few inside e some =
    sym (cond-false _ _ _ (ne_eqb _ _ some)) ∙ (ap (λ m. cond (eqb m 0) n (count_trailing_zeros 64 m)) e ∙ first_set_mask_l p (chunk at n bytes) n (length-chunk at n bytes inside) few)

-- the lowest bit of a mask is that of one of the bytes
pub lowest_inside : (p : ℕ → Bool) (bytes : List ℕ) (at n mask : ℕ) → n ≤ 64 → at + n ≤ length bytes → mask ≡ mask_l (map p (chunk at n bytes)) → (mask ≡ 0 → ⊥) → count_trailing_zeros 64 mask < n
lowest_inside p bytes at n mask few inside e some =
    let i : ℕ = count_trailing_zeros 64 mask in
    let run = lowest_run p bytes at n mask few inside e some in
    let most = run_in_chunk_le p bytes at n i 0 inside run in
    elim (cases_lt i n) [
      | inl lt ↦ lt
      | inr ge ↦ (let whole : i ≡ n = omega (arith, ge, most) in absurd (some (e ∙ prefix_none p (chunk at n bytes) (sym run ∙ (whole ∙ sym (length-chunk at n bytes inside))))))
    ]

-- else it is where the lowest bit is set
pub first_of_mask : (p : ℕ → Bool) (bytes : List ℕ) (from at n mask : ℕ) → from ≤ at → n ≤ 64 → at + n ≤ length bytes → ((k : ℕ) → from ≤ k → k < at → p (get_or bytes k 0) ≡ false) → mask ≡ mask_l (map p (chunk at n bytes)) → (mask ≡ 0 → ⊥) →
    IsFirst p bytes from (at + count_trailing_zeros 64 mask)
first_of_mask p bytes from at n mask order few inside before e some =
    let i : ℕ = count_trailing_zeros 64 mask in
    let run = lowest_run p bytes at n mask few inside e some in
    let most = run_in_chunk_le p bytes at n i 0 inside run in
    record {
      order = omega (arith, order);
      within = omega (arith, most, inside);
      before = λ k low high.
          elim (cases_lt k at) [
            | inl lt ↦ before k low lt
            | inr ge ↦ run_in_chunk_fails p bytes at n i 0 inside run k ge high
          ];
      stops = λ l. run_in_chunk_stops p bytes at n i 0 inside run (lowest_inside p bytes at n mask few inside e some);
    }

-- none is before the first from a later position on
pub first_behind : (p : ℕ → Bool) (bytes : List ℕ) (from at to : ℕ) → from ≤ at → ((k : ℕ) → from ≤ k → k < at → p (get_or bytes k 0) ≡ false) → IsFirst p bytes at to → IsFirst p bytes from to
first_behind p bytes from at to order before f = record {
  order = (let o = f.order in omega (arith, order, o));
  within = f.within;
  before = λ k low high.
      elim (cases_lt k at) [
        | inl lt ↦ before k low lt
        | inr ge ↦ f.before k ge high
      ];
  stops = f.stops;
}
