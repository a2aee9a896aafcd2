-- What the lanes of 64 bytes tell.
use Rattle.std.proofs.Common.{◌≡◌, ℕ, ◌+◌, ◌*◌, ◌^◌, ◌%◌, ◌≤◌, Bool, true, false, not, cond, ◌||◌, eqb, ltb, List, [], ◌∷◌, ◌++◌, map, length, take, drop, ◌-◌, sym, ◌∙◌, ap, ap₂, refl, arith, w8, bit_or}
use lib.Lanes.{mask_l, zip2, top}
use Rattle.std.specs.Prelude.{replicate}
use Rattle.std.proofs.lemmas.Bool.{eqb-true, eq-eqb}
use Rattle.std.proofs.lemmas.Simd.{zip2_splat, zip2_of_maps, map-map, mask_l-mod, length-zip2, tops_compared}
use Rattle.std.proofs.lemmas.List.{length-map, take-append-drop, take-take, drop-take, take_all}
use Rattle.jp_lanes.specs.Search.{is_special}
use Rattle.jp_lanes.proofs.Cases.{of_three}

-- a lane of ones or of zeros
abbrev pub lane : Bool → ℕ
lane b = cond b 255 0

either_lane : (a b c : Bool) → top 7 (bit_or (bit_or (lane a) (lane b)) (lane c)) ≡ (a || b || c)
either_lane = of_three (λ a b c. top 7 (bit_or (bit_or (lane a) (lane b)) (lane c)) ≡ (a || b || c)) refl refl refl refl refl refl refl refl

same_map : {A B : Type 0} (f g : A → B) (xs : List A) → ((x : A) → f x ≡ g x) → map f xs ≡ map g xs
same_map f g [] e = refl
same_map f g (x ∷ xs) e = ap₂ (λ y ys. y ∷ ys) (e x) (same_map f g xs e)

abbrev lanes_equal : ℕ → List ℕ → ℕ → List ℕ
lanes_equal n xs byte = zip2 (λ a b. lane (eqb a b)) xs (replicate n byte)

abbrev lanes_below : ℕ → List ℕ → ℕ → List ℕ
lanes_below n xs byte = zip2 (λ a b. lane (ltb a b)) xs (replicate n byte)

pub special_mask : (xs : List ℕ) (n : ℕ) → length xs ≡ n → n ≤ 64 → mask_l (map (top 7) (zip2 bit_or (zip2 bit_or (lanes_equal n xs 0x22) (lanes_equal n xs 0x5C)) (lanes_below n xs 0x20))) % 2 ^ 64 ≡ mask_l (map is_special xs)
special_mask xs n e few =
    let quotes : lanes_equal n xs 0x22 ≡ map (λ x. lane (eqb x 0x22)) xs = zip2_splat (λ a b. lane (eqb a b)) xs n 0x22 e in
    let backslashes : lanes_equal n xs 0x5C ≡ map (λ x. lane (eqb x 0x5C)) xs = zip2_splat (λ a b. lane (eqb a b)) xs n 0x5C e in
    let controls : lanes_below n xs 0x20 ≡ map (λ x. lane (ltb x 0x20)) xs = zip2_splat (λ a b. lane (ltb a b)) xs n 0x20 e in
    let two = zip2_of_maps bit_or (λ x. lane (eqb x 0x22)) (λ x. lane (eqb x 0x5C)) xs quotes backslashes in
    let three = zip2_of_maps bit_or (λ x. bit_or (lane (eqb x 0x22)) (lane (eqb x 0x5C))) (λ x. lane (ltb x 0x20)) xs two controls in
    let tops = ap (map (top 7)) three ∙ (map-map (top 7) (λ x. bit_or (bit_or (lane (eqb x 0x22)) (lane (eqb x 0x5C))) (lane (ltb x 0x20))) xs ∙ same_map _ is_special xs (λ x. either_lane (eqb x 0x22) (eqb x 0x5C) (ltb x 0x20))) in
    ap (λ ms. mask_l ms % 2 ^ 64) tops ∙ mask_l-mod (map is_special xs) 64 (let l = length-map xs is_special in omega (arith, l, e, few))

-- ---- two blocks
abbrev differs : ℕ → ℕ → Bool
differs a b = not (eqb a b)

first_same : (x y : ℕ) (xs ys : List ℕ) (b : Bool) → (mask_l (zip2 differs xs ys) ≡ 0 → xs ≡ ys) → eqb x y ≡ b → cond (not b) 1 0 + 2 * mask_l (zip2 differs xs ys) ≡ 0 → x ∷ xs ≡ y ∷ ys
first_same x y xs ys true rest s e = ap₂ (λ z zs. z ∷ zs) (eqb-true x y s) (rest (omega (arith, e)))
first_same x y xs ys false rest s e = absurd (omega (arith, e))

no_difference : (xs ys : List ℕ) → length xs ≡ length ys → mask_l (zip2 differs xs ys) ≡ 0 → xs ≡ ys
no_difference [] [] l e = refl
no_difference [] (y ∷ ys) l e = absurd (omega (arith, l))
no_difference (x ∷ xs) [] l e = absurd (omega (arith, l))
no_difference (x ∷ xs) (y ∷ ys) l e = first_same x y xs ys (eqb x y) (no_difference xs ys (omega (arith, l))) refl (ap (λ b. cond (not b) 1 0 + 2 * mask_l (zip2 differs xs ys)) refl ∙ e)

same_lanes : (xs : List ℕ) → mask_l (zip2 differs xs xs) ≡ 0
same_lanes [] = refl
same_lanes (x ∷ xs) = ap₂ (λ b m. cond (not b) 1 0 + 2 * m) (eq-eqb x x refl) (same_lanes xs)

abbrev lanes_differ : List ℕ → List ℕ → ℕ
lanes_differ xs ys = mask_l (map (top 7) (zip2 (λ a b. lane (differs a b)) xs ys)) % 2 ^ 64

lanes_differ_is : (xs ys : List ℕ) → length xs ≡ length ys → length xs ≤ 64 → lanes_differ xs ys ≡ mask_l (zip2 differs xs ys)
lanes_differ_is xs ys same few =
    let size = length-zip2 differs xs ys same in
    ap (λ ms. mask_l ms % 2 ^ 64) (tops_compared w8 differs xs ys) ∙ mask_l-mod (zip2 differs xs ys) 64 (omega (arith, size, few))

pub block_same : (n : ℕ) (xs ys : List ℕ) → n ≤ 64 → length xs ≡ n → length ys ≡ n → (eqb (lanes_differ xs ys) 0 ≡ true → xs ≡ ys) × (xs ≡ ys → eqb (lanes_differ xs ys) 0 ≡ true)
block_same n xs ys few l m =
    let is = lanes_differ_is xs ys (l ∙ sym m) (omega (arith, l, few)) in (
      λ e. no_difference xs ys (l ∙ sym m) (sym is ∙ eqb-true _ _ e),
      λ e. eq-eqb _ _ (is ∙ (ap (λ zs. mask_l (zip2 differs xs zs)) (sym e) ∙ same_lanes xs)),
    )

-- one more block
pub take_block : (n m : ℕ) (xs : List ℕ) → take (n + m) xs ≡ take n xs ++ take m (drop n xs)
take_block n m xs = sym (take-append-drop n (take (n + m) xs)) ∙ ap₂ (λ (ys zs : List ℕ). ys ++ zs) (take-take n (n + m) xs (omega arith)) (drop-take n m xs)

pub same_blocks : (n m : ℕ) (xs ys : List ℕ) → take n xs ≡ take n ys → take m (drop n xs) ≡ take m (drop n ys) → take (n + m) xs ≡ take (n + m) ys
same_blocks n m xs ys e f = take_block n m xs ∙ (ap₂ (λ (zs ws : List ℕ). zs ++ ws) e f ∙ sym (take_block n m ys))

pub same_whole : (n : ℕ) (xs ys : List ℕ) → take n xs ≡ take n ys → drop n xs ≡ drop n ys → xs ≡ ys
same_whole n xs ys e f = sym (take-append-drop n xs) ∙ (ap₂ (λ (zs ws : List ℕ). zs ++ ws) e f ∙ take-append-drop n ys)

-- runs whose first bytes are the same, and whose last, where none stands between them
pub same_ends : (n : ℕ) (xs ys : List ℕ) → length xs ≡ length ys → n ≤ length xs → length xs ≤ n + n → take n (drop 0 xs) ≡ take n (drop 0 ys) → take n (drop (length xs - n) xs) ≡ take n (drop (length xs - n) ys) → xs ≡ ys
same_ends n xs ys size least most e f =
    let k = length xs - n in
    let within : k ≤ n = omega (arith, most, least) in
    let first : take k xs ≡ take k ys = sym (take-take k n xs within) ∙ (ap (take k) e ∙ take-take k n ys within) in
    let whole : k + n ≡ length xs = omega (arith, least) in
    sym (take_all (k + n) xs (omega (arith, whole))) ∙ (same_blocks k n xs ys first f ∙ take_all (k + n) ys (omega (arith, whole, size)))
