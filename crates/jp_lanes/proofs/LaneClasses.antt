-- Classes of lanes that several compares tell of, joined before their bits are taken.
use Rattle.std.proofs.Common.{◌≡◌, ℕ, zero, suc, ◌^◌, ◌%◌, ◌<◌, ◌≤◌, Bool, true, false, not, cond, ◌&&◌, eqb, List, get_or, map, length, refl, sym, ap, ◌∙◌, arith, bit_or, ◌⊎◌, inl, inr}
use lib.Lanes.{mask_l, zip2, top}
use Rattle.std.specs.Prelude.{replicate}
use Rattle.std.proofs.lemmas.Bool.{cases_lt}
use Rattle.std.proofs.lemmas.Simd.{zip2_splat, zip2_of_maps, map-map, mask_l-mod}
use Rattle.std.proofs.lemmas.List.{length-map, get_or-map}
use Rattle.jp_model.specs.Characters.{is_white, is_structural}
use Rattle.jp_lanes.specs.Word.{bit, Says}
use Rattle.jp_lanes.proofs.Words.{says_mask}

-- a lane of ones or of zeros
abbrev ones : Bool → ℕ
ones b = cond b 255 0

abbrev same : Bool → Bool → Bool
same true other = other
same false other = not other

same_is : (a b : Bool) → same a b ≡ true → a ≡ b
same_is true true e = refl
same_is true false e = sym e
same_is false true e = e
same_is false false e = refl

-- the test holds of each number below n
abbrev all_below : (ℕ → Bool) → ℕ → Bool
all_below test zero = true
all_below test (suc n) = test n && all_below test n

both : (a b : Bool) → (a && b) ≡ true → (a ≡ true) × (b ≡ true)
both true b e = (refl, e)
both false b e = absurd (cc)

holds_below : (test : ℕ → Bool) (n : ℕ) → all_below test n ≡ true → (i : ℕ) → i < n → test i ≡ true
holds_below test zero all i low = let no : ⊥ = omega arith in absurd no
holds_below test (suc n) all i low = go (both (test n) (all_below test n) all) (cases_lt i n) (holds_below test n)
  where
    go : (test n ≡ true) × (all_below test n ≡ true) → (i < n) ⊎ (n ≤ i) → (all_below test n ≡ true → (j : ℕ) → j < n → test j ≡ true) → test i ≡ true
    go parts (inl below) rest = rest parts.1 i below
    go parts (inr above) rest = let here : i ≡ n = omega arith in ap test here ∙ parts.0

-- what is right of each byte value is right of each lane
lanes_say : (of : ℕ → ℕ) (is : ℕ → Bool) (lanes z : List ℕ) → length lanes ≡ 64 → ((i : ℕ) → i < 64 → get_or lanes i 0 < 256) → z ≡ map of lanes
    → all_below (λ x. same (top 7 (of x)) (is x)) 256 ≡ true → Says (mask_l (map (top 7) z) % 2 ^ 64) (λ i. is (get_or lanes i 0))
lanes_say of is lanes z long small e all i within =
    ap (λ ms. bit (mask_l ms % 2 ^ 64) i) (ap (map (top 7)) e ∙ map-map (top 7) of lanes)
    ∙ ap (λ n. bit n i) (mask_l-mod (map (λ x. top 7 (of x)) lanes) 64 (let l = length-map lanes (λ x. top 7 (of x)) in omega (arith, l, long)))
    ∙ says_mask (map (λ x. top 7 (of x)) lanes) i within
    ∙ get_or-map (λ x. top 7 (of x)) lanes i 0 false (omega (arith, long))
    ∙ same_is _ _ (holds_below (λ x. same (top 7 (of x)) (is x)) 256 all (get_or lanes i 0) (small i within))

module _ (lanes : List ℕ) (long : length lanes ≡ 64) where
  abbrev equal : List ℕ → ℕ → List ℕ
  equal xs byte = zip2 (λ a b. ones (eqb a b)) xs (replicate 64 byte)

  is_byte : (byte : ℕ) → equal lanes byte ≡ map (λ x. ones (eqb x byte)) lanes
  is_byte byte = zip2_splat (λ a b. ones (eqb a b)) lanes 64 byte long

  -- with one bit set
  is_joined : (with byte : ℕ) → equal (zip2 bit_or lanes (replicate 64 with)) byte ≡ map (λ x. ones (eqb (bit_or x with) byte)) lanes
  is_joined with byte =
      ap (λ xs. equal xs byte) (zip2_splat bit_or lanes 64 with long)
      ∙ zip2_splat (λ a b. ones (eqb a b)) (map (λ x. bit_or x with) lanes) 64 byte (length-map lanes (λ x. bit_or x with) ∙ long)
      ∙ map-map (λ x. ones (eqb x byte)) (λ x. bit_or x with) lanes

  pub white_say : ((i : ℕ) → i < 64 → get_or lanes i 0 < 256)
      → Says (mask_l (map (top 7) (zip2 bit_or (zip2 bit_or (equal lanes 0x20) (equal lanes 0x0A)) (equal (zip2 bit_or lanes (replicate 64 0x04)) 0x0D))) % 2 ^ 64) (λ i. is_white (get_or lanes i 0))
  white_say small =
      lanes_say (λ x. bit_or (bit_or (ones (eqb x 0x20)) (ones (eqb x 0x0A))) (ones (eqb (bit_or x 0x04) 0x0D))) is_white lanes _ long small
      (zip2_of_maps bit_or _ _ lanes (zip2_of_maps bit_or _ _ lanes (is_byte 0x20) (is_byte 0x0A)) (is_joined 0x04 0x0D)) refl

  pub structural_say : ((i : ℕ) → i < 64 → get_or lanes i 0 < 256)
      → Says (mask_l (map (top 7) (zip2 bit_or (zip2 bit_or (zip2 bit_or (equal (zip2 bit_or lanes (replicate 64 0x20)) 0x7B) (equal (zip2 bit_or lanes (replicate 64 0x20)) 0x7D)) (equal lanes 0x3A)) (equal lanes 0x2C))) % 2 ^ 64) (λ i. is_structural (get_or lanes i 0))
  structural_say small =
      lanes_say (λ x. bit_or (bit_or (bit_or (ones (eqb (bit_or x 0x20) 0x7B)) (ones (eqb (bit_or x 0x20) 0x7D))) (ones (eqb x 0x3A))) (ones (eqb x 0x2C))) is_structural lanes _ long small
      (zip2_of_maps bit_or _ _ lanes (zip2_of_maps bit_or _ _ lanes (zip2_of_maps bit_or _ _ lanes (is_joined 0x20 0x7B) (is_joined 0x20 0x7D)) (is_byte 0x3A)) (is_byte 0x2C)) refl
