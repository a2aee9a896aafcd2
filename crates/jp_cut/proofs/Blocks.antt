-- The brackets of some bytes that stand outside strings, counted, and by the bits of a word.
use Rattle.std.proofs.Common.{◌≡◌, ℕ, zero, suc, ◌+◌, ◌-◌, ◌/◌, ◌%◌, ◌^◌, ◌<◌, ◌≤◌, Bool, true, false, not, cond, ◌&&◌, ◌||◌, List, [], ◌∷◌, ◌++◌, length, take, get_or, map, refl, sym, ap, ap₂, subst, ◌∙◌, arith, inl, inr}
use Rattle.std.proofs.lemmas.Bool.Decides.{eqb_tells, nat_tests}
use native.Mathlib.Nat.{pow-suc}
use Rattle.std.proofs.lemmas.List.{length-map, take_all, take_more, get_or-map}
use Rattle.std.proofs.lemmas.Nat.Bits.{bit_at_lowest, bit_at-suc}
use Rattle.std.specs.Prelude.{◌==◌, if◌then◌else◌, None}
use lib.Bits.{bit_and, and_le_r}
use lib.Count.{ones, ones_in, ones_step}
use lib.Lanes.{mask_l}
use Rattle.std.proofs.lemmas.Simd.{mask_l-lt}
use Rattle.jp_lanes.specs.Word.{bit, Says}
use Rattle.jp_lanes.proofs.Words.{says_mask}
use Rattle.jp_masks.specs.Machine.{before, is_marked, xor as xor_bits}
use Rattle.jp_masks.specs.declared.block.Carry.{Carry}
use Rattle.jp_masks.proofs.Bits.{says_and}
use Rattle.jp_model.specs.Characters.{is_quote, is_structural, is_white}
use Rattle.jp_cut.specs.Machine.{behind, is_closing, is_opening, xor}
use Rattle.jp_cut.specs.Passing.{Passes, StaysOpen, behind_all, open_before}
use Rattle.jp_cut.specs.declared.machine.Place.{Place}
use Rattle.jp_cut.specs.declared.machine.Known.{Known}
use Rattle.jp_cut.proofs.Passing.{behind_all-more, stays_more}

-- a bracket that opens, outside strings
abbrev pub opens : Known → ℕ → Bool
opens known byte = not known.inside && is_opening byte

-- one that closes
abbrev pub closes : Known → ℕ → Bool
closes known byte = not known.inside && is_closing byte

-- how many bytes pass a test, by what is known before each
unfoldable pub count : (Known → ℕ → Bool) → Known → List ℕ → ℕ
count test known [] = 0
count test known (byte ∷ rest) = cond (test known byte) 1 0 + count test (behind known byte) rest

-- ---- as long as fewer close than are open, a bracket stays open

apart : (byte : ℕ) → (is_opening byte && is_closing byte) ≡ false
apart byte = grind (arith, nat_tests)

depth_step : (inside opening closing : Bool) (d : ℕ) → (opening && closing) ≡ false → 0 < d
    → (if inside then d else (if opening then d + 1 else (if closing then d - 1 else d))) + cond (not inside && closing) 1 0 ≡ d + cond (not inside && opening) 1 0
depth_step true opening closing d e some = refl
depth_step false true true d e some = absurd (cc)
depth_step false true false d e some = omega arith
depth_step false false true d e some = omega (arith, some)
depth_step false false false d e some = refl

pub few_close : (known : Known) (bytes : List ℕ) → count closes known bytes < known.depth → StaysOpen known bytes
unfolding count
few_close known [] few = few
few_close known (byte ∷ rest) few =
    let one = depth_step known.inside (is_opening byte) (is_closing byte) known.depth (apart byte) (omega (arith, few)) in
    (omega (arith, few), few_close (behind known byte) rest (omega (arith, few, one)))

-- and then as many are open as were open and opened, without those that closed
balance : (known : Known) (bytes : List ℕ) → StaysOpen known bytes → (behind_all known bytes).depth + count closes known bytes ≡ known.depth + count opens known bytes
unfolding count
balance known [] stays = refl
balance known (byte ∷ rest) stays =
    let one = depth_step known.inside (is_opening byte) (is_closing byte) known.depth (apart byte) stays.0 in
    omega (arith, one, balance (behind known byte) rest stays.1)

-- ---- a word of which each bit tells of a byte has as many bits as bytes pass

digit_of : (x : ℕ) (t : Bool) → x < 2 → (x == 1) ≡ t → x ≡ cond t 1 0
digit_of zero t small e = subst (λ b. zero ≡ cond b 1 0) e refl
digit_of (suc zero) t small e = subst (λ b. suc zero ≡ cond b 1 0) e refl
digit_of (suc (suc n)) t small e = absurd (let no : n + 2 < 2 = omega arith in let bad : ⊥ = omega arith in bad)

pub ones_are : (test : Known → ℕ → Bool) (bytes : List ℕ) (word : ℕ) (known : Known) → word < 2 ^ length bytes
    → ((i : ℕ) → i < length bytes → bit word i ≡ test (behind_all known (take i bytes)) (get_or bytes i 0)) → ones word ≡ count test known bytes
unfolding bit ones ones_in count
ones_are test [] word known small says = let none : word ≡ 0 = omega (arith, small) in ap ones none
ones_are test (byte ∷ rest) word known small says =
    let lowest = digit_of (word % 2) (test known byte) (omega arith) (ap (λ n. n == 1) (sym (bit_at_lowest word)) ∙ says 0 (omega arith)) in
    ones_step word
    ∙ ap₂ (λ a b. a + b) lowest
    (ones_are test rest (word / 2) (behind known byte) (omega (arith, small, pow-suc 2 (length rest)))
    (λ i within. ap (λ n. n == 1) (sym (bit_at-suc word i)) ∙ says (suc i) (omega (arith, within))))

-- ---- brackets are structural, and no quotation marks

pub opening_is : (byte : ℕ) → is_opening byte ≡ true → (is_structural byte ≡ true) × (is_quote byte ≡ false)
opening_is byte e = (grind (arith, nat_tests, e), grind (arith, nat_tests, e))

pub closing_is : (byte : ℕ) → is_closing byte ≡ true → (is_structural byte ≡ true) × (is_quote byte ≡ false)
closing_is byte e = (grind (arith, nat_tests, e), grind (arith, nat_tests, e))

and_false : (a : Bool) → (a && false) ≡ false
and_false true = refl
and_false false = refl

marked_true : (outside : Bool) → ((false || (outside && true)) && true) ≡ (outside && true)
marked_true true = refl
marked_true false = refl

-- ---- what the marks of a block know is what is known here

same_xor : (a b : Bool) → xor_bits a b ≡ xor a b
same_xor true b = refl
same_xor false b = refl

-- the same is known of strings and escapes
pub record Agrees (carry : Carry) (known : Known) : Type 0 where
  pub inside : carry.inside ≡ known.inside
  pub escaped : carry.escaped ≡ known.escaped

module _ (known : Known) (first : Carry) (bytes : List ℕ) (same : Agrees first known) where
  abbrev known_at : ℕ → Known
  known_at i = behind_all known (take i bytes)

  abbrev byte_at : ℕ → ℕ
  byte_at i = get_or bytes i 0

  next_known : (i : ℕ) → i < length bytes → known_at (suc i) ≡ behind (known_at i) (byte_at i)
  next_known i within =
      let e : suc i ≡ i + 1 = omega arith in
      ap known_at e ∙ ap (behind_all known) (take_more bytes i 0 within) ∙ behind_all-more known (take i bytes) (byte_at i)

  agrees : (i : ℕ) → i ≤ length bytes → Agrees (before None first bytes i) (known_at i)
  unfolding before
  agrees zero within = same
  agrees (suc i) within =
      let prior = agrees i (omega (arith, within)) in
      let next = next_known i (omega (arith, within)) in
      record {
        inside = same_xor (before None first bytes i).inside (is_quote (byte_at i) && not (before None first bytes i).escaped)
            ∙ ap₂ (λ a b. xor a (is_quote (byte_at i) && not b)) prior.inside prior.escaped ∙ ap (λ (k : Known). k.inside) (sym next);
        escaped = ap (λ b. (byte_at i == 0x5C) && not b) prior.escaped ∙ ap (λ (k : Known). k.escaped) (sym next);
      }

  -- ---- the marks that are brackets are those outside strings

  marked_bracket : (carry : Carry) (byte : ℕ) (test : Bool) → (test ≡ true → (is_structural byte ≡ true) × (is_quote byte ≡ false)) → (is_marked carry byte && test) ≡ (not carry.inside && test)
  marked_bracket carry byte false is = and_false (is_marked carry byte) ∙ sym (and_false (not carry.inside))
  marked_bracket carry byte true is = ap₂ (λ q s. ((q && not carry.escaped) || (not carry.inside && (s || (carry.may_begin && not (is_white byte || q))))) && true) (is refl).1 (is refl).0 ∙ marked_true (not carry.inside)

  -- the bits of a word of marks that are brackets
  module _ (long : length bytes ≡ 64) (marks tested : ℕ) (test : ℕ → Bool) (says : Says marks (λ i. is_marked (before None first bytes i) (byte_at i)))
      (is : tested ≡ mask_l (map test bytes)) (bracket : (byte : ℕ) → test byte ≡ true → (is_structural byte ≡ true) × (is_quote byte ≡ false)) where
    bits_are : Says (bit_and marks tested) (λ i. not (known_at i).inside && test (byte_at i))
    bits_are i within =
        let tests : Says tested (λ j. test (byte_at j)) =
        (λ j low. ap (λ w. bit w j) is ∙ says_mask (map test bytes) j low ∙ get_or-map test bytes j 0 false (omega (arith, long, low))) in
        says_and marks tested _ _ says tests i within
        ∙ marked_bracket (before None first bytes i) (byte_at i) (test (byte_at i)) (bracket (byte_at i))
        ∙ ap (λ b. not b && test (byte_at i)) (agrees i (omega (arith, long, within))).inside

    small : bit_and marks tested < 2 ^ length bytes
    small =
        let bound = mask_l-lt (map test bytes) in
        let count = length-map bytes test in
        omega (arith, and_le_r marks tested, is, bound, ap (λ n. 2 ^ n) count)

    pub ones_marked : ones (bit_and marks tested) ≡ count (λ k byte. not k.inside && test byte) known bytes
    ones_marked =
        ones_are (λ k byte. not k.inside && test byte) bytes (bit_and marks tested) known small
        (λ i within. bits_are i (omega (arith, long, within)))

same_place : (known : Known) (bytes : List ℕ) → (behind_all known bytes).place ≡ known.place
same_place known [] = refl
same_place known (byte ∷ rest) = same_place (behind known byte) rest

known_is : (known : Known) (place : Place) (depth : ℕ) (inside escaped : Bool) → place ≡ known.place → depth ≡ known.depth → inside ≡ known.inside → escaped ≡ known.escaped
    → (let made : Known = record { place = place; depth = depth; inside = inside; escaped = escaped } in made) ≡ known
known_is known place depth inside escaped p d i e = λ t. record { place = p t; depth = d t; inside = i t; escaped = e t }

-- ---- a block is passed over

same_step : (inside opening closing : Bool) (d : ℕ)
    → (if not inside && opening then d + 1 else (if not inside && closing then d - 1 else d)) ≡ (if inside then d else (if opening then d + 1 else (if closing then d - 1 else d)))
same_step true opening closing d = refl
same_step false opening closing d = refl

outside_of : (inside closing : Bool) → (not inside && closing) ≡ true → inside ≡ false
outside_of true closing e = absurd (cc)
outside_of false closing e = refl

-- what is known of a block once it was scanned: these words tell of its marks and of its brackets
pub record IsScanned (known : Known) (bytes : List ℕ) (first next : Carry) (marks opening closing : ℕ) : Type 0 where
  pub long : length bytes ≡ 64
  pub same : Agrees first known
  pub says : Says marks (λ i. is_marked (before None first bytes i) (get_or bytes i 0))
  pub carry : next ≡ before None first bytes 64
  pub opening_is : opening ≡ mask_l (map is_opening bytes)
  pub closing_is : closing ≡ mask_l (map is_closing bytes)

-- what is known of strings before a piece goes on
abbrev pub first_of : Known → Carry
first_of known = record { escaped = known.escaped; inside = known.inside; may_begin = false }

pub is_scanned : (known : Known) (bytes : List ℕ) (next : Carry) (marks opening closing : ℕ) → length bytes ≡ 64
    → Says marks (λ i. is_marked (before None (first_of known) bytes i) (get_or bytes i 0)) → next ≡ before None (first_of known) bytes 64
    → opening ≡ mask_l (map is_opening bytes) → closing ≡ mask_l (map is_closing bytes) → IsScanned known bytes (first_of known) next marks opening closing
is_scanned known bytes next marks opening closing long says carry o c = record {
  long = long;
  same = record { inside = refl; escaped = refl };
  says = says;
  carry = carry;
  opening_is = o;
  closing_is = c;
}

-- the words of its brackets tell of the bytes before each position
module _ {known : Known} {bytes : List ℕ} {first next : Carry} {marks opening closing : ℕ} (s : IsScanned known bytes first next marks opening closing) where
  abbrev now : ℕ → Known
  now i = behind_all known (take i bytes)

  abbrev opened : ℕ
  opened = bit_and marks opening

  abbrev closed : ℕ
  closed = bit_and marks closing

  depth_at : (i : ℕ) → i ≤ 64 → open_before opened closed known.depth i ≡ (now i).depth
  unfolding open_before
  depth_at zero within = refl
  depth_at (suc i) within =
      let byte = get_or bytes i 0 in
      let d = open_before opened closed known.depth i in
      let low : i < 64 = omega (arith, within) in
      ap₂ (λ a b. if a then d + 1 else (if b then d - 1 else d)) (bits_are known first bytes s.same s.long marks opening is_opening s.says s.opening_is opening_is i low) (bits_are known first bytes s.same s.long marks closing is_closing s.says s.closing_is closing_is i low)
      ∙ ap (λ n. if opens (now i) byte then n + 1 else (if closes (now i) byte then n - 1 else n)) (depth_at i (omega (arith, within)))
      ∙ same_step (now i).inside (is_opening byte) (is_closing byte) (now i).depth
      ∙ ap (λ (k : Known). k.depth) (sym (next_known known first bytes s.same i (omega (arith, low, s.long))))

  pub stays_at : (n : ℕ) → n ≤ 64 → ((i : ℕ) → i ≤ n → 0 < open_before opened closed known.depth i) → StaysOpen known (take n bytes)
  stays_at zero within all = subst (λ d. 0 < d) (depth_at 0 within) (all 0 (omega arith))
  stays_at (suc n) within all =
      let e : suc n ≡ n + 1 = omega arith in
      let more : take (suc n) bytes ≡ take n bytes ++ get_or bytes n 0 ∷ [] = ap (λ k. take k bytes) e ∙ take_more bytes n 0 (omega (arith, within, s.long)) in
      let last : 0 < (now (suc n)).depth = subst (λ d. 0 < d) (depth_at (suc n) within) (all (suc n) (omega arith)) in
      subst (StaysOpen known) (sym more)
      (stays_more known (take n bytes) (get_or bytes n 0) (stays_at n (omega (arith, within)) (λ i low. all i (omega (arith, low))))
      (subst (λ (k : Known). 0 < k.depth) (next_known known first bytes s.same n (omega (arith, within, s.long))) last))

  pub one_at : (n : ℕ) → n < 64 → open_before opened closed known.depth n ≡ 1 → (now n).depth ≡ 1
  one_at n within one = sym (depth_at n (omega (arith, within))) ∙ one

  pub outside_at : (n : ℕ) → n < 64 → bit closed n ≡ true → (now n).inside ≡ false
  outside_at n within closes_there =
      outside_of (now n).inside (is_closing (get_or bytes n 0)) (sym (bits_are known first bytes s.same s.long marks closing is_closing s.says s.closing_is closing_is n within) ∙ closes_there)

  whole : take 64 bytes ≡ bytes
  whole = take_all 64 bytes (omega (arith, s.long))

  -- fewer close than are open
  pub few_stay : ones closed < known.depth → StaysOpen known bytes
  few_stay few = few_close known bytes (omega (arith, few, ones_marked known first bytes s.same s.long marks closing is_closing s.says s.closing_is closing_is))

  -- none closes the last
  pub all_stay : ((i : ℕ) → i ≤ 64 → 0 < open_before opened closed known.depth i) → StaysOpen known bytes
  all_stay all = subst (StaysOpen known) whole (stays_at 64 (omega arith) all)

  -- as many close as opened or were open, at most
  pub at_most : StaysOpen known bytes → ones closed ≤ known.depth + ones opened
  at_most stays =
      let opens_are = ones_marked known first bytes s.same s.long marks opening is_opening s.says s.opening_is opening_is in
      let closes_are = ones_marked known first bytes s.same s.long marks closing is_closing s.says s.closing_is closing_is in
      omega (arith, balance known bytes stays, opens_are, closes_are)

  pub block_passes : StaysOpen known bytes → Passes known (take 64 bytes) (record { place = known.place; depth = known.depth + ones opened - ones closed; inside = next.inside; escaped = next.escaped })
  block_passes stays =
      let opens_are = ones_marked known first bytes s.same s.long marks opening is_opening s.says s.opening_is opening_is in
      let closes_are = ones_marked known first bytes s.same s.long marks closing is_closing s.says s.closing_is closing_is in
      let last = agrees known first bytes s.same 64 (omega (arith, s.long)) in
      let bytes_are = ap (behind_all known) (sym whole) in
      let depth : known.depth + ones opened - ones closed ≡ (behind_all known bytes).depth = omega (arith, balance known bytes stays, opens_are, closes_are) in
      record {
        stays = subst (StaysOpen known) (sym whole) stays;
        same = known_is (now 64) known.place _ next.inside next.escaped (sym (same_place known (take 64 bytes)))
            (depth ∙ ap (λ (k : Known). k.depth) bytes_are)
            (ap (λ (k : Carry). k.inside) s.carry ∙ last.inside)
            (ap (λ (k : Carry). k.escaped) s.carry ∙ last.escaped);
      }

-- ---- before a bracket that closes the last

differs : (byte : ℕ) → (byte ≡ 0x5C → ⊥) → (byte == 0x5C) ≡ false
differs byte other = elim (eqb_tells byte 0x5C) [ inl same ↦ absurd (other same.1) | inr no_other ↦ no_other.0 ]

not_escaped : (known : Known) (bytes : List ℕ) (n : ℕ) → 0 < n → n ≤ length bytes → (get_or bytes (n - 1) 0 ≡ 0x5C → ⊥) → (behind_all known (take n bytes)).escaped ≡ false
not_escaped known bytes n some within other =
    let e : n ≡ (n - 1) + 1 = omega (arith, some) in
    let byte = get_or bytes (n - 1) 0 in
    let front = take (n - 1) bytes in
    ap (λ (k : Known). k.escaped) (ap (behind_all known) (ap (λ k. take k bytes) e ∙ take_more bytes (n - 1) 0 (omega (arith, some, within))) ∙ behind_all-more known front byte)
    ∙ ap (λ b. b && not (behind_all known front).escaped) (differs byte other)

pub passes_to : (known : Known) (bytes : List ℕ) (n : ℕ) → 0 < n → n ≤ length bytes → (get_or bytes (n - 1) 0 ≡ 0x5C → ⊥)
    → StaysOpen known (take n bytes) → (behind_all known (take n bytes)).depth ≡ 1 → (behind_all known (take n bytes)).inside ≡ false
    → Passes known (take n bytes) (record { place = known.place; depth = 1; inside = false; escaped = false })
passes_to known bytes n some within other stays one outside = record {
  stays = stays;
  same = known_is (behind_all known (take n bytes)) known.place 1 false false (sym (same_place known (take n bytes))) (sym one) (sym outside)
      (sym (not_escaped known bytes n some within other));
}
