-- The set bits of a word, the lowest byte first.
use Rattle.std.proofs.Common.{◌≡◌, ℕ, zero, suc, ◌+◌, ◌*◌, ◌-◌, ◌/◌, ◌%◌, ◌^◌, ◌<◌, ◌≤◌, ◌==◌, inl, inr, Bool, true, false, cond, List, [], ◌∷◌, ◌++◌, length, map, ◌⊎◌, refl, sym, ap, ap₂, ◌∙◌, arith, subst, append_assoc}
use Rattle.std.specs.List.{filter, range_with_len}
use Rattle.std.specs.Int.{bit_at}
use Rattle.std.proofs.lemmas.Bool.{cases_lt, false≢true}
use Rattle.std.proofs.lemmas.List.{append-nil, map-append}
use Rattle.std.proofs.lemmas.List.Elements.{filter-append}
use Rattle.std.proofs.Math.Nat.{mod-add-mod, mod-lt}
use Rattle.std.proofs.lemmas.Simd.{map-map}
use Rattle.std.proofs.lemmas.Nat.{div-add-mod', pow_pos}
use Rattle.std.proofs.lemmas.Nat.Bits.{bit_at_cat_low, bit_at_cat_high, bit_at_above}
use lib.Pow.{shr_lt}
use Rattle.jp_lanes.specs.Word.{bit}
use Rattle.jp_masks.specs.Positions.{set_bits, byte_bits}
use Rattle.jp_masks.proofs.Positions.{filter_same, filter_none, length-filter_range}

low : (n i : ℕ) → i < 8 → bit (n % 256) i ≡ bit n i
unfolding bit
low n i l = ap (λ b. b == 1) (sym (bit_at_cat_low (n / 256) 8 (n % 256) i l) ∙ ap (λ m. bit_at m i) (div-add-mod' n 256))

high : (k n i : ℕ) → bit n (k + i) ≡ bit (n / 2 ^ k) i
unfolding bit
high k n i =
    let back : k + i - k ≡ i = omega arith in
    let some : 0 < 2 ^ k = pow_pos k in
    let small : n % 2 ^ k < 2 ^ k = mod-lt n some in
    ap (λ b. b == 1) (ap (λ m. bit_at m (k + i)) (sym (div-add-mod' n (2 ^ k))) ∙ bit_at_cat_high (n / 2 ^ k) k (n % 2 ^ k) (k + i) small (omega arith) ∙ ap (bit_at (n / 2 ^ k)) back)

none_above : (n i : ℕ) → n < 2 ^ 64 → 56 ≤ i → bit (n / 256) i ≡ false
unfolding bit
none_above n i l h = ap (λ b. b == 1) (bit_at_above (n / 256) 56 i (omega (arith, l)) h)

range_parted : (a n m t k : ℕ) → t ≡ n + m → k ≡ a + n → range_with_len a t ≡ range_with_len a n ++ range_with_len k m
range_parted a zero m t k e f = let same : t ≡ m = omega (arith, e) in let here : a ≡ k = omega (arith, f) in ap₂ range_with_len here same
range_parted a (suc n) m zero k e f = absurd (omega (arith, e))
range_parted a (suc n) m (suc t) k e f = ap (λ xs. a ∷ xs) (range_parted (a + 1) n m t k (omega (arith, e)) (omega (arith, f)))

filter_parted : (p : ℕ → Bool) (a n m t k : ℕ) → t ≡ n + m → k ≡ a + n → filter p (range_with_len a t) ≡ filter p (range_with_len a n) ++ filter p (range_with_len k m)
filter_parted p a n m t k e f = ap (filter p) (range_parted a n m t k e f) ∙ filter-append p (range_with_len a n) (range_with_len k m)

filter_moved : (by : ℕ) (p q : ℕ → Bool) (k a n : ℕ) → k ≡ by + a → ((i : ℕ) → p (by + i) ≡ q i) → filter p (range_with_len k n) ≡ map (λ i. by + i) (filter q (range_with_len a n))
filter_moved by p q k a zero e same = refl
filter_moved by p q k a (suc n) e same =
    let here : p k ≡ q a = ap p e ∙ same a in
    let rest = filter_moved by p q (k + 1) (a + 1) n (omega (arith, e)) same in
    (λ t. cond (here t) (e t ∷ rest t) (rest t)) ∙ go (q a)
  where
    go : (b : Bool) → cond b ((by + a) ∷ map (λ i. by + i) (filter q (range_with_len (a + 1) n))) (map (λ i. by + i) (filter q (range_with_len (a + 1) n))) ≡ map (λ i. by + i) (cond b (a ∷ filter q (range_with_len (a + 1) n)) (filter q (range_with_len (a + 1) n)))
    go true = refl
    go false = refl

-- the bits of the lowest byte come first
pub parted : (word : ℕ) → word < 2 ^ 64 → set_bits word ≡ byte_bits (word % 256) ++ map (λ i. 8 + i) (set_bits (word / 256))
unfolding set_bits byte_bits
parted word l =
    let p = bit word in
    let q = bit (word / 256) in
    let first = filter_same p (bit (word % 256)) 0 8 (λ i low_i within. sym (low word i within)) in
    let moved = filter_moved 8 p q 8 0 56 refl (high 8 word) in
    let none = filter_none q 56 8 (λ i far within. none_above word i l far) in
    let all = filter_parted q 0 56 8 64 56 refl refl ∙ ap (λ xs. filter q (range_with_len 0 56) ++ xs) none ∙ append-nil (filter q (range_with_len 0 56)) in
    filter_parted p 0 8 56 64 8 refl refl ∙ ap₂ (λ xs ys. xs ++ ys) first (moved ∙ ap (map (λ i. 8 + i)) (sym all))

same_where : (p : ℕ → Bool) (f g : ℕ → ℕ) (a n : ℕ) → ((i : ℕ) → i < a + n → p i ≡ true → f i ≡ g i) → map f (filter p (range_with_len a n)) ≡ map g (filter p (range_with_len a n))
same_where p f g a zero same = refl
same_where p f g a (suc n) same = go (p a) refl (same_where p f g (a + 1) n (λ i l h. same i (omega (arith, l)) h))
  where
    go : (b : Bool) → p a ≡ b → map f (filter p (range_with_len (a + 1) n)) ≡ map g (filter p (range_with_len (a + 1) n))
        → map f (cond b (a ∷ filter p (range_with_len (a + 1) n)) (filter p (range_with_len (a + 1) n))) ≡ map g (cond b (a ∷ filter p (range_with_len (a + 1) n)) (filter p (range_with_len (a + 1) n)))
    go true e rest = ap₂ (λ x xs. x ∷ xs) (same a (omega arith) e) rest
    go false e rest = rest

-- a sum that wraps may wrap before
exact : (from : ℕ) (xs : List ℕ) → map (λ i. (from % 2 ^ 32 + i) % 2 ^ 32) xs ≡ map (λ i. (from + i) % 2 ^ 32) xs
exact from xs = λ t. map (λ i. mod-add-mod from (2 ^ 32) i t) xs

moved_on : (from : ℕ) (xs : List ℕ) → map (λ i. (from + 8 + i) % 2 ^ 32) xs ≡ map (λ i. (from + i) % 2 ^ 32) (map (λ i. 8 + i) xs)
moved_on from [] = refl
moved_on from (x ∷ xs) = let here : from + 8 + x ≡ from + (8 + x) = omega arith in ap₂ (λ y ys. y % 2 ^ 32 ∷ ys) here (moved_on from xs)

-- one more byte is written
pub written_more : (front new : List ℕ) (all : List ℕ) (from word : ℕ) → word < 2 ^ 64 → new ≡ front ++ map (λ i. (from % 2 ^ 32 + i) % 2 ^ 32) (byte_bits (word % 256))
    → front ++ map (λ i. (from + i) % 2 ^ 32) (set_bits word) ≡ all → new ++ map (λ i. (from + 8 + i) % 2 ^ 32) (set_bits (word / 256)) ≡ all
written_more front new all from word l is before =
    let b = byte_bits (word % 256) in
    let later = set_bits (word / 256) in
    ap₂ (λ xs ys. xs ++ ys) (is ∙ ap (λ xs. front ++ xs) (exact from b)) (moved_on from later)
    ∙ append_assoc front (map (λ i. (from + i) % 2 ^ 32) b) (map (λ i. (from + i) % 2 ^ 32) (map (λ i. 8 + i) later))
    ∙ ap (λ xs. front ++ xs) (sym (map-append (λ i. (from + i) % 2 ^ 32) b (map (λ i. 8 + i) later)) ∙ ap (map (λ i. (from + i) % 2 ^ 32)) (sym (parted word l)))
    ∙ before

-- the bits of a word whose lowest bits are zero
none_past : (k word i : ℕ) → word < 2 ^ 64 → 64 ≤ k + i → bit (word / 2 ^ k) i ≡ false
unfolding bit
none_past k word i l h = sym (high k word i) ∙ ap (λ b. b == 1) (bit_at_above word 64 (k + i) l h)

skipped : (k word : ℕ) → k < 64 → word < 2 ^ 64 → ((i : ℕ) → i < k → bit word i ≡ false) → set_bits word ≡ map (λ i. k + i) (set_bits (word / 2 ^ k))
unfolding set_bits
skipped k word few l clear =
    let p = bit word in
    let q = bit (word / 2 ^ k) in
    let m = 64 - k in
    let moved = filter_moved k p q k 0 m (omega arith) (high k word) in
    let first = filter_none p 0 k (λ i low within. clear i (omega (arith, within))) in
    let last = filter_none q m k (λ i far within. none_past k word i l (omega (arith, far))) in
    let all = filter_parted q 0 m k 64 m (omega (arith, few)) (omega arith) ∙ ap (λ xs. filter q (range_with_len 0 m) ++ xs) last ∙ append-nil (filter q (range_with_len 0 m)) in
    filter_parted p 0 k m 64 k (omega (arith, few)) (omega arith) ∙ ap₂ (λ xs ys. xs ++ ys) first (moved ∙ ap (map (λ i. k + i)) (sym all))

-- the positions of a word's bits, each counted from a position that none is before
pub counted : (base start from k word : ℕ) → base < 2 ^ 32 → start < 2 ^ 32 → k < 64 → word < 2 ^ 64 → from ≡ ((base + (2 ^ 32 - start)) % 2 ^ 32 + k) % 2 ^ 32 → ((i : ℕ) → i < k → bit word i ≡ false)
    → ((i : ℕ) → i < 64 → bit word i ≡ true → base + i < 2 ^ 32) → ((i : ℕ) → i < 64 → bit word i ≡ true → start ≤ base + i)
    → map (λ i. (from + i) % 2 ^ 32) (set_bits (word / 2 ^ k)) ≡ map (λ i. base + i - start) (set_bits word)
unfolding set_bits
counted base start from k word b s few l e clear fits order =
    same_where (bit (word / 2 ^ k)) (λ i. (from + i) % 2 ^ 32) (λ i. base + (k + i) - start) 0 64 (λ i within set. here i set (cases_lt (k + i) 64))
    ∙ sym (map-map (λ i. base + i - start) (λ i. k + i) (set_bits (word / 2 ^ k)))
    ∙ ap (map (λ i. base + i - start)) (sym (skipped k word few l clear))
  where
    here : (i : ℕ) → bit (word / 2 ^ k) i ≡ true → (k + i < 64) ⊎ (64 ≤ k + i) → (from + i) % 2 ^ 32 ≡ base + (k + i) - start
    here i set (inr past) = absurd (false≢true (sym (none_past k word i l past) ∙ set))
    here i set (inl within) =
        let there = high k word i ∙ set in
        let room = fits (k + i) within there in
        let behind = order (k + i) within there in
        omega (arith, e, b, s, few, room, behind)

-- what is left of a word after `byte` bytes
pub smaller : (byte word : ℕ) → byte < 8 → word < 2 ^ (64 - byte * 8) → word / 256 < 2 ^ (64 - (byte + 1) * 8)
smaller byte word l h =
    let same : 64 - byte * 8 ≡ 64 - (byte + 1) * 8 + 8 = omega (arith, l) in
    shr_lt (64 - (byte + 1) * 8) 8 (subst (λ n. word < 2 ^ n) same h)

pub none_left : (byte word : ℕ) → byte ≡ 8 → word < 2 ^ (64 - byte * 8) → word ≡ 0
none_left byte word e h = let all : word < 1 = subst (λ b. word < 2 ^ (64 - b * 8)) e h in omega (arith, all)

pub length-byte_bits : (byte : ℕ) → length (byte_bits byte) ≤ 8
unfolding byte_bits
length-byte_bits byte = length-filter_range (bit byte) 0 8
