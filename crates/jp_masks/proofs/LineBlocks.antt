-- The marks of a line that is read block by block.
use Rattle.std.proofs.Common.{◌≡◌, ℕ, ◌+◌, ◌-◌, ◌<◌, ◌≤◌, nat_lt, Bool, true, false, ◌&&◌, List, [], ◌++◌, length, take, map, flat_map, get_or, refl, sym, ap, ap₂, ◌∙◌, arith, subst, take_all, None, replicate}
use Rattle.std.proofs.lemmas.Bool.{lt-ltb, le-ltb}
use Rattle.std.proofs.lemmas.List.{length-append, length-replicate, take_more, flat_map_more, take-append-le}
use lib.Bits.{bit_and}
use Rattle.jp_model.specs.Json.Marks.{marks}
use Rattle.jp_lanes.specs.Word.{bit, Says}
use Rattle.jp_masks.specs.Positions.{set_bits}
use Rattle.jp_masks.specs.Machine.{start, is_marked, before}
use Rattle.jp_masks.specs.declared.block.Carry.{Carry}
use Rattle.jp_masks.proofs.Bits.{bit-and}
use Rattle.jp_masks.proofs.LineMore.{known_after, before-part}
use Rattle.jp_masks.proofs.Along.{marks_grow}

pub and-true : (a b : Bool) → b ≡ true → (a && b) ≡ a
and-true true b e = e
and-true false b e = refl

pub and-false : (a b : Bool) → b ≡ false → (a && b) ≡ false
and-false true b e = e
and-false false b e = refl

-- the bytes of the first blocks
pub read-more : (blocks : List (List ℕ)) (k : ℕ) (d : List ℕ) → k < length blocks → flat_map (λ b. b) (take (k + 1) blocks) ≡ flat_map (λ b. b) (take k blocks) ++ get_or blocks k d
read-more blocks k d within = ap (flat_map (λ b. b)) (take_more blocks k d within) ∙ sym (flat_map_more (λ b. b) [] (take k blocks) (get_or blocks k d))

-- a part of a block, of which a word tells
part_marked : (text block positions : List ℕ) (first : Carry) (base word n : ℕ) → length block ≡ 64 → n ≤ 64 → positions ≡ marks text → first ≡ known_after None text → base ≡ length text
    → ((i : ℕ) → i < n → bit word i ≡ is_marked (before None first block i) (get_or block i 0)) → ((i : ℕ) → n ≤ i → i < 64 → bit word i ≡ false)
    → positions ++ map (λ i. base + i) (set_bits word) ≡ marks (text ++ take n block)
part_marked text block positions first base word n long within e f g says none =
    let here : (i : ℕ) → i < n → bit word i ≡ is_marked (before None (known_after None text) block i) (get_or block i 0) =
    subst (λ (k : Carry). (i : ℕ) → i < n → bit word i ≡ is_marked (before None k block i) (get_or block i 0)) f says in
    ap₂ (λ (x : List ℕ) (m : ℕ). x ++ map (λ i. m + i) (set_bits word)) e g ∙ sym (marks_grow text block word n long within here none)

pub more_marked : (text block positions : List ℕ) (first : Carry) (base word : ℕ) → length block ≡ 64 → positions ≡ marks text → first ≡ known_after None text → base ≡ length text
    → Says word (λ i. is_marked (before None first block i) (get_or block i 0)) → positions ++ map (λ i. base + i) (set_bits word) ≡ marks (text ++ block)
more_marked text block positions first base word long e f g says =
    part_marked text block positions first base word 64 long (omega arith) e f g says (λ i low high. absurd (omega arith)) ∙ ap (λ l. marks (text ++ l)) (take_all 64 block (omega arith))

pub more_known : (text block : List ℕ) (first next : Carry) → length block ≡ 64 → first ≡ known_after None text → next ≡ before None first block 64 → next ≡ known_after None (text ++ block)
more_known text block first next long f e =
    e ∙ ap (λ (k : Carry). before None k block 64) f ∙ sym (before-part None start text block 64)
    ∙ ap (before None start (text ++ block)) (sym (length-append text block ∙ ap (λ n. length text + n) long))

-- the last bytes, with zeros after them
pub last_marked : (text rest positions : List ℕ) (first : Carry) (base word ones : ℕ) → length rest < 64 → positions ≡ marks text → first ≡ known_after None text → base ≡ length text
    → Says word (λ i. is_marked (before None first (rest ++ replicate (64 - length rest) 0) i) (get_or (rest ++ replicate (64 - length rest) 0) i 0)) → Says ones (λ i. nat_lt i (length rest))
    → positions ++ map (λ i. base + i) (set_bits (bit_and word ones)) ≡ marks (text ++ rest)
last_marked text rest positions first base word ones short e f g says at_ones =
    let block = rest ++ replicate (64 - length rest) 0 in
    let long : length block ≡ 64 = omega (arith, length-append rest (replicate (64 - length rest) 0), length-replicate {A = ℕ} (64 - length rest) 0) in
    part_marked text block positions first base (bit_and word ones) (length rest) long (omega arith) e f g
    (λ i low. bit-and word ones i ∙ and-true (bit word i) (bit ones i) (at_ones i (omega arith) ∙ lt-ltb i (length rest) low) ∙ says i (omega arith))
    (λ i low high. bit-and word ones i ∙ and-false (bit word i) (bit ones i) (at_ones i high ∙ le-ltb i (length rest) low))
    ∙ ap (λ l. marks (text ++ l)) (take-append-le (length rest) rest (replicate (64 - length rest) 0) (omega arith) ∙ take_all (length rest) rest (omega arith))
