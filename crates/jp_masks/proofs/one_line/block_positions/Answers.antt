use Rattle.std.proofs.Common.{◌≡◌, ℕ, ◌+◌, ◌^◌, ◌<◌, ◌≤◌, List, [], ◌∷◌, ◌++◌, map, length, refl, sym, ap, ◌∙◌, arith, w64, length-append, append_assoc, append-nil}
use Rattle.std.proofs.lemmas.List.{length-map}
use Rattle.std.specs.Int.{trailing_zeros}
use Rattle.jp_masks.specs.Positions.{set_bits}
use Rattle.jp_masks.proofs.Positions.{lowest_first, lowest_set, lowest_within, length-set_bits, set_bits_none, was_there, without_lowest}
use Rattle.jp_masks.proofs.one_line.block_positions.Goals as goal

-- one more is gathered, the first of those that are left
first_gathered : (base first : ℕ) (gathered left others all : List ℕ) → left ≡ first ∷ others → gathered ++ map (λ i. base + i) left ≡ all
    → (gathered ++ (base + first) ∷ []) ++ map (λ i. base + i) others ≡ all
first_gathered base first gathered left others all e so_far = rw append_assoc (ap (λ l. gathered ++ map (λ i. base + i) l) (sym e) ∙ so_far)

-- where some are left, not all are gathered
not_full : (base first : ℕ) (gathered left others all : List ℕ) → left ≡ first ∷ others → gathered ++ map (λ i. base + i) left ≡ map (λ i. base + i) all → length all ≤ 64
    → length gathered < 64
not_full base first gathered left others all e so_far few =
    let sizes = simp (length-append, length-map) at (ap length so_far) in
    let some = ap length e in
    omega (arith, sizes, some, few)

pub loop-rest-init : goal.loop-rest-init
loop-rest-init c = record { gathered = rw c.new-positions.ensures refl; left = λ i within set. set }

pub loop-rest-preserved : goal.loop-rest-preserved
loop-rest-preserved c =
    let l = c.loop-rest in
    let some : 0 < l.rest = omega arith in
    let small : l.rest < 2 ^ 64 = omega arith in
    record {
      gathered = rw c.push.ensures.items (first_gathered c.args.base (trailing_zeros w64 l.rest) l.positions.items (set_bits l.rest) (set_bits (without_lowest l.rest)) _ (lowest_first l.rest some small) l.invariant.gathered);
      left = λ i within set. l.invariant.left i within (was_there l.rest some small i set);
    }

pub push-requires : goal.push-requires
push-requires c =
    let l = c.loop-rest in
    let some : 0 < l.rest = omega arith in
    let small : l.rest < 2 ^ 64 = omega arith in
    (omega arith, not_full c.args.base (trailing_zeros w64 l.rest) l.positions.items (set_bits l.rest) (set_bits (without_lowest l.rest)) (set_bits c.args.marks) (lowest_first l.rest some small) l.invariant.gathered (length-set_bits c.args.marks))

pub overflow_add-base : goal.overflow_add-base
overflow_add-base c =
    let l = c.loop-rest in
    let some : 0 < l.rest = omega arith in
    let small : l.rest < 2 ^ 64 = omega arith in
    let within = lowest_within l.rest some small in
    let room = c.requires (trailing_zeros w64 l.rest) within (l.invariant.left (trailing_zeros w64 l.rest) within (lowest_set l.rest some small)) in
    record { fits = omega (arith, room) }

pub returns : goal.returns
returns c =
    let l = c.loop-rest in
    sym (append-nil l.positions.items)
    ∙ ap (λ left. l.positions.items ++ map (λ i. c.args.base + i) left) (sym (ap set_bits c.loop-rest-test.false ∙ set_bits_none))
    ∙ l.invariant.gathered
