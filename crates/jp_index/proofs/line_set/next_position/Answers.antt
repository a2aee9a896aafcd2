-- The lowest bit of the rest of a word, or none of it.
use Rattle.std.proofs.Common.{◌≡◌, ◌+◌, ◌-◌, ◌/◌, ◌%◌, ◌^◌, ◌<◌, ◌≤◌, ◌∙◌, ℕ, arith, ap, List, refl, get_or, inl, inr, w64}
use Rattle.std.specs.Int.{trailing_zeros}
use Rattle.std.proofs.lemmas.Bool.{cases_lt}
use Rattle.std.proofs.Math.Nat.{div-le_self}
use Rattle.std.proofs.lemmas.Nat.Bits.{bit_at-trailing_zeros}
use Rattle.jp_index.specs.LineSets.{bit_of}
use Rattle.jp_index.proofs.SetBits.{found_in_word, none_in_word, within_word}
use Rattle.jp_index.proofs.line_set.next_position.Goals as goal

-- the lowest bit that is set
lowest : (ws : List ℕ) (position : ℕ) → ((i : ℕ) → get_or ws i 0 < 2 ^ 64) → (get_or ws (position / 64) 0 / 2 ^ (position % 64) ≡ 0 → ⊥)
    → (position % 64 + trailing_zeros w64 (get_or ws (position / 64) 0 / 2 ^ (position % 64)) < 64) × (bit_of ws (position + trailing_zeros w64 (get_or ws (position / 64) 0 / 2 ^ (position % 64))) ≡ 1)
    × ((k : ℕ) → position ≤ k → k < position + trailing_zeros w64 (get_or ws (position / 64) 0 / 2 ^ (position % 64)) → bit_of ws k ≡ 0)
lowest ws position few some =
    let word = get_or ws (position / 64) 0 in
    let rest : ℕ = word / 2 ^ (position % 64) in
    let most : word < 2 ^ 64 = few (position / 64) in
    let small : rest < 2 ^ 64 = let d = div-le_self word (2 ^ (position % 64)) in omega arith in
    let above : 0 < rest = elim (cases_lt 0 rest) [ inl low ↦ low | inr high ↦ let z : rest ≡ 0 = omega arith in absurd (some z) ] in
    let zeros = bit_at-trailing_zeros w64 rest above small in
    let n : ℕ = trailing_zeros w64 rest in
    let l : position % 64 + n < 64 = within_word word (position % 64) n most zeros.1 in
    (l, found_in_word ws position n l ∙ zeros.1, λ k low high. let e : k ≡ position + (k - position) = omega arith in ap (bit_of ws) e ∙ (found_in_word ws position (k - position) (omega arith) ∙ zeros.2 (k - position) (omega arith)))

pub returns-then-rest-ne0-clause-within : goal.returns-then-rest-ne0-clause-within
returns-then-rest-ne0-clause-within c = let found = lowest c.args.words.now c.loop-position.position (λ i. omega (arith, c.type_inv.words i)) c.if-rest-ne0.true in omega (arith, found.0)

pub returns-then-rest-ne0-clause-between : goal.returns-then-rest-ne0-clause-between
returns-then-rest-ne0-clause-between c = λ k low high.
    let found = lowest c.args.words.now c.loop-position.position (λ i. omega (arith, c.type_inv.words i)) c.if-rest-ne0.true in
    elim (cases_lt k c.loop-position.position) [
      | inl before ↦ c.loop-position.invariant.between k low before
      | inr behind ↦ found.2 k behind high
    ]

pub returns-then-rest-ne0-clause-there : goal.returns-then-rest-ne0-clause-there
returns-then-rest-ne0-clause-there c = λ l. (lowest c.args.words.now c.loop-position.position (λ i. omega (arith, c.type_inv.words i)) c.if-rest-ne0.true).1

pub loop-position-preserved : goal.loop-position-preserved
loop-position-preserved c = record {
  from = omega arith;
  within = omega arith;
  between = λ k low high. elim (cases_lt k c.loop-position.position) [
    | inl before ↦ c.loop-position.invariant.between k low before
    | inr behind ↦ none_in_word c.args.words.now c.loop-position.position (get_or c.args.words.now (c.loop-position.position / 64) 0 / 2 ^ (c.loop-position.position % 64)) refl c.if-rest-ne0.false k behind high
  ];
}
