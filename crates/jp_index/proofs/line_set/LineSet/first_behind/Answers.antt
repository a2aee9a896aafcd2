-- The next bit that is set, or none.
use Rattle.std.proofs.Common.{◌≡◌, ◌+◌, ◌*◌, ◌<◌, ◌≤◌, ℕ, arith, length, subst, inl, inr}
use Rattle.std.proofs.lemmas.Bool.{cases_lt}
use Rattle.jp_index.specs.LineSets.{bit_of}
use Rattle.jp_index.proofs.SetBits.{first_there, none_there, numbers_past}
use Rattle.jp_index.proofs.line_set.LineSet.first_behind.Goals as goal

pub returns-then-position-end : goal.returns-then-position-end
returns-then-position-end c =
    let words = c.args.self.now.words.items in
    let held = c.args.self.now.words.ok.0 in
    let next = c.next_position-position.result in
    let found = c.next_position-position.ensures in
    let from : c.args.n + 1 ≤ next = omega (arith, c.len-end.ensures, c.min.ensures, found.from, c.if-position-end.true) in
    let there : next < 64 * length words = omega (arith, c.len-end.ensures, c.if-position-end.true) in
    first_there words c.args.n next (omega (arith, there)) from
    (λ k low high. subst (λ ws. bit_of ws k ≡ 0) c.deref.ensures.value (found.between k (omega (arith, c.min.ensures)) high))
    there (subst (λ ws. next < 64 * length ws → bit_of ws next ≡ 1) c.deref.ensures.value found.there there)

pub returns-else-position-end : goal.returns-else-position-end
returns-else-position-end c =
    let words = c.args.self.now.words.items in
    let held = c.args.self.now.words.ok.0 in
    let next = c.next_position-position.result in
    let found = c.next_position-position.ensures in
    let within : next ≤ 64 * length words = subst (λ ws. next ≤ 64 * length ws) c.deref.ensures.value found.within in
    let past : 64 * length words ≤ next = omega (arith, c.len-end.ensures, c.if-position-end.false) in
    elim (cases_lt (64 * length words) (c.args.n + 1)) [
      | inl behind ↦ numbers_past words c.args.n (omega (arith, behind))
      | inr before ↦ none_there words c.args.n next within (omega (arith, before, past)) (λ k low high. subst (λ ws. bit_of ws k ≡ 0) c.deref.ensures.value (found.between k (omega (arith, c.min.ensures, low)) high)) past
    ]
