use Rattle.std.proofs.Common.{◌≡◌, ◌∙◌, ◌-◌, ap, sym, true, false, not, Bool, length}
use lib.Lanes.{chunk}
use Rattle.std.proofs.lemmas.Bool.{true≢false}
use Rattle.jp_lanes.proofs.search.end_blocks_differ.Goals as goal

not_both : (b : Bool) → not b ≡ true → b ≡ true → ⊥
not_both true e t = absurd (cc)
not_both false e t = absurd (cc)

pub returns-then-not-equal_blocks : goal.returns-then-not-equal_blocks
returns-then-not-equal_blocks g c t e = true≢false (sym (c.equal_blocks.ensures.1 (ap (λ xs. chunk 0 g.row.N xs) e)) ∙ c.if-not-equal_blocks.true)

pub returns : goal.returns
returns g c t e = not_both _ t (c.equal_blocks-2.ensures.1 (ap (λ xs. chunk (length c.args.a.now - g.row.N) g.row.N xs) e))
