use Rattle.std.proofs.Common.{◌≡◌, ◌<◌, ◌^◌, ◌*◌, ◌/◌, ◌%◌, ◌-◌, ◌⊎◌, inl, inr, arith, ap, refl, subst}
use Rattle.jp_iregexp.specs.Words.{word_of}
use Rattle.jp_iregexp.proofs.Moves.{moved_one, moved_two}
use Rattle.jp_iregexp.proofs.positions.PositionSet.moved.Goals as goal
use Rattle.jp_iregexp.proofs.positions.PositionSet.moved.Goals.{then-bits-eq0-via-then-bits-eq0, then-bits-eq0-via-else-bits-eq0+then-w-whole-2}

pub returns-then-bits-eq0 : goal.returns-then-bits-eq0
returns-then-bits-eq0 c =
    let words = word_of c.args.self.now.first c.args.self.now.words.items in
    let bits = c.args.distance % 64 in
    let either : (bits ≡ 0) ⊎ (c.args.w ≡ c.args.distance / 64) = elim c.then-bits-eq0.branch [
      | then-bits-eq0-via-then-bits-eq0 w ↦ inl w.if-bits-eq0.true
      | then-bits-eq0-via-else-bits-eq0+then-w-whole-2 w ↦ inr w.if-w-whole-2.true
    ] in
    moved_one words c.args.w c.args.distance (c.args.distance / 64) bits refl refl (c.word.result * 2 ^ bits % 2 ^ 64) c.if-w-whole.false (ap (λ n. n * 2 ^ bits % 2 ^ 64) c.word.ensures) either

pub returns : goal.returns
returns c =
    let words = word_of c.args.self.now.first c.args.self.now.words.items in
    let whole = c.args.distance / 64 in
    let bits = c.args.distance % 64 in
    let small : words (c.args.w - whole - 1) < 2 ^ 64 = subst (λ n. n < 2 ^ 64) c.word-2.ensures c.word-2.type_inv in
    moved_two words c.args.w c.args.distance whole bits refl refl (c.word.result * 2 ^ bits % 2 ^ 64) (c.word-2.result / 2 ^ (64 - bits)) (omega (arith, c.if-w-whole.false, c.if-w-whole-2.false)) (omega (arith, c.if-bits-eq0.false)) small
    (ap (λ n. n * 2 ^ bits % 2 ^ 64) c.word.ensures) (ap (λ n. n / 2 ^ (64 - bits)) c.word-2.ensures)
