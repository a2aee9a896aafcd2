use Rattle.std.proofs.Common.{◌≡◌, ℕ, [], ◌∷◌, ◌≢◌, ◌-◌, ◌/◌, ◌<◌, ◌≤◌, bit_and, length, length-append, arith, ◌∙◌, ap}
use Rattle.jp_iregexp.specs.Words.{word_of}
use Rattle.jp_iregexp.proofs.Bits.{words_in, word_behind}
use Rattle.jp_iregexp.proofs.Moves.{pushed_at, pushed_rest, within_sound, within_complete}
use Rattle.jp_iregexp.proofs.positions.PositionSet.moved_within.Goals as goal

pub loop-w-preserved : goal.loop-w-preserved
loop-w-preserved c =
    let l = c.loop-w in
    let first = c.min-first.result in
    let one = words_in c.args.self.now in
    let other = words_in c.args.other.now in
    let old = l.words.items in
    let new = c.push.new.self.items in
    let up = c.moved.result in
    let out = c.word.result in
    let items = c.in_ok-push.ensures.items in
    let size = l.invariant.size in
    let at : word_of first new l.w ≡ bit_and up out = ap (λ x. word_of first x l.w) items ∙ pushed_at first old (bit_and up out) l.w size in
    let none : word_of first old l.w ≡ 0 = word_behind first old l.w (omega (arith, size)) in
    let rest : (v : ℕ) → v ≢ l.w → word_of first new v ≡ word_of first old v = λ v d. ap (λ x. word_of first x v) items ∙ pushed_rest first old (bit_and up out) l.w size v d in
    let longer = ap length items in
    record {
      size = omega (arith, size, longer, length-append old (bit_and up out ∷ []));
      sound = within_sound one other (word_of first old) (word_of first new) l.w c.args.distance up out at none rest c.moved.ensures c.word.ensures l.invariant.sound;
      complete = within_complete one other (word_of first old) (word_of first new) l.w c.args.distance up out at none rest c.moved.ensures c.word.ensures first l.invariant.complete;
    }

pub returns : goal.returns
returns c q =
    let l = c.loop-w in (
      (λ h. l.invariant.sound q h),
      (λ m.
          let far = m.0 in
          let low = c.low.ensures (q - c.args.distance) m.1 in
          let from = c.low-2.ensures q m.2 in
          let high = c.high.ensures.above (q - c.args.distance) m.1 in
          let to = c.high-2.ensures.above q m.2 in
          let start : c.min-first.result ≤ q / 64 = omega (arith, c.min-first.ensures, c.max-low.ensures, c.saturating_add.ensures, low, from, far) in
          let past : q / 64 < l.w = omega (arith, c.loop-w-test.false, c.min-high.ensures, c.saturating_add-2.ensures, high, to, far, c.high-2.ensures.fits) in
          l.invariant.complete q start past far m.1 m.2),
    )
