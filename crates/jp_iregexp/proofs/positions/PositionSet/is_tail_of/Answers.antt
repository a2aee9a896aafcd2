use Rattle.std.proofs.Common.{◌≡◌, ℕ, ◌+◌, ◌/◌, ◌^◌, ◌<◌, ◌≤◌, arith, rules, sym, subst, false, w64}
use Rattle.std.specs.Int.{bit_at, trailing_zeros}
use Rattle.jp_iregexp.proofs.Bits.{BitOf, words_in, bit_in_front, bit_behind}
use Rattle.jp_iregexp.proofs.Tails.{TailBelow, low_above, low_none, tail_start, tail_skip, tail_step, tail_end}
use Rattle.jp_iregexp.proofs.positions.PositionSet.is_tail_of.Goals.{then-begun, else-begun, then-low-lt64+else-own-low, else-low-lt64}
use Rattle.jp_iregexp.proofs.positions.PositionSet.is_tail_of.Goals as goal

pub loop-w-init : goal.loop-w-init
loop-w-init c =
    let set = c.args.self.now in
    tail_start (words_in set) (words_in c.args.whole.now) set.first false (λ q l h. bit_in_front set.first set.words.items q (omega (arith, l)) h)

pub loop-w-preserved : goal.loop-w-preserved
loop-w-preserved c =
    let l = c.loop-w in
    let one = words_in c.args.self.now in
    let all = words_in c.args.whole.now in
    let own = c.word-own.result in
    let low = c.if-begun.low in
    let small : own < 2 ^ 64 = search rules in
    let is : one l.w ≡ own = sym c.word-own.ensures in
    let above : (i : ℕ) → bit_at own i ≡ 1 → low ≤ i = elim c.if-begun.branch [ then-begun k ↦ λ i h. (let zero = k.low-is in omega (arith, zero)) | else-begun k ↦ λ i h. (let a = low_above own i small h in let at = k.low-is in omega (arith, a, at)) ] in
    let before : (q : ℕ) → q / 64 < l.w → BitOf one q → low ≡ 0 = elim c.if-begun.branch [ then-begun k ↦ λ q b h. k.low-is | else-begun k ↦ λ q b h. absurd (l.invariant.none k.if-begun.false q b h) ] in
    elim c.if-low-lt64.branch [
      | then-low-lt64+else-own-low k ↦ subst (TailBelow one all (l.w + 1)) (sym k.begun-is) (tail_step one all l.w own l.begun is l.invariant low k.word.result (sym k.word.ensures) k.if-own-low.false above before)
      | else-low-lt64 k ↦
          (let far = k.if-low-lt64.false in
          let skip : (b : l.begun ≡ false) → low ≡ trailing_zeros w64 own → TailBelow one all (l.w + 1) l.begun = λ b at. tail_skip one all l.w own l.begun is l.invariant b (λ i h. low_none own i small (omega (arith, far, at)) h) in
          subst (TailBelow one all (l.w + 1)) (sym k.begun-is) (elim c.if-begun.branch [ then-begun b ↦ (let zero = b.low-is in absurd (omega (arith, far, zero))) | else-begun b ↦ skip b.if-begun.false b.low-is ]))
    ]

pub returns : goal.returns
returns c =
    let one = c.args.self.now in
    let all = c.args.whole.now in
    let l = c.loop-w in
    let past = c.loop-w-test.false in
    let end = c.max-end.ensures in
    λ _. tail_end one all l.w l.begun l.invariant
    (λ q f h. bit_behind one.first one.words.items q (omega (arith, f, past, end, c.len.ensures)) h)
    (λ q f h. bit_behind all.first all.words.items q (omega (arith, f, past, end, c.len-2.ensures)) h)
