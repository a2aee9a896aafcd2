use Rattle.std.proofs.Common.{◌≡◌, ap, arith, length}
use Rattle.jp_strings.specs.Points.{points_of}
use Rattle.jp_strings.proofs.Sizes.{points_short}
use Rattle.jp_strings.proofs.Texts.{text_of_body, text_within, points_at_end}
use Rattle.jp_strings.proofs.order.scalar_count.Goals as goal

pub loop-at-init : goal.loop-at-init
loop-at-init c = record { text = text_of_body c.args.body.now c.requires.text; counted = omega arith }

pub overflow_add-count : goal.overflow_add-count
unfolding points_of
overflow_add-count c =
    let short = points_short c.args.body.now c.requires.text in
    let counted = c.loop-at.invariant.counted in
    let more = c.count_some-some.ensures.points in
    record { fits = omega (arith, short, counted, more, c.requires.size) }

pub overflow_cast-result : goal.overflow_cast-result
unfolding points_of
overflow_cast-result c =
    let short = points_short c.args.body.now c.requires.text in
    let counted = c.loop-at.invariant.counted in
    record { fits = omega (arith, short, counted, c.requires.size) }

pub returns : goal.returns
unfolding points_of
returns c =
    let within = text_within c.args.body.now c.loop-at.at c.loop-at.invariant.text in
    let end : c.loop-at.at ≡ length c.args.body.now = omega arith in
    let none = ap length (points_at_end c.args.body.now c.loop-at.at end) in
    let counted = c.loop-at.invariant.counted in
    omega (arith, none, counted)
