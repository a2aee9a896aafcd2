use Rattle.std.proofs.Common.{◌≡◌, ◌∙◌, ◌++◌, List, [], ℕ, ap, sym, arith, append-nil, length}
use Rattle.std.specs.Str.{encode_utf8_all}
use Rattle.std.specs.String.{string_bytes}
use Rattle.jp_strings.specs.Points.{points_of, points_from}
use Rattle.jp_strings.proofs.Texts.{text_of_body, text_within, points_at_end}
use Rattle.jp_strings.proofs.order.add_unescaped.Goals as goal

pub loop-at-init : goal.loop-at-init
loop-at-init c = record { text = text_of_body c.args.body.now c.requires; bytes = ap (λ (xs : List ℕ). xs ++ encode_utf8_all (points_from c.args.body.now 0)) c.reserve.ensures.bytes }

pub loop-at-preserved : goal.loop-at-preserved
loop-at-preserved c =
    let some = c.in_ok-at.ensures in
    record { text = some.text; bytes = some.bytes ∙ c.loop-at.invariant.bytes }

pub loop-at-smaller : goal.loop-at-smaller
loop-at-smaller c = c.in_ok-at.ensures.some

pub returns : goal.returns
unfolding points_of
returns c =
    let body = c.args.body.now in
    let within = text_within body c.loop-at.at c.loop-at.invariant.text in
    let end : c.loop-at.at ≡ length body = omega arith in
    let none : points_from body c.loop-at.at ≡ [] = points_at_end body c.loop-at.at end in
    sym (append-nil (string_bytes c.loop-at.text)) ∙ (ap (λ (xs : List ℕ). string_bytes c.loop-at.text ++ encode_utf8_all xs) (sym none) ∙ c.loop-at.invariant.bytes)
