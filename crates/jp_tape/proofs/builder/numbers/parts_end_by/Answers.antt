use Rattle.std.proofs.Common.{◌≡◌, ◌+◌, ◌<◌, ℕ, sym, subst, arith}
use Rattle.std.proofs.lemmas.Option.{IfSome_then}
use Rattle.jp_tape.specs.Places.{Ended}
use Rattle.jp_tape.specs.Parts.{HasParts}
use Rattle.jp_tape.proofs.PlainNumbers.{digit_there, int_alone, int_and_fraction}
use Rattle.jp_tape.proofs.builder.numbers.parts_end_by.Goals as goal

pub is_int-requires-clause-digits : goal.is_int-requires-clause-digits
is_int-requires-clause-digits c k low high = digit_there c.args.line.now k (c.requires.first.before k low high)

pub returns-then-line-point-ne46 : goal.returns-then-line-point-ne46
returns-then-line-point-ne46 c =
    let line = c.args.line.now in
    let some = c.is_int.ensures.some c.if-not-is_int.false in
    let int = c.is_int.ensures.int c.if-not-is_int.false in
    IfSome_then c.ended_at.result {P = λ (to : ℕ). (to ≡ c.args.point) × Ended line c.args.point} {Q = λ to. HasParts line c.args.from to} c.ended_at.ensures
    (λ to e. subst (HasParts line c.args.from) (sym e.0) (int_alone line c.args.from c.args.point int.0 int.1 some int.2 e.1))

pub returns : goal.returns
returns c =
    let line = c.args.line.now in
    let some = c.is_int.ensures.some c.if-not-is_int.false in
    let int = c.is_int.ensures.int c.if-not-is_int.false in
    let order = c.requires.second.order in
    let behind : c.args.point + 1 < c.args.next = omega (arith, order, c.if-next-point.false) in
    IfSome_then c.ended_at-2.result {P = λ (to : ℕ). (to ≡ c.args.next) × Ended line c.args.next} {Q = λ to. HasParts line c.args.from to} c.ended_at-2.ensures
    (λ to e. subst (HasParts line c.args.from) (sym e.0)
    (int_and_fraction line c.args.from c.args.point c.args.next int.0 int.1 some int.2 c.if-line-point-ne46.false behind c.requires.inside (λ k low high. digit_there line k (c.requires.second.before k low high)) e.1))
