use Rattle.std.proofs.Common.{length, sym, arith}
use Rattle.std.proofs.lemmas.Bool.{eqb-true}
use Rattle.jp_tape.proofs.Ahead.{first_inside, none_is_end, some_is_first, not_empty}
use Rattle.jp_tape.proofs.builder.scan.first_mark.Goals as goal

pub returns-then-is_empty : goal.returns-then-is_empty
returns-then-is_empty c =
    let none = eqb-true _ _ (sym c.if-is_empty.ensures) in
    record { value = none_is_end c.args.marks.now (length c.args.line.now) none; inside = λ from a some. absurd (omega (arith, none, some)) }

pub returns : goal.returns
returns c = record {
  value = some_is_first c.args.marks.now (length c.args.line.now) 0 (not_empty _ c.if-is_empty.ensures);
  inside = λ from a some. first_inside c.args.line.now c.args.marks.now from 0 a some;
}
