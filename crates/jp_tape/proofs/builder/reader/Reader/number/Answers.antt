use Rattle.std.proofs.Common.{false, sym, subst}
use Rattle.jp_tape.specs.declared.builder.tokens.Scalar.{Scalar}
use Rattle.jp_tape.specs.Ahead.{IsPassed}
use Rattle.jp_tape.specs.Reading.{FoundScalar}
use Rattle.jp_tape.specs.Machine.{Value_at}
use Rattle.jp_tape.proofs.Ahead.{passes_solid}
use Rattle.jp_tape.proofs.Scalars.{found_number}
use Rattle.jp_tape.proofs.Steps.{no_value_step}
use Rattle.jp_tape.proofs.Reader.{no_text}
use Rattle.jp_tape.proofs.builder.reader.Reader.number.Goals as goal

pub returns-in-None-clause-refused : goal.returns-in-None-clause-refused
returns-in-None-clause-refused g c =
    let v = c.requires.next in
    no_text c.args.line.now (Value_at v.frames v.own c.args.at) v.leads (no_value_step c.args.line.now v.frames v.own c.args.at (c.requires.none c.in-None.ensures.none))

pub pass_leaf-requires-clause-found : goal.pass_leaf-requires-clause-found
pass_leaf-requires-clause-found g c =
    let f = c.in-Some.ensures.found in
    subst (λ (r : Scalar). FoundScalar c.args.line.now c.args.at r) (sym c.scalar_of.ensures) (found_number c.args.line.now c.args.at c.in-Some.end false f.0 f.1 f.2 f.3 f.4)

pub pass_leaf-requires-clause-passed : goal.pass_leaf-requires-clause-passed
pass_leaf-requires-clause-passed g c =
    let e = c.in-Some.ensures in
    subst (λ (r : Scalar). IsPassed c.args.line.now c.args.self.now.marks.now 1 r.end) (sym c.scalar_of.ensures) (passes_solid c.args.line.now c.args.self.now.marks.now c.args.at c.in-Some.end c.requires.next.ahead e.within.0 e.within.1 e.solid)

pub pass_leaf-requires-in-Some-any_number_end-clause-found : goal.pass_leaf-requires-in-Some-any_number_end-clause-found
pass_leaf-requires-in-Some-any_number_end-clause-found g c =
    let f = c.in-Some-any_number_end.ensures.found in
    subst (λ (r : Scalar). FoundScalar c.args.line.now c.args.at r) (sym c.scalar_of-in-Some-any_number_end.ensures) (found_number c.args.line.now c.args.at c.in-Some-any_number_end.number.end c.in-Some-any_number_end.number.is_long f.0 f.1 f.2 f.3 f.4)

pub pass_leaf-requires-in-Some-any_number_end-clause-passed : goal.pass_leaf-requires-in-Some-any_number_end-clause-passed
pass_leaf-requires-in-Some-any_number_end-clause-passed g c =
    let e = c.in-Some-any_number_end.ensures in
    subst (λ (r : Scalar). IsPassed c.args.line.now c.args.self.now.marks.now 1 r.end) (sym c.scalar_of-in-Some-any_number_end.ensures) (passes_solid c.args.line.now c.args.self.now.marks.now c.args.at c.in-Some-any_number_end.number.end c.requires.next.ahead e.within.0 e.within.1 e.solid)
