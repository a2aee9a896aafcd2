use Rattle.std.proofs.Common.{arith, ◌≡◌, length}
use Rattle.jp_strings.proofs.Texts.{points_at_end, text_within}
use Rattle.jp_strings.proofs.scalars.ScalarsIterator.next.Goals as goal

pub returns-then-self-clause-steps : goal.returns-then-self-clause-steps
returns-then-self-clause-steps c =
    let e : c.args.self.now.at ≡ length c.args.self.now.body.now = omega arith in
    let none = points_at_end c.args.self.now.body.now c.args.self.now.at e in
    (none, none)

pub scalar_at-scalar-requires-clause-inside : goal.scalar_at-scalar-requires-clause-inside
scalar_at-scalar-requires-clause-inside c =
    let within = text_within c.args.self.now.body.now c.args.self.now.at c.args.self.now.text in
    omega (arith, within)
