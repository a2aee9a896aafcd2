use Rattle.std.proofs.Common.{ap, ◌∙◌, arith}
use Rattle.jp_iregexp.specs.Words.{word_of}
use Rattle.jp_iregexp.proofs.Bits.{word_pushed}
use Rattle.jp_iregexp.proofs.positions.PositionSet.cover.Goals as goal

pub invariant_of-self-in-loop : goal.invariant_of-self-in-loop
invariant_of-self-in-loop c = record {
  fits = (let u = c.push.ensures.upper_bound in let i = c.loop.invariant in let s = i.size in let w = i.wide in let t = c.loop-test.true in omega (arith, u, s, w, t));
}

pub loop-preserved : goal.loop-preserved
loop-preserved c =
    let i = c.loop.invariant in
    let pushed = c.in_ok-push.ensures in
    record {
      same = λ v. ap (λ x. word_of c.loop.self.first x v) pushed.items ∙ word_pushed c.loop.self.first c.loop.self.words.items v ∙ i.same v;
      from = i.from;
      size = (let s = i.size in let l = pushed.len in omega (arith, s, l));
      wide = i.wide;
    }

pub returns-clause-to : goal.returns-clause-to
returns-clause-to c = (let i = c.loop.invariant in let s = i.size in let w = i.wide in let t = c.loop-test.false in omega (arith, s, w, t))
