use Rattle.std.proofs.Common.{◌≡◌, Some, arith, rules, ◌∙◌, ap}
use Rattle.jp_iregexp.specs.declared.graph.State.TheVariants.{Scalar}
use Rattle.jp_iregexp.proofs.Walking.{node_here}
use Rattle.jp_iregexp.proofs.entries.Entries.first.Goals as goal

pub returns : goal.returns
returns c =
    let states = c.args.self.now.states.items in
    let w = c.in-Some-Scalar in
    let state : w.field-0.now ≡ Scalar w.class w.next = search rules in
    record {
      from = omega arith;
      ascii = c.in_ok-scalar.ensures.ascii;
      class = w.class;
      is = node_here states c.args.number w.field-0.now (search rules) (search rules) ∙ ap Some state;
      only = c.in_ok-scalar.ensures.scalar;
    }
