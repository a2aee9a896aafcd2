-- The counts at the place are the sum.
use Rattle.std.proofs.Common.{◌≡◌, ◌∙◌, ◌+◌, List, ap, arith, length, refl}
use Rattle.jp_survey.specs.Counts.{counts_at, lines_of, no_counts, nodes_of}
use Rattle.jp_survey.specs.declared.count.PlaceCounts.{PlaceCounts}
use Rattle.jp_survey.proofs.count.Counts.add.Goals as goal

pub returns : goal.returns
returns c =
    let old = c.args.self.now.places.items in let sum = c.in_ok-summed.summed in let at = c.in-Some.ensures.lookup.3 in let all = ap length c.deref.ensures.value in
    let was : c.in-Some.counts.now ≡ counts_at old c.args.place = at.1 no_counts ∙ ap (λ (cs : List PlaceCounts). counts_at cs c.args.place) c.deref.ensures.value in
    record {
      adds = record {
        sum = sum;
        inside = omega (arith, at.0, all);
        new_is = refl;
        nodes = λ kind. c.in_ok-summed.ensures.nodes kind ∙ ap (λ (cs : PlaceCounts). nodes_of kind cs + nodes_of kind c.args.some.now) was;
        in_lines = λ kind. c.in_ok-summed.ensures.lines kind ∙ ap (λ (cs : PlaceCounts). lines_of kind cs + lines_of kind c.args.some.now) was;
        last = c.in_ok-summed.ensures.last;
      };
    }
