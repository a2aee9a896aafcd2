-- What was counted before, and the nodes of the sum.
use Rattle.std.proofs.Common.{rules, ◌≡◌, ◌∙◌, ◌+◌, ℕ, arith, ap, refl}
use Rattle.jp_eval.specs.Tallies.{cut, total_of}
use Rattle.jp_eval.proofs.Totals.{counted_so, none_counted, some_counted}
use Rattle.jp_eval.proofs.frame.Frame.count.Goals as goal

pub returns-in_ok-count-clause-told : goal.returns-in_ok-count-clause-told
returns-in_ok-count-clause-told c line most selected l h =
    let old = c.args.self.now in
    let count : c.in_ok-count.count ≡ old.sum.count + c.args.sum.count = search rules in
    counted_so line most (record { found = old.found; sum = record { count = c.in_ok-count.count; last = c.args.sum.last }; answers = old.answers; walked = old.walked }) old _ selected l refl
    (ap (λ (n : ℕ). cut most (record { count = n; last = (total_of line c.args.sum).last })) count ∙ some_counted line most c.args.sum selected (total_of line old.sum) h c.if-sum-gt0.true)

pub returns-else-sum-gt0-clause-told : goal.returns-else-sum-gt0-clause-told
returns-else-sum-gt0-clause-told c line most selected l h =
    let none = c.if-sum-gt0.false in
    counted_so line most c.args.self.now c.args.self.now _ selected l refl (none_counted line most c.args.sum selected (total_of line c.args.self.now.sum) h (omega (arith, none)))
