-- Each turn goes back by a step.
use Rattle.std.proofs.Common.{◌≡◌, ◌∙◌, ◌-◌, ◌<◌, ap, arith, length, take}
use Rattle.std.proofs.lemmas.List.{length-take-le}
use Rattle.jp_survey.proofs.Ways.{way_back}
use Rattle.jp_survey.proofs.listing.Way.go_back.Goals as goal

pub loop-turn-preserved : goal.loop-turn-preserved
loop-turn-preserved c =
    let was = c.loop-turn.invariant in let old = c.loop-turn.self in let places = old.places.items in let path = old.path.items in
    let before : c.pop.new.self.items ≡ take (length old.places.items - 1) old.places.items = c.pop.ensures.rest ∙ ap (λ n. take (n - 1) c.loop-turn.self.places.items) c.loop-turn.self.places.ok.0 in
    let shorter : c.pop-in-loop-turn.new.self.items ≡ take (length old.path.items - 1) old.path.items = c.pop-in-loop-turn.ensures.rest ∙ ap (λ n. take (n - 1) c.loop-turn.self.path.items) c.loop-turn.self.path.ok.0 in
    let left = c.loop-turn-test.true in let long = was.long in let all = c.len-turn-end.ensures in let fits = c.args.self.now.path.ok.0 in
    let some : 0 < length old.path.items = omega (arith, left, long, all, fits) in
    let less = ap length shorter ∙ length-take-le (length old.path.items - 1) old.path.items (omega arith) in
    record {
      long = omega (arith, less, long, some);
      way = λ paths h. way_back paths places c.pop.new.self.items path c.pop-in-loop-turn.new.self.items some before shorter (was.way paths h);
    }
