-- As many were counted as decide.
use Rattle.jp_eval.proofs.Totals.{full_so, not_listed}
use Rattle.jp_eval.proofs.frame.Frame.has.Goals as goal

pub returns-then-self-most : goal.returns-then-self-most
returns-then-self-most c e line others = full_so line c.args.most c.args.self.now others (not_listed c.args.most e) c.if-self-most.true
