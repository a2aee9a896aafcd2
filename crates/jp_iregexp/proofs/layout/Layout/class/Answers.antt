use Rattle.std.proofs.Common.{arith, refl, rules}
use Rattle.jp_iregexp.specs.Nodes.{class_of}
use Rattle.jp_iregexp.proofs.Layouts.{laid_one}
use Rattle.jp_iregexp.proofs.layout.Layout.class.Goals as goal

pub returns : goal.returns
returns c =
    laid_one c.args.self.now.states.items c.push.new.self.items (record { class = c.in_ok-class.class; after = 0 }) (class_of c.args.class.now) c.len-number.result
    c.in_ok-push.ensures.items c.in_ok-class.ensures refl (search rules) (omega arith)
