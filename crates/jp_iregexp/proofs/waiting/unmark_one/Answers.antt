use Rattle.std.proofs.Common.{arith, refl}
use Rattle.jp_iregexp.proofs.Marks.{unmarked_one}
use Rattle.jp_iregexp.proofs.waiting.unmark_one.Goals as goal

pub returns : goal.returns
returns c = unmarked_one c.args.state c.args.has.now _ refl (omega arith)
