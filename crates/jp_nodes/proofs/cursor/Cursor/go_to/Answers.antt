use Rattle.std.proofs.Common.{refl, arith}
use Rattle.jp_nodes.specs.Cursors.{line_of, place_of}
use Rattle.jp_nodes.specs.Tapes.{spelled}
use Rattle.jp_nodes.proofs.Places.{length-tree}
use Rattle.jp_nodes.proofs.Cursors.{gone_to}
use Rattle.jp_nodes.proofs.cursor.Cursor.go_to.Goals as goal

pub invariant_of-result : goal.invariant_of-result
unfolding line_of
invariant_of-result c =
    let n = length-tree (spelled c.args.self.line.now) in
    record { spelled_line = c.args.self.spelled_line; words_are = c.args.self.words_are; short = c.args.self.short; whole = c.args.self.whole; exponents = c.args.self.exponents; distinct = c.args.self.distinct; within = omega (arith, n) }

pub returns : goal.returns
unfolding line_of place_of
returns c = record { line = refl; place = refl; node = gone_to c.args.self _ _ refl refl }
