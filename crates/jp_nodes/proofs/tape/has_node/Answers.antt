use Rattle.std.proofs.Common.{length, ap, arith}
use Rattle.std.proofs.lemmas.Bool.Decides.{nat_tests}
use Rattle.jp_nodes.proofs.Unpacking.{compact_is, medium_is, length-compact, length-medium}
use Rattle.jp_nodes.proofs.tape.has_node.Goals as goal

pub returns-then-bits-eq-COMPACT : goal.returns-then-bits-eq-COMPACT
returns-then-bits-eq-COMPACT c =
    let words = c.args.words.now in
    let e = ap length (compact_is c.args.bits words c.if-bits-eq-COMPACT.true) in
    let l = length-compact words in
    (λ t. grind (arith, nat_tests, e, l, t), λ t. grind (arith, nat_tests, e, l, t))

pub returns-then-bits-eq-MEDIUM : goal.returns-then-bits-eq-MEDIUM
returns-then-bits-eq-MEDIUM c =
    let words = c.args.words.now in
    let e = ap length (medium_is c.args.bits words c.if-bits-eq-MEDIUM.true) in
    let l = length-medium words in
    (λ t. grind (arith, nat_tests, e, l, t), λ t. grind (arith, nat_tests, e, l, t))
