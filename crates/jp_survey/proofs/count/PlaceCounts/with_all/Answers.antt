-- Each kind has the sum of its own.
use Rattle.std.proofs.Common.{◌≡◌, ◌+◌}
use Rattle.jp_survey.specs.Counts.{lines_of, nodes_of}
use Rattle.jp_survey.specs.declared.count.PlaceCounts.{PlaceCounts}
use Rattle.jp_survey.specs.declared.kind.NodeKind.{NodeKind}
use Rattle.jp_survey.proofs.Beside.{each_kind}
use Rattle.jp_survey.proofs.count.PlaceCounts.with_all.Goals as goal

pub returns-clause-nodes : goal.returns-clause-nodes
returns-clause-nodes c =
    let sum : PlaceCounts =
    record { null = c.in_ok-with.field-0; boolean = c.in_ok-with-2.field-0; number = c.in_ok-with-3.field-0; string = c.in_ok-with-4.field-0; array = c.in_ok-with-5.field-0; object = c.in_ok-with-6.field-0 } in
    each_kind (λ (kind : NodeKind). nodes_of kind sum ≡ nodes_of kind c.args.self + nodes_of kind c.args.other.now) c.in_ok-with.ensures.nodes c.in_ok-with-2.ensures.nodes
    c.in_ok-with-3.ensures.nodes c.in_ok-with-4.ensures.nodes c.in_ok-with-5.ensures.nodes c.in_ok-with-6.ensures.nodes

pub returns-clause-lines : goal.returns-clause-lines
returns-clause-lines c =
    let sum : PlaceCounts =
    record { null = c.in_ok-with.field-0; boolean = c.in_ok-with-2.field-0; number = c.in_ok-with-3.field-0; string = c.in_ok-with-4.field-0; array = c.in_ok-with-5.field-0; object = c.in_ok-with-6.field-0 } in
    each_kind (λ (kind : NodeKind). lines_of kind sum ≡ lines_of kind c.args.self + lines_of kind c.args.other.now) c.in_ok-with.ensures.lines c.in_ok-with-2.ensures.lines
    c.in_ok-with-3.ensures.lines c.in_ok-with-4.ensures.lines c.in_ok-with-5.ensures.lines c.in_ok-with-6.ensures.lines
