use Rattle.std.proofs.Common.{sym, subst}
use Rattle.jp_model.specs.Json.Tree.{Tree}
use Rattle.jp_model.specs.Json.Status.{HasStatus, parsed}
use Rattle.jp_tape.proofs.Refused.{refused_of}
use Rattle.jp_tape.proofs.Statuses.{without_fault}
use Rattle.jp_tape.proofs.builder.Builder.read.Goals as goal

pub returns-in-Some-clause-fault : goal.returns-in-Some-clause-fault
returns-in-Some-clause-fault c =
    let f = c.in_ok-read_nodes.ensures.found in
    refused_of c.args.framing c.args.line.now c.in-Some.fault f.0 c.requires.not_blank (c.requires.verdict.0 c.if-not-is_utf8.false) f.1 (sym (c.in-Some.ensures f.0 f.1 f.2 f.3))

pub returns-in-None-clause-status : goal.returns-in-None-clause-status
returns-in-None-clause-status c =
    let f = c.in_ok-read_nodes.ensures.found in
    let line = c.args.line.now in
    subst (λ (t : Tree). HasStatus c.args.framing line (parsed t)) (sym (c.tapes_are_of_lines.ensures.only line f.0 f.1)) (c.requires.verdict.0 c.if-not-is_utf8.false, f.1, sym (c.in-None.ensures f.0 f.1 f.2 f.3))

pub returns-in-None-clause-made : goal.returns-in-None-clause-made
returns-in-None-clause-made c =
    let f = c.in_ok-read_nodes.ensures.found in
    let line = c.args.line.now in
    let clean = without_fault c.args.framing line f.0 (sym (c.in-None.ensures f.0 f.1 f.2 f.3)) in
    c.tapes_are_of_lines.ensures.made c.read_nodes.new.self.nodes.words.items line f.0 f.1 f.3.words c.requires.room clean.0 clean.1 clean.2
