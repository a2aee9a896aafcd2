-- What the run put into the buffer went to the writer behind it, or is left in the buffer.
use Rattle.std.proofs.Common.{◌∙◌, sym, ap}
use Rattle.std.specs.Io.Buffered.{writer_buffer, writer_inner}
use Rattle.jp_devices.specs.Devices.{Device}
use Rattle.jp_model.specs.Script.Commands.{command_of}
use Rattle.jp_query.specs.Status.{query_of}
use Rattle.jp_cli.specs.Buffered.{program_setup}
use Rattle.jp_cli.proofs.ToldEnd.{carried, program_ended, put_into}
use Rattle.jp_cli.proofs.words.Options.run.Goals as goal

pub returns-clause-output : goal.returns-clause-output
returns-clause-output g c =
    let output = c.run-ended.ensures.output in
    let buffered = c.into_inner.result in
    let out = c.write_out-out.result in
    let rest = c.write_out-out.ensures in
    let whole : Device g.row.W.Denot = record out { taken = put_into buffered } in
    program_ended query_of command_of _ c.new-out.result c.run-ended.new.out c.args.out out whole (program_setup c.args.self.now.framing)
    (carried c.args.out whole c.new-out.result c.run-ended.new.out
    (ap (λ b. writer_inner b) c.new-out.ensures.device ∙ c.in-Ok.ensures.inner) (ap (λ b. writer_buffer b) c.new-out.ensures.device ∙ c.in-Ok.ensures.empty)
    (ap put_into c.into_inner.ensures))
    (record { begins = rest.took.begins; all = rest.took.all })
    rest.flushed c.failed.result (sym c.failed.ensures)
    c.run-ended.result c.end_told-end.result c.end_told-end.ensures
    _ _ _ _ _ _ output.0 output.1 output.2 c.run-ended.ensures.ends c.run-ended.ensures.ended output.3
