-- One row more is written, or a beginning of it.
use Rattle.std.proofs.Common.{◌∙◌, ℕ, List, get_or, sym, subst}
use Rattle.std.proofs.lemmas.Grind.{get_or_default_zero}
use Rattle.jp_devices.proofs.Chains.{Part}
use Rattle.jp_devices.specs.Devices.{Received}
use Rattle.jp_cli.specs.Found.{place_text}
use Rattle.jp_cli.proofs.RowsWritten.{row_written, row_in_part, placed}
use Rattle.jp_cli.proofs.rows.write_nodes.Goals as goal

pub returns-in-Err-clause-text : goal.returns-in-Err-clause-text
returns-in-Err-clause-text g c =
    let text = place_text c.args.framing c.args.line c.args.view in
    let places : List ℕ = c.args.places.now in
    let place = get_or places c.loop-place.place-index 0 in
    let row = placed c.args.framing c.args.line c.args.view place c.at.result c.at.ensures.line c.at.ensures.place in
    row_in_part text places c.loop-place.place-index place c.loop-place-test.true (sym (get_or_default_zero places c.loop-place.place-index place c.loop-place-test.true)) _ _ _
    c.loop-place.invariant.written (subst (Part g.W.Write.contents c.loop-place.out c.write_node.new.out) row c.in-Err.ensures.text)

pub loop-place-preserved : goal.loop-place-preserved
loop-place-preserved g c =
    let text = place_text c.args.framing c.args.line c.args.view in
    let places : List ℕ = c.args.places.now in
    let place = get_or places c.loop-place.place-index 0 in
    let row = placed c.args.framing c.args.line c.args.view place c.at.result c.at.ensures.line c.at.ensures.place in
    record {
      working = c.in_default.ensures.fault;
      early = c.in_default.ensures.after ∙ c.loop-place.invariant.early;
      written = row_written text places c.loop-place.place-index place c.loop-place-test.true (sym (get_or_default_zero places c.loop-place.place-index place c.loop-place-test.true)) _ _ _
          c.loop-place.invariant.written (subst (Received g.W.Write.contents c.loop-place.out c.write_node.new.out) row c.in_default.ensures.text);
    }
