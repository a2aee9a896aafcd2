-- One path more is written, or a beginning of its line.
use Rattle.std.proofs.Common.{◌≡◌, ◌∙◌, ℕ, List, sym, subst, arith, get_or}
use Rattle.std.proofs.lemmas.List.{take_all}
use Rattle.std.proofs.lemmas.Option.{get_or_from_slice_get}
use Rattle.jp_devices.specs.Devices.{Received}
use Rattle.jp_model.specs.Meaning.Paths.{path_text}
use Rattle.jp_model.specs.Script.Machine.{said}
use Rattle.jp_model.specs.Steps.{Step}
use Rattle.jp_syntax.specs.SingularPaths.{path_steps}
use Rattle.jp_cli.specs.Listed.{listed}
use Rattle.jp_cli.proofs.RowsWritten.{row_written, row_in_part}
use Rattle.jp_cli.proofs.listing.write_paths.Goals as goal

abbrev line : List Step → List ℕ
line p = said (path_text p)

pub returns-in-Err-clause-text : goal.returns-in-Err-clause-text
returns-in-Err-clause-text g c =
    let paths = c.args.store.now.state.paths in
    let path = path_steps c.path_at.result.now in
    let is : path ≡ get_or paths c.loop-number.number path = sym (get_or_from_slice_get paths c.loop-number.number path path c.path_at.ensures) in
    row_in_part line paths c.loop-number.number path (omega (arith, c.loop-number-test.true, c.index_count-number-end.ensures)) is _ _ _ c.loop-number.invariant.written c.in-Err.ensures.text

pub loop-number-preserved : goal.loop-number-preserved
loop-number-preserved g c =
    let paths = c.args.store.now.state.paths in
    let path = path_steps c.path_at.result.now in
    let is : path ≡ get_or paths c.loop-number.number path = sym (get_or_from_slice_get paths c.loop-number.number path path c.path_at.ensures) in
    record {
      working = c.in_default.ensures.fault;
      early = c.in_default.ensures.after ∙ c.loop-number.invariant.early;
      written = row_written line paths c.loop-number.number path (omega (arith, c.loop-number-test.true, c.index_count-number-end.ensures)) is _ _ _ c.loop-number.invariant.written c.in_default.ensures.text;
    }

pub returns-clause-text : goal.returns-clause-text
returns-clause-text g c =
    let paths = c.args.store.now.state.paths in
    subst (λ (ps : List (List Step)). Received g.W.Write.contents c.args.out.now c.loop-number.out (listed ps))
    (take_all c.loop-number.number paths (omega (arith, c.loop-number-test.false, c.index_count-number-end.ensures))) c.loop-number.invariant.written
