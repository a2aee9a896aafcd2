use Rattle.std.proofs.Common.{◌∙◌, ◌++◌, Result, Ok, Err}
use Rattle.std.specs.Result.{OnOk}
use Rattle.jp_masks.proofs.FoundLaw.{found_fed}
use Rattle.jp_masks.proofs.Unchanged.{after_err, also_err, as_before, cut_unchanged}
use Rattle.jp_masks.proofs.scanner.Scanner.feed.Goals as goal

on_ok : {T E : Type 0} (r : Result T E) (P Q : Type 0) → (P → Q) → OnOk r P → OnOk r Q
on_ok (Ok x) P Q f p = f p
on_ok (Err e) P Q f p = tt

pub returns-else-is_err-clause-lines : goal.returns-else-is_err-clause-lines
returns-else-is_err-clause-lines c framing text was =
    on_ok c.take_in-taken.result _ _ (found_fed framing (text ++ c.args.piece.now) c.take_in-taken.new.self c.take_in-taken.new.sink) (c.take_in-taken.ensures.scanned framing text was)

pub returns-then-is_err-clause-err_sink : goal.returns-then-is_err-clause-err_sink
returns-then-is_err-clause-err_sink c =
    let kept = c.cut_back.ensures in
    let size = c.sizes-rows.ensures in
    also_err c.take_in-taken.result _ (cut_unchanged c.args.sink.now c.take_in-taken.new.sink c.cut_back.new.self _ _ c.take_in-taken.ensures.grown size.rows size.positions kept.rows kept.positions (kept.before ∙ size.before) kept.utf8)

pub returns-then-is_err-clause-err_told : goal.returns-then-is_err-clause-err_told
returns-then-is_err-clause-err_told c =
    after_err c.take_in-taken.result _ _ (as_before c.args.sink.now c.cut_back.new.self) (returns-then-is_err-clause-err_sink c)
