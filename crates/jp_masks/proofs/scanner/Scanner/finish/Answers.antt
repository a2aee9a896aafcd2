use Rattle.std.proofs.Common.{◌∙◌}
use Rattle.jp_masks.proofs.Unchanged.{after_err, as_before, cut_unchanged}
use Rattle.jp_masks.proofs.scanner.Scanner.finish.Goals as goal

pub returns-then-is_err-clause-err_sink : goal.returns-then-is_err-clause-err_sink
returns-then-is_err-clause-err_sink c =
    let kept = c.cut_back.ensures in
    let size = c.sizes-rows.ensures in
    after_err c.last_block-done.result _ _ (λ grown. cut_unchanged c.args.sink.now c.last_block-done.new.sink c.cut_back.new.self _ _ grown size.rows size.positions kept.rows kept.positions (kept.before ∙ size.before) kept.utf8) c.last_block-done.ensures.grown

pub returns-then-is_err-clause-err_told : goal.returns-then-is_err-clause-err_told
returns-then-is_err-clause-err_told c =
    after_err c.last_block-done.result _ _ (as_before c.args.sink.now c.cut_back.new.self) (returns-then-is_err-clause-err_sink c)
