-- The row is shown after those that are kept.
use Rattle.std.proofs.Common.{◌∙◌, ◌++◌, ℕ, List, Err, Ok, ap}
use Rattle.jp_context.proofs.Showing.{after_selected, selected_part, selected_whole}
use Rattle.jp_context.proofs.Writing.{writes_less}
use Rattle.jp_context.proofs.state.Groups.select.Goals as goal
use Rattle.jp_sink.specs.Texts.{written}
use Rattle.jp_sink.proofs.Texts.{both_written}

pub returns-in_err-show_front-clause-shows : goal.returns-in_err-show_front-clause-shows
returns-in_err-show_front-clause-shows g c =
    let old = c.args.self.now in let from = c.args.text.now in let to = c.show_front.new.text in let fault = c.in_err-show_front.field-0.0 in
    selected_part old from to c.args.row.now c.show_front.new.self c.from_residual.result fault c.from_residual.ensures.1
    (writes_less from to fault _ c.args.row.now c.in_err-show_front.ensures.written)

pub returns-in_err-put-clause-shows : goal.returns-in_err-put-clause-shows
returns-in_err-put-clause-shows g c =
    let old = c.args.self.now in let from = c.args.text.now in let to = c.put.new.self in let fault = c.in_err-put.field-0.0 in
    selected_part old from to c.args.row.now c.show_front.new.self c.from_residual-in_err-put.result fault c.from_residual-in_err-put.ensures.1
    (both_written (Err fault) from c.show_front.new.text to _ c.args.row.now c.in_ok-show_front.ensures.written c.in_err-put.ensures.written)

pub returns-clause-shows : goal.returns-clause-shows
returns-clause-shows g c more =
    let old = c.args.self.now in let from = c.args.text.now in let to = c.put.new.self in
    selected_whole old from to c.args.row.now more
    (both_written (Ok (tt {0})) from c.show_front.new.text to _ c.args.row.now c.in_ok-show_front.ensures.written c.in_ok-put.ensures.written)
    ∙ ap (λ (t : List ℕ). written to ++ t) (after_selected old.layout c.show_front.new.self.layout c.show_front.new.self.kept.items more c.show_front.ensures.layout c.in_ok-show_front.ensures.kept)
