-- The node is shown after the rows that are kept.
use Rattle.std.proofs.Common.{◌∙◌, ◌++◌, ℕ, List, Err, Ok, ap, subst}
use Rattle.jp_model.specs.Rows.{line_feed}
use Rattle.jp_nodes.specs.Cursors.{line_of, node_of}
use Rattle.jp_sink.specs.Events.{event_text, node_event}
use Rattle.jp_context.proofs.Showing.{after_selected, selected_part, selected_whole}
use Rattle.jp_context.proofs.Writing.{writes_less}
use Rattle.jp_context.proofs.state.Groups.take_node.Goals as goal
use Rattle.jp_sink.specs.Texts.{WritesOn, written}
use Rattle.jp_sink.proofs.Texts.{both_written}

pub returns-in_err-show_front-clause-shows : goal.returns-in_err-show_front-clause-shows
returns-in_err-show_front-clause-shows g c number =
    let old = c.args.self.now in let from = c.args.text.now in let to = c.show_front.new.text in let fault = c.in_err-show_front.field-0.0 in
    let text = event_text (node_event number (line_of c.args.node) (node_of c.args.node)) in
    selected_part old from to text c.show_front.new.self c.from_residual.result fault c.from_residual.ensures.1
    (writes_less from to fault _ text c.in_err-show_front.ensures.written)

pub returns-in_err-put_line-clause-shows : goal.returns-in_err-put_line-clause-shows
returns-in_err-put_line-clause-shows g c number =
    let old = c.args.self.now in let from = c.args.text.now in let to = c.put_line.new.text in let fault = c.in_err-put_line.field-0.0 in
    let text = event_text (node_event number (line_of c.args.node) (node_of c.args.node)) in
    selected_part old from to text c.show_front.new.self c.from_residual-in_err-put_line.result fault c.from_residual-in_err-put_line.ensures.1
    (both_written (Err fault) from c.show_front.new.text to _ text c.in_ok-show_front.ensures.written
    (subst (λ (t : List ℕ). WritesOn {A = Unit {0}} c.show_front.new.text to (Err fault) (t ++ line_feed)) c.source.ensures c.in_err-put_line.ensures.written))

pub returns-clause-shows : goal.returns-clause-shows
returns-clause-shows g c number more =
    let old = c.args.self.now in let from = c.args.text.now in let to = c.put_line.new.text in
    let text = event_text (node_event number (line_of c.args.node) (node_of c.args.node)) in
    selected_whole old from to text more
    (both_written (Ok (tt {0})) from c.show_front.new.text to _ text c.in_ok-show_front.ensures.written
    (subst (λ (t : List ℕ). WritesOn {A = Unit {0}} c.show_front.new.text to (Ok (tt {0})) (t ++ line_feed)) c.source.ensures c.in_ok-put_line.ensures.written))
    ∙ ap (λ (t : List ℕ). written to ++ t) (after_selected old.layout c.show_front.new.self.layout c.show_front.new.self.kept.items more c.show_front.ensures.layout c.in_ok-show_front.ensures.kept)
