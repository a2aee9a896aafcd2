-- What stands before the first separator is the first piece.
use Rattle.std.proofs.Common.{◌∙◌, ap, sym}
use Rattle.jp_model.specs.Lines.{is_framed, separator_of}
use Rattle.jp_lines.proofs.Parts.{framed_at, framed_whole}
use Rattle.jp_lines.proofs.framing.is_framed_text.Goals as goal

pub returns-in-Some : goal.returns-in-Some
returns-in-Some c =
    let bytes = c.args.bytes.now in
    c.is_blank.ensures
    ∙ framed_at bytes _ c.in-Some.position c.separator.result c.without_byte_order_mark-text.ensures (c.separator.ensures ∙ ap separator_of c.in-Sequence.is) c.in-Some.ensures
    ∙ ap (λ f. is_framed f bytes) (sym c.in-Sequence.is)

pub returns-in-None : goal.returns-in-None
returns-in-None c =
    let bytes = c.args.bytes.now in
    c.is_blank-in-None.ensures
    ∙ framed_whole bytes _ c.separator.result c.without_byte_order_mark-text.ensures (c.separator.ensures ∙ ap separator_of c.in-Sequence.is) c.in-None.ensures
    ∙ ap (λ f. is_framed f bytes) (sym c.in-Sequence.is)
