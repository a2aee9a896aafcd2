-- Where there is a mark, the line is not blank.
use Rattle.std.proofs.Common.{◌∙◌, sym, ap, length}
use Rattle.std.proofs.lemmas.Bool.{eq-eqb, true≢false}
use Rattle.jp_lines.proofs.Blank.{marked_not_blank}
use Rattle.jp_lines.proofs.reading.is_empty_line.Goals as goal

pub returns-else-is_empty : goal.returns-else-is_empty
returns-else-is_empty c =
    c.if-is_empty.false ∙ sym (marked_not_blank c.args.text.now c.args.marks.now c.requires (λ none. true≢false (sym (c.is_empty.ensures ∙ eq-eqb _ 0 (ap length none)) ∙ c.if-is_empty.false)))
