-- A line ends after a line feed, and a text in front of the RS of the next.
use Rattle.std.proofs.Common.{◌∙◌, ◌+◌, ◌≤◌, ap, arith, drop, length, subst, sym, take}
use Rattle.jp_model.specs.Lines.{HasNoSeparator, separator_of}
use Rattle.jp_grep.specs.Cuts.{EndsBetween}
use Rattle.jp_grep.proofs.Ends.{ends_before_text, ends_behind_line, none_ends}
use Rattle.jp_grep.proofs.stream.find_end.Goals as goal

pub returns-in-None : goal.returns-in-None
returns-in-None c = subst (λ b. HasNoSeparator b c.args.piece.now) c.separator.ensures (none_ends c.separator.result c.args.piece.now c.in-None.ensures)

pub returns-in-Lines : goal.returns-in-Lines
returns-in-Lines c =
    let text = c.args.piece.now in
    let at = c.in-Some.position in
    let within : at + 1 ≤ length text = omega (arith, c.in-Some.ensures.0.high) in (
      within,
      subst (λ f. EndsBetween f (take (at + 1) text) (drop (at + 1) text)) (sym c.in-Lines.is)
          (ends_behind_line c.separator.result text at c.in-Some.ensures (c.separator.ensures ∙ ap separator_of c.in-Lines.is)),
    )

pub returns-in-Sequence : goal.returns-in-Sequence
returns-in-Sequence c =
    let text = c.args.piece.now in
    let at = c.in-Some.position in
    let within : at ≤ length text = omega (arith, c.in-Some.ensures.0.high) in (
      within,
      subst (λ f. EndsBetween f (take at text) (drop at text)) (sym c.in-Sequence.is)
          (ends_before_text c.separator.result text at c.in-Some.ensures (c.separator.ensures ∙ ap separator_of c.in-Sequence.is)),
    )
