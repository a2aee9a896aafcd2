-- A cut stands after a line feed, or in front of a record separator.
use Rattle.std.proofs.Common.{◌≡◌, ◌∙◌, ◌+◌, ◌++◌, List, ℕ, take, drop, sym, ap, subst, arith}
use Rattle.jp_model.specs.declared.Framing.{Framing}
use Rattle.jp_model.specs.Lines.{separator_of}
use Rattle.jp_masks.specs.Found.{lines_in}
use Rattle.jp_lines.proofs.Parts.{parted_lines, parted_sequence, parted_nowhere}
use Rattle.jp_lines.proofs.loading.front_length.Goals as goal

abbrev IsParted : List ℕ → ℕ → Framing → Type 0
IsParted text n framing = lines_in framing text ≡ lines_in framing (take n text) ++ lines_in framing (drop n text)

pub returns-in-Lines-clause-parted : goal.returns-in-Lines-clause-parted
returns-in-Lines-clause-parted c =
    let text = c.args.text.now in
    let least = c.min-least.result in
    let position = c.in-Some.position in
    subst (IsParted text (least + position + 1)) (sym c.in-Lines.is)
    (parted_lines text least position c.separator.result (omega (arith, c.min-least.ensures)) c.in-Some.ensures (c.separator.ensures ∙ ap separator_of c.in-Lines.is))

pub returns-in-Sequence-clause-parted : goal.returns-in-Sequence-clause-parted
returns-in-Sequence-clause-parted c =
    let text = c.args.text.now in
    let least = c.min-least.result in
    let position = c.in-Some.position in
    subst (IsParted text (least + position)) (sym c.in-Sequence.is)
    (parted_sequence text least position c.separator.result (omega (arith, c.min-least.ensures)) c.in-Some.ensures (c.separator.ensures ∙ ap separator_of c.in-Sequence.is))

pub returns-in-None-clause-parted : goal.returns-in-None-clause-parted
returns-in-None-clause-parted c = parted_nowhere c.args.framing c.args.text.now
