use Rattle.std.proofs.Common.{sym, inl, inr}
use Rattle.std.proofs.lemmas.Bool.{eqb-true}
use Rattle.jp_model.specs.Json.Tree.{array, object}
use Rattle.jp_tape.proofs.Ahead.{all_ahead, first_inside, not_empty}
use Rattle.jp_tape.proofs.Begins.{no_marks_no_text, one_mark_no_string, not_closed_no_text}
use Rattle.jp_tape.proofs.builder.front.first_value.Goals as goal

pub returns-then-is_empty-clause-none : goal.returns-then-is_empty-clause-none
returns-then-is_empty-clause-none c = no_marks_no_text c.args.line.now c.args.marks.now c.marks_are_tokens.ensures c.requires.marks (eqb-true _ _ (sym c.if-is_empty.ensures))

pub bounds-line-at : goal.bounds-line-at
bounds-line-at c = first_inside c.args.line.now c.args.marks.now 0 0 (all_ahead c.args.line.now c.args.marks.now c.requires.marks) (not_empty _ c.if-is_empty.ensures)

pub returns-then-marks-lt2-clause-none : goal.returns-then-marks-lt2-clause-none
returns-then-marks-lt2-clause-none c = one_mark_no_string c.args.line.now c.args.marks.now c.marks_are_tokens.ensures c.requires.marks c.if-first-eq34.true c.if-marks-lt2.true

pub returns-then-not-is_closed-clause-none : goal.returns-then-not-is_closed-clause-none
returns-then-not-is_closed-clause-none c =
    elim c.if-first-eq91.either [
      | inl e ↦ not_closed_no_text c.args.line.now c.args.marks.now object c.marks_are_tokens.ensures c.requires.marks e (c.is_closed.ensures.no c.if-not-is_closed.true)
      | inr e ↦ not_closed_no_text c.args.line.now c.args.marks.now array c.marks_are_tokens.ensures c.requires.marks e.1 (c.is_closed.ensures.no c.if-not-is_closed.true)
    ]
