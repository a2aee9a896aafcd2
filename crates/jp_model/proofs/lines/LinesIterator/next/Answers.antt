-- The first line of what is left is given.
use Rattle.std.proofs.Common.{sym, subst, ◌∙◌, length}
use Rattle.memchr.specs.Find.{IsFirstByte, is_byte}
use Rattle.jp_model.proofs.LineSteps.{first_line, only_line, first_goes, not_empty}
use Rattle.jp_model.proofs.lines.LinesIterator.next.Goals as goal

pub returns-in-Some-clause-steps : goal.returns-in-Some-clause-steps
returns-in-Some-clause-steps c =
    let rest = c.self.inside.rest.now in
    sym c.self.view_is ∙ first_line rest c.in-Some.end (subst (IsFirstByte (is_byte 10) rest) c.in-Some.is c.memchr.ensures)

pub returns-in-Some-clause-goes : goal.returns-in-Some-clause-goes
returns-in-Some-clause-goes c =
    let rest = c.self.inside.rest.now in
    first_goes _ (λ _. tt) _ _ _ (sym c.self.view_is ∙ first_line rest c.in-Some.end (subst (IsFirstByte (is_byte 10) rest) c.in-Some.is c.memchr.ensures))

pub returns-in-None-clause-steps : goal.returns-in-None-clause-steps
returns-in-None-clause-steps c =
    let rest = c.self.inside.rest.now in
    sym c.self.view_is ∙ only_line rest (not_empty (length rest) _ c.is_empty.ensures c.if-is_empty.false) (subst (IsFirstByte (is_byte 10) rest) c.in-None.is c.memchr.ensures)
