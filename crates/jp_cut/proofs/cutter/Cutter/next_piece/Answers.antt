use Rattle.std.proofs.Common.{sym, ap, ◌∙◌}
use Rattle.jp_cut.specs.Front.{may_become_mark}
use Rattle.jp_cut.proofs.Reading.{ended_front, stays_first}
use Rattle.jp_cut.proofs.cutter.Cutter.next_piece.Goals as goal

pub returns-then-may_become_mark-clause-ended : goal.returns-then-may_become_mark-clause-ended
returns-then-may_become_mark-clause-ended c pieces stream handed h =
    ended_front pieces stream handed c.args.self.now h c.if-self.true (ap may_become_mark (sym c.deref.ensures.value) ∙ sym c.may_become_mark.ensures ∙ c.if-may_become_mark.true)

pub returns-then-may_become_mark-clause-first : goal.returns-then-may_become_mark-clause-first
returns-then-may_become_mark-clause-first c pieces stream more handed h = stays_first pieces stream more handed _ h

pub returns-clause-first : goal.returns-clause-first
returns-clause-first c pieces stream more handed h = stays_first pieces stream more handed _ h
