use Rattle.std.proofs.Common.{arith}
use Rattle.jp_cut.proofs.Reading.{ended_behind}
use Rattle.jp_cut.proofs.cutter.Cutter.next_behind_mark.Goals as goal

pub returns-clause-ended : goal.returns-clause-ended
returns-clause-ended c pieces stream handed h =
    let l = c.loop-self in
    ended_behind pieces stream handed l.self (l.invariant.read pieces stream handed h) l.invariant.front (omega (arith, l.self.within))
