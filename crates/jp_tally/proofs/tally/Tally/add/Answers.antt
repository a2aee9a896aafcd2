-- A row that comes comes once.
use Rattle.jp_tally.specs.Counting.{entries_of}
use Rattle.jp_tally.proofs.Together.{still_came}
use Rattle.jp_tally.proofs.tally.Tally.add.Goals as goal

pub invariant_of-self : goal.invariant_of-self
invariant_of-self c =
    let s = c.make_room.new.self in record {
      kept_came = s.kept_came;
      fresh_came = still_came c.push.result c.args.row.now (entries_of s.fresh) (entries_of c.push.new.self) c.push.ensures.pushed c.push.ensures.refused s.fresh_came;
    }
