use Rattle.jp_iregexp.proofs.Rows.{InRowsBelow}
use Rattle.jp_iregexp.proofs.tables.ends_in.Given as goal

abbrev pub invariant-loop-p : goal.invariant-loop-p
invariant-loop-p l = InRowsBelow l.p l.rows l.starts l.out
