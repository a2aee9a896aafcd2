use Rattle.std.proofs.Common.{◌≡◌, ◌-◌, suc, length}
use Rattle.jp_tape.specs.Reader.{IsValueNext}
use Rattle.jp_tape.proofs.builder.reader.read_text.Given as goal

abbrev pub invariant-loop-inside : goal.invariant-loop-inside
invariant-loop-inside g l = record {
  next : IsValueNext (g.L.Listener.stands l.listener) l.line l.at l.reader;
  limit : l.reader.most_depth ≡ l.fn.reader.most_depth;
  lender : l.reader.stack.ghost_name ≡ l.fn.reader.stack.ghost_name;
}

abbrev pub decreases-loop-inside : goal.decreases-loop-inside
decreases-loop-inside g l = suc (length l.line - l.at)
