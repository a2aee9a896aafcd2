use Rattle.std.proofs.Common.{◌≡◌, ◌≤◌, ◌-◌, suc, length}
use Rattle.jp_tape.specs.Reader.{IsValueBehind}
use Rattle.jp_tape.proofs.builder.reader.Reader.until_value.Given as goal

abbrev pub invariant-loop-self : goal.invariant-loop-self
invariant-loop-self g l = record {
  behind : IsValueBehind (g.L.Listener.stands l.listener) l.line l.at l.self;
  limit : l.self.most_depth ≡ l.fn.self.most_depth;
  lender : l.self.stack.ghost_name ≡ l.fn.self.stack.ghost_name;
  less : length l.line - l.at ≤ length l.line - l.fn.from;
}

abbrev pub decreases-loop-self : goal.decreases-loop-self
decreases-loop-self g l = suc (length l.line - l.at)
