use Rattle.std.proofs.Common.{◌≡◌, ℕ, None, get_or}
use Rattle.jp_iregexp.proofs.kept.Kept.keep.Given as goal

abbrev pub invariant-loop : goal.invariant-loop
invariant-loop g l = (n : ℕ) → get_or l.self.rows.items n None ≡ get_or l.fn.self.rows.items n None
