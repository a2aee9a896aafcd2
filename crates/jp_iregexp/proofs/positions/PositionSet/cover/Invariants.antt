use Rattle.std.proofs.Common.{◌≡◌, ℕ, ◌+◌, ◌≤◌, vec_len}
use Rattle.jp_iregexp.specs.Words.{word_of}
use Rattle.jp_iregexp.proofs.positions.PositionSet.cover.Given as goal

abbrev pub invariant-loop : goal.invariant-loop
invariant-loop l = record {
  same : (v : ℕ) → word_of l.self.first l.self.words.items v ≡ word_of l.fn.self.first l.fn.self.words.items v;
  from : l.self.first ≤ l.w;
  size : vec_len l.self.words ≡ l.counter;
  wide : l.self.first + l.width ≡ l.w + 1;
}
