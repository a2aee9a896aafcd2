use Rattle.std.proofs.Common.{◌≡◌, ◌+◌, ◌≤◌, drop}
use Rattle.std.specs.Prelude.{count_by}
use Rattle.jp_model.specs.Query.Limits.{is_opener}
use Rattle.jp_query.proofs.parser.opened.Given as goal

abbrev pub invariant-loop-byte : goal.invariant-loop-byte
invariant-loop-byte l = (l.opened + count_by is_opener (drop l.byte-index l.text) ≡ count_by is_opener l.text) × (l.opened ≤ l.byte-index)
