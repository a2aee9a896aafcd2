use Rattle.std.proofs.Common.{◌≡◌, ◌+◌, length}
use Rattle.jp_masks.specs.Scanned.{bytes_fed}
use Rattle.jp_masks.proofs.tests.cuts.scan_pieces.Given as goal

-- what was fed, and what is left
abbrev pub invariant-loop : goal.invariant-loop
invariant-loop l = bytes_fed l.scanner + length l.rest ≡ length l.text
