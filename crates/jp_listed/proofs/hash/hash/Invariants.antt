-- The bytes from here on make the hash.
use Rattle.std.proofs.Common.{◌≡◌, drop}
use Rattle.jp_listed.specs.Hashes.{hash_of, hash_on}
use Rattle.jp_listed.proofs.hash.hash.Given as goal

abbrev pub invariant-loop-byte : goal.invariant-loop-byte
invariant-loop-byte l = hash_on l.hash (drop l.byte-index l.text) ≡ hash_of l.text
