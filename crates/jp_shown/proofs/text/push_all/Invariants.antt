-- The scalars so far are shown after what stood there.
use Rattle.std.proofs.Common.{◌≡◌, ◌++◌, encode_utf8_all, flat_map, string_bytes, take}
use Rattle.jp_shown.specs.Texts.{shown_scalar}
use Rattle.jp_shown.proofs.text.push_all.Given as goal

abbrev pub invariant-loop-scalar : goal.invariant-loop-scalar
invariant-loop-scalar l = string_bytes l.text ≡ string_bytes l.initial.text ++ encode_utf8_all (flat_map shown_scalar (take l.scalar-index l.scalars))
