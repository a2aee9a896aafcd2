-- What is found of the others stands after what was found.
use Rattle.std.proofs.Common.{◌≡◌, ◌++◌, drop, filter}
use Rattle.jp_patterns.specs.Patterns.{is_invalid, texts_of}
use Rattle.jp_patterns.proofs.invalid.only_invalid.Given as goal

abbrev pub invariant-loop-pattern : goal.invariant-loop-pattern
invariant-loop-pattern l = texts_of l.found.items ++ filter is_invalid (texts_of (drop l.pattern-index l.patterns)) ≡ filter is_invalid (texts_of l.patterns)
