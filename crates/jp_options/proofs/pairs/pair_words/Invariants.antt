-- The arguments so far, and those from here on, are all.
use Rattle.std.proofs.Common.{◌≡◌, ◌++◌, drop, map}
use Rattle.jp_options.specs.Pairs.{paired, paired_at}
use Rattle.jp_options.proofs.pairs.pair_words.Given as goal

abbrev pub invariant-loop-word : goal.invariant-loop-word
invariant-loop-word l = map (λ w. w.now) l.paired.items ++ paired_at l.place (map (λ w. w.now) (drop l.word-index l.words)) ≡ paired (map (λ w. w.now) l.words)
