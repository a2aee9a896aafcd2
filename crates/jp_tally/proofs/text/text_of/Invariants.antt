-- The rows so far stand after the head.
use Rattle.std.proofs.Common.{◌≡◌, ◌++◌, flat_map, take}
use Rattle.jp_tally.specs.Counting.{entries_of_ranked}
use Rattle.jp_tally.specs.Texts.{entry_text}
use Rattle.jp_tally.proofs.text.text_of.Given as goal

abbrev pub invariant-loop-entry : goal.invariant-loop-entry
invariant-loop-entry l = l.text.items ≡ l.initial.text.items ++ flat_map (entry_text l.table) (entries_of_ranked (take l.entry-index l.ranked))
