use Rattle.std.proofs.Common.{take, drop, Some}
use Rattle.jp_model.specs.Pattern.Language.{Language, Repeats, RepeatsWithin}
use Rattle.jp_iregexp.specs.Graphs.{AddsEntry, AddsEntries}
use Rattle.jp_iregexp.specs.Nodes.{tree_of, sequence_list, choice_list}
use Rattle.jp_iregexp.proofs.entries.Entries.+entry.Given as goal

abbrev pub invariant-sequence-loop-number : goal.invariant-sequence-loop-number
invariant-sequence-loop-number l = AddsEntry l.fn.self.states.items l.self.states.items (Language (sequence_list (drop l.number l.parts))) l.next l.at

abbrev pub invariant-choice-loop-part : goal.invariant-choice-loop-part
invariant-choice-loop-part l = AddsEntries l.fn.self.states.items l.self.states.items (Language (choice_list (take l.part-index l.parts))) l.next l.branches.items

abbrev pub invariant-exact-loop-turn : goal.invariant-exact-loop-turn
invariant-exact-loop-turn l = AddsEntry l.fn.self.states.items l.self.states.items (Repeats (Language (tree_of l.body)) l.turn) l.next l.at

abbrev pub invariant-up_to-loop-turn : goal.invariant-up_to-loop-turn
invariant-up_to-loop-turn l = AddsEntry l.fn.self.states.items l.self.states.items (RepeatsWithin (Language (tree_of l.body)) 0 (Some l.turn)) l.next l.at
