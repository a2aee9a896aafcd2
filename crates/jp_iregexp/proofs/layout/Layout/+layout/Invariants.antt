use Rattle.std.proofs.Common.{take, map, Some}
use Rattle.jp_model.specs.Pattern.Language.{Language, Repeats, RepeatsWithin}
use Rattle.jp_iregexp.specs.Layouts.{LaidOnto, state_of}
use Rattle.jp_iregexp.specs.Nodes.{tree_of, sequence_list, choice_list}
use Rattle.jp_iregexp.proofs.layout.Layout.+layout.Given as goal

abbrev pub invariant-sequence-loop-part : goal.invariant-sequence-loop-part
invariant-sequence-loop-part l = LaidOnto (map state_of l.fn.self.states.items) (map state_of l.self.states.items) (Language (sequence_list (take l.part-index l.parts))) l.all.first l.all.last l.all.has_empty

abbrev pub invariant-choice-loop-part : goal.invariant-choice-loop-part
invariant-choice-loop-part l = LaidOnto (map state_of l.fn.self.states.items) (map state_of l.self.states.items) (Language (choice_list (take l.part-index l.parts))) l.all.first l.all.last l.all.has_empty

abbrev pub invariant-exact-loop-turn : goal.invariant-exact-loop-turn
invariant-exact-loop-turn l = LaidOnto (map state_of l.fn.self.states.items) (map state_of l.self.states.items) (Repeats (Language (tree_of l.body)) l.turn) l.all.first l.all.last l.all.has_empty

abbrev pub invariant-up_to-loop-turn : goal.invariant-up_to-loop-turn
invariant-up_to-loop-turn l = LaidOnto (map state_of l.fn.self.states.items) (map state_of l.self.states.items) (RepeatsWithin (Language (tree_of l.body)) 0 (Some l.turn)) l.all.first l.all.last l.all.has_empty
