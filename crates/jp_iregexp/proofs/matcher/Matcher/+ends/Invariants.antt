use Rattle.std.proofs.Common.{◌-◌, drop, length, Some}
use Rattle.jp_model.specs.Pattern.Language.{Language, Repeats, RepeatsWithin}
use Rattle.jp_iregexp.specs.Nodes.{tree_of, sequence_list}
use Rattle.jp_iregexp.specs.Positions.{IsSetOver}
use Rattle.jp_iregexp.specs.Right.{AreRight}
use Rattle.jp_iregexp.proofs.Rows.{RowsBelow}
use Rattle.jp_iregexp.proofs.Reaching.{Fronts}
use Rattle.jp_iregexp.proofs.Turns.{Continues, Gathers}
use Rattle.jp_iregexp.proofs.matcher.Matcher.+ends.Given as goal

abbrev pub invariant-sequence_ends-loop-part : goal.invariant-sequence_ends-loop-part
invariant-sequence_ends-loop-part l = record {
  continues : Continues (Language (sequence_list (drop l.part-index l.parts))) (Language (sequence_list l.parts)) l.self.text.now l.starts l.reached;
  right : AreRight l.self.text.now l.self.root.now l.tables;
}

abbrev pub invariant-choice_ends-loop-part : goal.invariant-choice_ends-loop-part
invariant-choice_ends-loop-part l = record {
  gathers : Gathers (drop l.part-index l.parts) l.parts l.self.text.now l.starts l.all;
  right : AreRight l.self.text.now l.self.root.now l.tables;
}

abbrev pub invariant-counted_turns-loop-turn : goal.invariant-counted_turns-loop-turn
invariant-counted_turns-loop-turn l = record {
  continues : Continues (Repeats (Language (tree_of l.body)) (l.count - l.turn)) (Repeats (Language (tree_of l.body)) l.count) l.self.text.now l.starts l.reached;
  right : AreRight l.self.text.now l.self.root.now l.tables;
}

abbrev pub invariant-added_turns-loop-turn : goal.invariant-added_turns-loop-turn
invariant-added_turns-loop-turn l = record {
  continues : Continues (RepeatsWithin (Language (tree_of l.body)) 0 (Some (l.most - l.turn))) (RepeatsWithin (Language (tree_of l.body)) 0 (Some l.most)) l.self.text.now l.starts l.reached;
  fronts : Fronts (Language (tree_of l.body)) l.self.text.now l.reached l.frontier;
  inside : IsSetOver (length l.self.text.now) l.frontier;
  right : AreRight l.self.text.now l.self.root.now l.tables;
}

abbrev pub invariant-rows-loop-p : goal.invariant-rows-loop-p
invariant-rows-loop-p l = record {
  rows : RowsBelow (Language (tree_of l.body)) l.self.text.now l.p l.rows.items;
  right : AreRight l.self.text.now l.self.root.now l.tables;
}
