use Rattle.std.proofs.Common.{◌≡◌, drop, length}
use Rattle.std.specs.Str.{chars}
use Rattle.jp_iregexp.specs.Graphs.{LeadsFrom, SomeLeads}
use Rattle.jp_iregexp.specs.Waiting.{IsMarked, IsReady}
use Rattle.jp_iregexp.proofs.Searching.{IsSearching}
use Rattle.jp_iregexp.proofs.graph.Graph.finds.Given as goal

abbrev pub invariant-loop-scalar : goal.invariant-loop-scalar
invariant-loop-scalar l = record {
  ready : IsReady l.self.states.items l.waiting;
  marked : IsMarked l.next;
  size : length l.next.has.items ≡ length l.self.states.items;
  searching : IsSearching (LeadsFrom l.self.states.items l.self.start) (SomeLeads l.self.states.items l.waiting.list.items) (drop (length l.yielded) (chars l.text)) (chars l.text);
}
