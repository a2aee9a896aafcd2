-- The lines so far are done.
use Rattle.std.proofs.Common.{◌≡◌, List, length, take, false}
use Rattle.jp_devices.specs.Devices.{Received}
use Rattle.jp_sink.specs.Telling.{Takes}
use Rattle.jp_grep.specs.Items.{Item}
use Rattle.jp_grep.specs.ReadItems.{items_of}
use Rattle.jp_grep.specs.Rows.{events_from, messages_from}
use Rattle.jp_grep.specs.Searching.{answered_after}
use Rattle.jp_grep.specs.Telling.{IsKept}
use Rattle.jp_grep.proofs.Batched.{AreDone}
use Rattle.jp_grep.proofs.answer.Answerer.answer_each.Given as goal

abbrev pub invariant-loop-index : goal.invariant-loop-index
invariant-loop-index g l = record {
  so_far : (done : List Item) × (length done ≡ l.index) × AreDone l.self.question.now l.self.form.now l.fn.progress l.progress (take l.index (items_of l.items)) done
      × Takes g.S.Sink.stands l.fn.sink l.sink (events_from l.self.question.now l.self.form.now l.fn.progress.number (answered_after l.self.question.now l.self.form.now l.fn.progress done))
      × Received g.E.Write.contents l.fn.messages l.messages (messages_from l.self.form.now l.fn.progress.counts.refused l.fn.progress.number (answered_after l.self.question.now l.self.form.now l.fn.progress done));
  writes : (g.S.Sink.state l.sink).failed ≡ false;
  reports : l.messages.failed ≡ false;
  kept : IsKept (g.S.Sink.state l.fn.sink) (g.S.Sink.state l.sink);
  messages_after : l.messages.after ≡ l.fn.messages.after;
}
