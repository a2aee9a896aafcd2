-- Of the bytes that came what ended is answered, as far as it is wanted.
use Rattle.std.proofs.Common.{◌≡◌, ◌≤◌, ℕ, List, length, false}
use Rattle.jp_devices.specs.Devices.{Gave}
use Rattle.jp_grep.specs.Inputs.{ReadOn}
use Rattle.jp_grep.specs.Items.{Item}
use Rattle.jp_grep.specs.Searching.{HasAnswered}
use Rattle.jp_grep.specs.Telling.{IsKept}
use Rattle.jp_grep.proofs.searching.search_lines.Given as goal

abbrev pub invariant-loop-read : goal.invariant-loop-read
invariant-loop-read g l = record {
  so_far : (came : List ℕ) × (answered : List Item) × (outcomes : List Item) × Gave g.R.Read.remaining l.fn.input.reader l.input.reader came
      × HasAnswered g.S.Sink.stands g.S.Sink.stopped g.E.Write.contents l.answerer.question.now l.answerer.form.now l.searcher.source l.searcher.answering.progress l.fn.sink l.sink l.fn.messages l.messages came answered outcomes
      × ReadOn l.answerer.question.now l.answerer.form.now l.fn.input l.input came outcomes × (l._read ≤ length came);
  room : length l.buffer ≡ 65536;
  reads : l.input.reader.failed ≡ false;
  unended : l.input.reader.ended ≡ false;
  writes : (g.S.Sink.state l.sink).failed ≡ false;
  reports : l.messages.failed ≡ false;
  after : l.input.reader.after ≡ l.fn.input.reader.after;
  kept : IsKept (g.S.Sink.state l.fn.sink) (g.S.Sink.state l.sink);
  messages_after : l.messages.after ≡ l.fn.messages.after;
  early : l.input.reader.early ≡ l.fn.input.reader.early;
}
