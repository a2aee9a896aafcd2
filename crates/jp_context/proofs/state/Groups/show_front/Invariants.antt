-- What was written and what is still to be shown are together what was to be.
use Rattle.std.proofs.Common.{◌≡◌, ◌++◌, length, false}
use Rattle.jp_context.specs.Steps.{kept_texts, show_front}
use Rattle.jp_sink.specs.Texts.{written}
use Rattle.jp_context.proofs.state.Groups.show_front.Given as goal

abbrev pub invariant-loop-row : goal.invariant-loop-row
invariant-loop-row g l = record {
  layout : l.self.layout ≡ l.initial.self.layout;
  working : l.text.out.failed ≡ false;
  after : l.text.out.after ≡ l.initial.text.out.after;
  shows : written l.initial.text ++ show_front l.initial.self.layout.coloured l.initial.self.shown (kept_texts l.initial.self) ≡ written l.text ++ show_front l.self.layout.coloured l.self.shown (kept_texts l.self);
}

abbrev pub decreases-loop-row : goal.decreases-loop-row
decreases-loop-row g l = length l.self.kept.items
