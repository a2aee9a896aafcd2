-- Rows that are kept are not shown once a gap comes.
use Rattle.std.proofs.Common.{◌∙◌, ℕ, List, ◌++◌, Global, Vec, ap, ap₂, sym, false}
use Rattle.jp_context.specs.Steps.{kept_rows, kept_texts, text_from}
use Rattle.jp_context.specs.Told.{rows_from}
use Rattle.jp_context.specs.declared.shown.Shown.{Shown}
use Rattle.jp_context.proofs.Kept.{parts, texts_of}
use Rattle.jp_context.proofs.state.Groups.part.Goals as goal

pub returns-clause-shows : goal.returns-clause-shows
returns-clause-shows c events =
    let s = c.args.self.now in let coloured = s.layout.coloured in let before = s.layout.before in let after = s.layout.after in
    parts coloured before after s.left s.shown (kept_texts s) events (λ some. ap texts_of (s.none some))
    ∙ sym (ap₂ (λ (shown : Shown) (rows : List (Vec ℕ Global)). text_from coloured before after 0 shown (kept_rows (texts_of rows) ++ rows_from false events)) c.parted-self.ensures c.clear.ensures.items)
