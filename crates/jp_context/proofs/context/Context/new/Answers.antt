-- Before the first row a gap stands.
use Rattle.std.proofs.Common.{◌∙◌, ◌++◌, List, ℕ, ap, sym, false}
use Rattle.jp_context.specs.Groups.{context_text}
use Rattle.jp_context.specs.Steps.{will_show}
use Rattle.jp_context.specs.Told.{rows_from, told_rows}
use Rattle.jp_context.specs.declared.state.Layout.{Layout}
use Rattle.jp_context.proofs.Standing.{begun}
use Rattle.jp_context.proofs.context.Context.new.Goals as goal

pub returns-clause-stands : goal.returns-clause-stands
returns-clause-stands g c events =
    ap (λ (layout : Layout). context_text layout.coloured layout.before layout.after (told_rows events)) c.new.ensures.layout
    ∙ (begun c.args.coloured c.args.before c.args.after events
    ∙ (sym (c.new.ensures.shows (rows_from false events)) ∙ ap (λ (t : List ℕ). t ++ will_show c.new.result (rows_from false events)) (sym c.new-2.ensures.written)))
