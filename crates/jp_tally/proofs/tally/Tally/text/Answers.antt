-- What was counted, ranked, is the tally.
use Rattle.std.proofs.Common.{◌∙◌}
use Rattle.jp_tally.specs.Counting.{HasCounted, entries_of, entries_of_ranked}
use Rattle.jp_tally.specs.Rows.{rows_told}
use Rattle.jp_tally.specs.Tallies.{IsTally}
use Rattle.jp_tally.specs.Texts.{tally_text}
use Rattle.jp_tally.proofs.Ranks.{is_tally, told_tally}
use Rattle.jp_tally.proofs.tally.Tally.text.Goals as goal

pub returns : goal.returns
returns c told stands =
    let self = c.args.self.now in let entries = entries_of_ranked c.in_ok-ranked.ranked.items in
    let counted : HasCounted (entries_of self.kept) (entries_of self.fresh) (entries_of c.in_ok-kept.kept) = c.in_ok-kept.ensures in
    let tally : IsTally (rows_told told) entries =
    is_tally (rows_told told) (entries_of c.in_ok-kept.kept) entries counted.entries counted.order (λ row. counted.weights row ∙ stands row) c.in_ok-ranked.ensures.rows c.in_ok-ranked.ensures.order in
    told_tally (λ text. text.items) c.text_of.result (IsTally (rows_told told)) (tally_text c.args.table _) entries tally (rw c.deref.ensures.value at c.text_of.ensures)
