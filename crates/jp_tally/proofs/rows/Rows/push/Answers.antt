-- The text and how many bytes the row has go on together.
use Rattle.std.proofs.Common.{◌≡◌, ◌∙◌, [], ◌∷◌, ◌++◌, ap₂, arith, length}
use Rattle.std.proofs.lemmas.Grind.{common_steps}
use Rattle.jp_tally.specs.Counting.{entries_in}
use Rattle.jp_tally.proofs.OneMore.{one_more, run_of}
use Rattle.jp_tally.proofs.rows.Rows.push.Goals as goal

pub returns-clause-pushed : goal.returns-clause-pushed
returns-clause-pushed c =
    let s = c.args.self.now in let row = c.args.row.now in
    let runs : c.push.new.self.items ≡ s.runs.items ++ run_of (length row) c.args.count ∷ [] = grind (arith, common_steps) in
    ap₂ entries_in c.in_ok-extend_from_slice.ensures.items runs ∙ one_more s.text.items row s.runs.items c.args.count s.whole
