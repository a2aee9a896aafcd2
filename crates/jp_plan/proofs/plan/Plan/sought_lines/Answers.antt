-- The lines of the index are those with a node of its path.
use Rattle.std.proofs.Common.{◌≡◌, ◌∙◌, ℕ, List, Some, Option, Global, Vec, map, sym, ap}
use Rattle.std.proofs.lemmas.Result.{IfOk-weaker}
use Rattle.jp_model.specs.Numbered.{numbers_where}
use Rattle.jp_model.specs.Steps.{Step}
use Rattle.jp_index.specs.Entries.{Entry, entries_of}
use Rattle.jp_store.specs.Collections.{statuses_in}
use Rattle.jp_plan.specs.Passing.{seek_status}
use Rattle.jp_plan.specs.Paths.{path_at}
use Rattle.jp_plan.proofs.Passing.{sought_are}
use Rattle.jp_plan.proofs.Paths.{there_is}
use Rattle.jp_plan.proofs.plan.Plan.sought_lines.Goals as goal

pub returns : goal.returns
returns c =
    let over = c.args.self.now.store.now in
    let at = there_is over.state.paths c.args.index c.requires in
    let is = c.index.ensures at.0 at.1 in
    let told : map (λ (e : Entry). e.line) (entries_of at.0 (statuses_in over)) ≡ numbers_where (seek_status (path_at over.state.paths (Some c.args.index))) 1 (statuses_in over) =
    sought_are at.0 (statuses_in over) (λ line. c.a_line_has_one_entry.ensures c.index.result.now at.0 (entries_of at.0 (statuses_in over)) line is)
    ∙ ap (λ (o : Option (List Step)). numbers_where (seek_status o) 1 (statuses_in over)) (sym at.1) in
    IfOk-weaker c.lines.result _ _ (λ (lines : Vec ℕ Global) e. e ∙ told) (c.lines.ensures at.0 (entries_of at.0 (statuses_in over)) is)
