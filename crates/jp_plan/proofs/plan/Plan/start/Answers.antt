-- The node of the seek stands where the index tells.
use Rattle.std.proofs.Common.{◌≡◌, ◌∙◌, ℕ, List, [], ◌∷◌, ◌<◌, length, true, Option, IfSome, sym, ap, subst}
use Rattle.jp_model.specs.Meaning.Nodes.{root_node}
use Rattle.jp_model.specs.Meaning.Selecting.{nodes}
use Rattle.jp_model.specs.Query.Singular.{steps_query}
use Rattle.jp_model.specs.Steps.{Step}
use Rattle.jp_store.specs.Collections.{statuses_in, line_status}
use Rattle.jp_index.specs.Entries.{entries_of}
use Rattle.jp_plan.specs.Paths.{path_at}
use Rattle.jp_lines.specs.Views.{tree_of_view}
use Rattle.jp_plan.specs.Passing.{seek_status}
use Rattle.jp_plan.specs.Routes.{steps_or_none}
use Rattle.std.proofs.lemmas.Option.{same_Some, slice_get_within}
use Rattle.jp_plan.proofs.Paths.{there_is}
use Rattle.jp_plan.proofs.Starts.{starts, not_sought}
use Rattle.jp_plan.proofs.plan.Plan.start.Goals as goal

pub at-requires : goal.at-requires
at-requires c =
    let over = c.args.self.now.store.now in
    let at = there_is over.state.paths c.in-Some.index (subst (λ (o : Option ℕ). IfSome o (λ k. k < length over.state.paths)) c.in-Some.is c.requires.seek) in
    let told = c.in-Some-node_of.ensures at.0 (entries_of at.0 (statuses_in over)) (c.index.ensures at.0 at.1) in
    let s = starts over at.0 c.args.line (tree_of_view c.args.view) told.0 c.in-Some-node_of.node c.requires.line c.requires.tree told.1 told.2 in
    slice_get_within _ c.in-Some-node_of.node _ s.at

pub returns-in-Some-node_of-clause-node : goal.returns-in-Some-node_of-clause-node
returns-in-Some-node_of-clause-node c =
    let over = c.args.self.now.store.now in
    let t = tree_of_view c.args.view in
    let at = there_is over.state.paths c.in-Some.index (subst (λ (o : Option ℕ). IfSome o (λ k. k < length over.state.paths)) c.in-Some.is c.requires.seek) in
    let told = c.in-Some-node_of.ensures at.0 (entries_of at.0 (statuses_in over)) (c.index.ensures at.0 at.1) in
    let s = starts over at.0 c.args.line t told.0 c.in-Some-node_of.node c.requires.line c.requires.tree told.1 told.2 in
    let same = same_Some _ _ (sym c.at.ensures.node ∙ s.at) in
    ap (λ n. n ∷ []) same
    ∙ (sym s.only ∙ ap (λ (o : Option (List Step)). nodes (steps_query (steps_or_none o)) (root_node t ∷ []) t) (sym (ap (path_at over.state.paths) c.in-Some.is ∙ at.1)))

pub returns-in-None-node_of-clause-node : goal.returns-in-None-node_of-clause-node
returns-in-None-node_of-clause-node c =
    let over = c.args.self.now.store.now in
    let at = there_is over.state.paths c.in-Some.index (subst (λ (o : Option ℕ). IfSome o (λ k. k < length over.state.paths)) c.in-Some.is c.requires.seek) in
    let none = c.in-None-node_of.ensures at.0 (entries_of at.0 (statuses_in over)) (c.index.ensures at.0 at.1) in
    let passes = subst (λ (o : Option (List Step)). seek_status o (line_status c.args.line over) ≡ true) (ap (path_at over.state.paths) c.in-Some.is ∙ at.1) c.requires.sought in
    absurd (not_sought over at.0 c.args.line (tree_of_view c.args.view) c.requires.line c.requires.tree none passes)
