-- Where an index tells a place the seek has a node.
use Rattle.std.proofs.Common.{◌≡◌, ◌∙◌, List, Option, Some, [], ◌∷◌, MatchOption, slice_get, sym, ap, subst}
use Rattle.jp_model.specs.Meaning.Nodes.{root_node, subtree}
use Rattle.jp_model.specs.Steps.{Step}
use Rattle.jp_index.specs.Entries.{Entry, entries_of}
use Rattle.jp_store.specs.Collections.{statuses_in, line_status}
use Rattle.jp_plan.specs.Passing.{seek_status}
use Rattle.jp_plan.proofs.Entries.{sought, collection_entry}
use Rattle.jp_plan.proofs.Paths.{there_is}
use Rattle.jp_plan.proofs.plan.Plan.is_sought.Goals as goal

pub returns : goal.returns
returns c =
    let over = c.args.self.now.store.now in
    let at = there_is over.state.paths c.args.index c.requires.index in
    let told = c.node_of.ensures at.0 (entries_of at.0 (statuses_in over)) (c.index.ensures at.0 at.1) in
    let here = subst (λ (es : List Entry). MatchOption c.node_of.result (es ≡ []) (λ place. (e : Entry) × (es ≡ e ∷ []) × (slice_get (subtree (root_node e.tree)) place ≡ Some e.node))) (collection_entry over at.0 c.args.line c.requires.line) told in
    c.is_some.ensures
    ∙ (sought at.0 c.args.line (line_status c.args.line over) c.node_of.result (λ place e. slice_get (subtree (root_node e.tree)) place ≡ Some e.node) here
    ∙ ap (λ (o : Option (List Step)). seek_status o (line_status c.args.line over)) (sym at.1))
