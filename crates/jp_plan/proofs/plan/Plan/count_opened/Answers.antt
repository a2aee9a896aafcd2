-- Without a guard an index, or the store, tells the number.
use Rattle.std.proofs.Common.{◌≡◌, ◌∙◌, ◌<◌, ℕ, List, Option, Some, None, IfSome, length, map, sym, ap, subst}
use Rattle.std.proofs.lemmas.List.{length-map}
use Rattle.jp_model.specs.Numbered.{numbers_where}
use Rattle.jp_model.specs.Plans.{leading_steps, seek_of, guard_of}
use Rattle.jp_index.specs.Entries.{Entry, entries_of}
use Rattle.jp_store.specs.Collections.{statuses_in}
use Rattle.jp_plan.specs.Passing.{seek_status}
use Rattle.jp_plan.specs.Paths.{guard_at, path_at}
use Rattle.jp_plan.specs.PlanViews.{plan_of}
use Rattle.jp_plan.proofs.Explained.{sought_opened, trees_opened}
use Rattle.jp_plan.proofs.Passing.{sought_are}
use Rattle.jp_plan.proofs.Paths.{there_is}
use Rattle.jp_plan.proofs.plan.Plan.count_opened.Goals as goal

pub returns-in-Some-seek : goal.returns-in-Some-seek
returns-in-Some-seek c =
    let p = plan_of c.args.self.now in
    let paths = p.over.state.paths in
    let index = c.in-Some-seek.index in
    let within : index < length paths = subst (λ (o : Option ℕ). IfSome o (λ k. k < length paths)) c.in-Some-seek.is c.requires.seek_within in
    let at = there_is paths index within in
    let is = c.index.ensures at.0 at.1 in
    let entries : List Entry = entries_of at.0 (statuses_in p.over) in
    let told : map (λ (e : Entry). e.line) entries ≡ numbers_where (seek_status (Some at.0)) 1 (statuses_in p.over) =
    sought_are at.0 (statuses_in p.over) (λ line. c.a_line_has_one_entry.ensures c.index.result.now at.0 entries line is) in
    let seek : Some at.0 ≡ seek_of paths (leading_steps p.query) = sym at.1 ∙ (sym (ap (path_at paths) c.in-Some-seek.is) ∙ c.requires.seek_is) in
    let guard : None ≡ guard_of paths p.query = sym (ap (guard_at paths) c.in-None.is) ∙ c.requires.guard_is in
    c.count.ensures at.0 entries is ∙ (sym (length-map entries (λ (e : Entry). e.line)) ∙ ap length (told ∙ sought_opened p.query paths (statuses_in p.over) (Some at.0) seek guard))

pub returns-in-None-seek : goal.returns-in-None-seek
returns-in-None-seek c =
    let p = plan_of c.args.self.now in
    let paths = p.over.state.paths in
    let seek : None ≡ seek_of paths (leading_steps p.query) = sym (ap (path_at paths) c.in-None-seek.is) ∙ c.requires.seek_is in
    let guard : None ≡ guard_of paths p.query = sym (ap (guard_at paths) c.in-None.is) ∙ c.requires.guard_is in
    c.tree_count.ensures ∙ trees_opened p.query paths (statuses_in p.over) seek guard
