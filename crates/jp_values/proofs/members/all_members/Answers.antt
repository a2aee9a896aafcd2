-- Each member that has a name is put after those in front of it.
use Rattle.std.proofs.Common.{◌∙◌, List, ℕ, Some, sym, ap, subst, Option}
use Rattle.jp_model.specs.Json.Tree.{Children, value_of}
use Rattle.jp_strings.specs.Points.{points_of}
use Rattle.jp_nodes.specs.declared.cursor.Cursor.{Cursor}
use Rattle.jp_nodes.specs.Cursors.{node_of, children_from, children_after}
use Rattle.jp_nodes.specs.Spots.{children_in}
use Rattle.jp_nodes.proofs.Cursors.{sound}
use Rattle.jp_values.specs.declared.member.Member.{Member}
use Rattle.jp_values.proofs.Lookups.{names_distinct}
use Rattle.jp_values.proofs.Gathered.{Gathered, gathered_none, gathered_named, gathered_nameless, gathered_all}
use Rattle.jp_values.proofs.members.all_members.Goals.{in-Some-name+in_ok-push, in_default-name}
use Rattle.jp_values.proofs.members.all_members.Goals as goal

pub loop-next-init : goal.loop-next-init
loop-next-init c = gathered_none _ _ _ (c.in_ok-reserve.ensures.items ∙ c.new-members.ensures.items) c.first_child-next.ensures.children

pub loop-next-preserved : goal.loop-next-preserved
loop-next-preserved c =
    let tree = (node_of c.args.object).tree in
    let whole = children_in (value_of tree) in
    let node = c.in-Some.node in
    let before = c.loop-next.members.items in
    let here : Gathered whole (children_from (Some node)) before = subst (λ (o : Option Cursor). Gathered whole (children_from o) before) c.in-Some.is c.loop-next.invariant in
    let behind : Gathered whole (children_after node) c.match-name.members.items = elim c.match-name.branch [
      | in-Some-name+in_ok-push w ↦
          (let named = ap (λ (b : List ℕ). Some (points_of b)) w.new.ensures.name ∙ w.in-Some-name.ensures.points in
          let more = gathered_named whole node before w.new.result (names_distinct tree (sound c.args.object).distinct) w.new.ensures.node named here in
          subst (λ (ms : List Member). Gathered whole (children_after node) ms) (sym (ap (λ v. v.items) w.members-is ∙ w.in_ok-push.ensures.items)) more)
      | in_default-name w ↦ subst (λ (ms : List Member). Gathered whole (children_after node) ms) (sym (ap (λ v. v.items) w.members-is)) (gathered_nameless whole node before w.in_default-name.ensures.points here)
    ] in
    subst (λ (rest : Children). Gathered whole rest c.match-name.members.items) (sym c.next_sibling-next.ensures.children) behind

pub returns : goal.returns
returns c = gathered_all _ _ _ (ap (λ (o : Option Cursor). children_from o) c.in_default.is) c.loop-next.invariant
