-- Each member that has a name is listed after those in front of it.
use Rattle.std.proofs.Common.{◌∙◌, List, ℕ, Some, sym, ap, subst, Option}
use Rattle.jp_values.specs.declared.member.Member.{Member}
use Rattle.jp_canon.proofs.Listed.{Listed, listed_none, listed_named, listed_nameless, listed_all}
use Rattle.jp_model.specs.Json.Tree.{Children, value_of}
use Rattle.jp_strings.specs.Points.{points_of}
use Rattle.jp_nodes.specs.declared.cursor.Cursor.{Cursor}
use Rattle.jp_nodes.specs.Cursors.{node_of, children_from, children_after}
use Rattle.jp_nodes.specs.Spots.{children_in}
use Rattle.jp_canon.proofs.members.append_members.Goals.{in-Some-name+in_ok-push, in_default-name}
use Rattle.jp_canon.proofs.members.append_members.Goals as goal

pub loop-next-init : goal.loop-next-init
loop-next-init c = listed_none _ _ _ c.first_child-next.ensures.children

pub loop-next-preserved : goal.loop-next-preserved
loop-next-preserved c =
    let whole = children_in (value_of (node_of c.args.object).tree) in
    let old = c.args.members.now.items in
    let node = c.in-Some.node in
    let before = c.loop-next.members.items in
    let here : Listed old before (children_from (Some node)) whole = subst (λ (o : Option Cursor). Listed old before (children_from o) whole) c.in-Some.is c.loop-next.invariant in
    let behind : Listed old c.match-name.members.items (children_after node) whole = elim c.match-name.branch [
      | in-Some-name+in_ok-push w ↦
          (let named = ap (λ (b : List ℕ). Some (points_of b)) w.new.ensures.name ∙ w.in-Some-name.ensures.points in
          let more = listed_named old before node w.new.result whole w.new.ensures.node named here in
          subst (λ (ms : List Member). Listed old ms (children_after node) whole) (sym (ap (λ v. v.items) w.members-is ∙ w.in_ok-push.ensures.items)) more)
      | in_default-name w ↦ subst (λ (ms : List Member). Listed old ms (children_after node) whole) (sym (ap (λ v. v.items) w.members-is)) (listed_nameless old before node whole w.in_default-name.ensures.points here)
    ] in
    subst (λ (rest : Children). Listed old c.match-name.members.items rest whole) (sym c.next_sibling-next.ensures.children) behind

pub returns : goal.returns
returns c = listed_all _ _ _ _ (ap (λ (o : Option Cursor). children_from o) c.in_default.is) c.loop-next.invariant
