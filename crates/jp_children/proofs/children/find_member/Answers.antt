-- The children from this one on have all members of the name, and their names differ.
use Rattle.std.proofs.Common.{◌≡◌, ◌∙◌, sym, ap, subst, false, ◌+◌, List, ℕ, Option, Some, None}
use Rattle.std.specs.Str.{chars}
use Rattle.jp_model.specs.Json.Faults.{names, has_repeated}
use Rattle.jp_model.specs.Json.Tree.{Children}
use Rattle.jp_model.specs.Meaning.Nodes.{Node}
use Rattle.jp_model.specs.Meaning.Slices.{is_name}
use Rattle.jp_nodes.specs.declared.cursor.Cursor.{Cursor}
use Rattle.jp_nodes.specs.Cursors.{line_of, node_of, name_of, children_after}
use Rattle.jp_nodes.proofs.Cursors.{sound, standing}
use Rattle.jp_children.specs.Found.{node_list}
use Rattle.jp_children.proofs.Walks.{at_first, at_next, passed_here, all_chosen}
use Rattle.jp_children.proofs.NoMembers.{no_members}
use Rattle.jp_children.proofs.Members.{only_one, distinct_children, distinct_behind}
use Rattle.jp_children.proofs.children.find_member.Goals as goal

pub returns-then-not-is_object-clause-nodes : goal.returns-then-not-is_object-clause-nodes
returns-then-not-is_object-clause-nodes c =
    sym (no_members (line_of c.args.node) (chars c.args.name.now) (node_of c.args.node) (standing c.args.node).spells (c.is_object.ensures c.if-not-is_object.true))

pub loop-child-init : goal.loop-child-init
loop-child-init c =
    let n : Node = node_of c.args.node in
    let e = c.in_ok-child.ensures in
    let at = at_first n (Some c.in_ok-child.child) e.nodes e.children in
    record {
      left = record { index = 0; at = at; told = all_chosen (is_name (chars c.args.name.now)) n (Some c.in_ok-child.child) at };
      once = subst (λ (x : Children). has_repeated (names x) ≡ false) (sym e.children) (distinct_children n.tree (sound c.args.node).distinct);
      line = e.line;
    }

pub returns-then-is_named-clause-nodes : goal.returns-then-is_named-clause-nodes
returns-then-is_named-clause-nodes c =
    let x : List ℕ = chars c.args.name.now in
    let left = c.loop-child.invariant.left in
    sym (only_one x (node_of c.args.node) left.index c.loop-child.child left.at (sym (c.is_named.ensures left.index) ∙ c.if-is_named.true) c.loop-child.invariant.once) ∙ left.told

pub returns-in_err-child-2-clause-nodes : goal.returns-in_err-child-2-clause-nodes
returns-in_err-child-2-clause-nodes c =
    let x : List ℕ = chars c.args.name.now in
    let left = c.loop-child.invariant.left in
    ap node_list c.from_residual-in_err-child-2.ensures
    ∙ (sym (passed_here (is_name x) (node_of c.args.node) left.index c.loop-child.child None c.in_err-child-2.ensures.children (sym (c.is_named.ensures left.index) ∙ c.if-is_named.false)) ∙ left.told)

pub loop-child-preserved : goal.loop-child-preserved
loop-child-preserved c =
    let x : List ℕ = chars c.args.name.now in
    let n : Node = node_of c.args.node in
    let child : Cursor = c.loop-child.child in
    let next : Option Cursor = Some c.in_ok-child-2.child in
    let e = c.in_ok-child-2.ensures in
    let left = c.loop-child.invariant.left in
    record {
      left = record {
        index = left.index + 1;
        at = at_next n left.index child next left.at e.nodes e.children;
        told = sym (passed_here (is_name x) n left.index child next e.children (sym (c.is_named.ensures left.index) ∙ c.if-is_named.false)) ∙ left.told;
      };
      once = subst (λ (y : Children). has_repeated (names y) ≡ false) (sym e.children) (distinct_behind (name_of child) (node_of child).tree (children_after child) c.loop-child.invariant.once);
      line = e.line ∙ c.loop-child.invariant.line;
    }
