use Rattle.std.proofs.Common.{rules, ◌≡◌, ◌&&◌, true, false, sym, ◌∙◌, ap, ap₂, subst, arith, Option, Some}
use Rattle.jp_model.specs.Json.Tree.{Children, value_of}
use Rattle.jp_model.specs.Meaning.Compare.{members_within}
use Rattle.jp_strings.specs.Points.{points_of}
use Rattle.jp_nodes.specs.declared.cursor.Cursor.{Cursor}
use Rattle.jp_nodes.specs.declared.Kind.TheVariants as kinds
use Rattle.jp_nodes.specs.Cursors.{node_of, name_of, children_from, children_after}
use Rattle.jp_nodes.specs.Spots.{children_in}
use Rattle.jp_nodes.specs.Words.{children_node_count}
use Rattle.jp_nodes.proofs.Places.{count-in, some_node}
use Rattle.jp_values.specs.Members.{EndsWith}
use Rattle.jp_values.specs.Scalars.{scalars_equal}
use Rattle.jp_values.proofs.Inside.{leaves_equal, none_found, one_found, members_unnamed}
use Rattle.jp_values.proofs.Lookups.{ends_here}
use Rattle.jp_values.proofs.equality.+equality.Goals.{equal-in_default-via-in-Array+in_default, equal-in_default-via-in-Object+in_default, equal-in_default-via-in_default, has_members-in-Some-name+in-Some-find_member+else-not-equal, has_members-in_default-name}
use Rattle.jp_values.proofs.equality.+equality.Goals as goal

array_or_object : kinds.Array ≡ kinds.Object → ⊥
array_or_object h = absurd (cc)

pub equal-returns-in_default : goal.equal-returns-in_default
equal-returns-in_default t c =
    c.equal.ensures ∙ (ap₂ scalars_equal c.of_node.ensures c.of_node-in_default.ensures ∙ elim c.in_default.branch [
      | equal-in_default-via-in-Array+in_default d ↦ leaves_equal _ _ (λ a b. d.in_default.not-Array-1 (c.kind-2.ensures ∙ b)) (λ a b. array_or_object (sym d.in_default.is-0 ∙ (c.kind.ensures ∙ a)))
      | equal-in_default-via-in-Object+in_default d ↦ leaves_equal _ _ (λ a b. array_or_object (sym a ∙ (sym c.kind.ensures ∙ d.in_default.is-0))) (λ a b. d.in_default.not-Object-1 (c.kind-2.ensures ∙ b))
      | equal-in_default-via-in_default d ↦ leaves_equal _ _ (λ a b. d.in_default.not-Array-0 (c.kind.ensures ∙ a)) (λ a b. d.in_default.not-Object-0 (c.kind.ensures ∙ a))
    ])

pub has_members-loop-next-init : goal.has_members-loop-next-init
has_members-loop-next-init t c =
    let l = (node_of c.args.left).tree in
    let r = children_in (value_of (node_of c.args.right).tree) in
    let count = count-in l in
    let size = ap children_node_count c.first_child-next.ensures.children in
    record {
      same = sym (ap (λ (k : Children). members_within k r) c.first_child-next.ensures.children);
      fewer = omega (arith, count, size);
      ends = subst (λ (k : Children). EndsWith r k) (sym c.first_child-likely.ensures.children) (ends_here r);
    }

pub has_members-returns-in_default-find_member : goal.has_members-returns-in_default-find_member
has_members-returns-in_default-find_member t c =
    let r = children_in (value_of (node_of c.args.right).tree) in
    sym (c.loop-next.invariant.same ∙ (ap (λ (o : Option Cursor). members_within (children_from o) r) c.in-Some.is
    ∙ none_found c.in-Some.member (points_of c.in-Some-name.name.now) r c.in-Some-name.ensures.points c.in_default-find_member.ensures.value))

pub has_members-returns-then-not-equal : goal.has_members-returns-then-not-equal
has_members-returns-then-not-equal t c =
    let r = children_in (value_of (node_of c.args.right).tree) in
    let unequal : c.equal.result ≡ false = search rules in
    sym (c.loop-next.invariant.same ∙ (ap (λ (o : Option Cursor). members_within (children_from o) r) c.in-Some.is
    ∙ (one_found c.in-Some.member (points_of c.in-Some-name.name.now) _ c.equal.result r c.in-Some-name.ensures.points c.in-Some-find_member.ensures.value c.equal.ensures
    ∙ ap (λ b. b && members_within (children_after c.in-Some.member) r) unequal)))

pub has_members-loop-next-preserved : goal.has_members-loop-next-preserved
has_members-loop-next-preserved t c =
    let r = children_in (value_of (node_of c.args.right).tree) in
    let member = c.in-Some.member in
    let rest = children_after member in
    let size = ap (λ (o : Option Cursor). children_node_count (children_from o)) c.in-Some.is in
    let next = ap children_node_count c.next_sibling-next.ensures.children in
    let fewer = c.loop-next.invariant.fewer in
    let some = some_node (node_of member).tree in
    let step : members_within (children_from (Some member)) r ≡ members_within rest r = elim c.match-name.branch [
      | has_members-in-Some-name+in-Some-find_member+else-not-equal w ↦
          (let alike : w.equal.result ≡ true = search rules in
          one_found member (points_of w.in-Some-name.name.now) _ w.equal.result r w.in-Some-name.ensures.points w.in-Some-find_member.ensures.value w.equal.ensures ∙ ap (λ b. b && members_within rest r) alike)
      | has_members-in_default-name w ↦ members_unnamed (name_of member) w.in_default-name.ensures.points (node_of member).tree rest r
    ] in
    let ends : EndsWith r (children_from c.match-name.likely) = elim c.match-name.branch [
      | has_members-in-Some-name+in-Some-find_member+else-not-equal w ↦
          subst (λ (k : Children). EndsWith r k) (sym (ap (λ (o : Option Cursor). children_from o) w.likely-is ∙ w.next_sibling-likely.ensures.children)) w.in-Some-find_member.ensures.behind
      | has_members-in_default-name w ↦ subst (λ (o : Option Cursor). EndsWith r (children_from o)) (sym w.likely-is) c.loop-next.invariant.ends
    ] in
    record {
      same = c.loop-next.invariant.same ∙ (ap (λ (o : Option Cursor). members_within (children_from o) r) c.in-Some.is ∙ (step ∙ ap (λ (k : Children). members_within k r) (sym c.next_sibling-next.ensures.children)));
      fewer = omega (arith, size, next, fewer, some);
      ends = ends;
    }
