use Rattle.std.proofs.Common.{rules, ◌≡◌, ◌&&◌, true, false, sym, ◌∙◌, ap, ap₂, subst, arith, Option, Some, None, IfSome}
use Rattle.jp_model.specs.Json.Tree.{Children, value_of}
use Rattle.jp_model.specs.Meaning.Compare.{members_within}
use Rattle.jp_strings.specs.Points.{points_of}
use Rattle.jp_nodes.specs.declared.cursor.Cursor.{Cursor}
use Rattle.jp_nodes.specs.declared.Kind.TheVariants as kinds
use Rattle.jp_nodes.specs.Cursors.{node_of, name_of, children_from, children_after}
use Rattle.jp_nodes.specs.Spots.{children_in}
use Rattle.jp_nodes.specs.Words.{children_node_count}
use Rattle.jp_nodes.proofs.Places.{count-in, some_node}
use Rattle.jp_values.specs.declared.members.Searched.{Searched}
use Rattle.jp_values.specs.ByName.{AreKept}
use Rattle.jp_values.specs.Members.{EndsWith, found_value, member_named}
use Rattle.jp_values.specs.Scalars.{scalars_equal}
use Rattle.jp_values.proofs.Inside.{leaves_equal, none_found, one_found, members_unnamed}
use Rattle.jp_values.proofs.Lookups.{ends_here}
use Rattle.jp_values.proofs.equality_in.+equality_in.Goals.{equal_in-in_default-via-in-Array+in_default, equal_in-in_default-via-in-Object+in_default, equal_in-in_default-via-in_default, has_members_in-in-Some-name+in_ok-found+in-Some-2+in_ok-equal_in+else-not-branch, has_members_in-in_default-name}
use Rattle.jp_values.proofs.equality_in.+equality_in.Goals as goal

array_or_object : kinds.Array ≡ kinds.Object → ⊥
array_or_object h = absurd (cc)

-- the members of a node
abbrev inside : Cursor → Children
inside c = children_in (value_of (node_of c).tree)

pub equal_in-returns-in_default : goal.equal_in-returns-in_default
equal_in-returns-in_default t c =
    c.equal.ensures ∙ (ap₂ scalars_equal c.of_node.ensures c.of_node-in_default.ensures ∙ elim c.in_default.branch [
      | equal_in-in_default-via-in-Array+in_default d ↦ leaves_equal _ _ (λ a b. d.in_default.not-Array-1 (c.kind-2.ensures ∙ b)) (λ a b. array_or_object (sym d.in_default.is-0 ∙ (c.kind.ensures ∙ a)))
      | equal_in-in_default-via-in-Object+in_default d ↦ leaves_equal _ _ (λ a b. array_or_object (sym a ∙ (sym c.kind.ensures ∙ d.in_default.is-0))) (λ a b. d.in_default.not-Object-1 (c.kind-2.ensures ∙ b))
      | equal_in-in_default-via-in_default d ↦ leaves_equal _ _ (λ a b. d.in_default.not-Array-0 (c.kind.ensures ∙ a)) (λ a b. d.in_default.not-Object-0 (c.kind.ensures ∙ a))
    ])

pub has_members_in-loop-next-init : goal.has_members_in-loop-next-init
has_members_in-loop-next-init t c =
    let l = (node_of c.args.left).tree in
    let r = inside c.args.right in
    let count = count-in l in
    let size = ap children_node_count c.first_child-next.ensures.children in
    record {
      same = sym (ap (λ (k : Children). members_within k r) c.first_child-next.ensures.children);
      fewer = omega (arith, count, size);
      ends = subst (λ (k : Children). EndsWith r k) (sym c.first_child-likely.ensures.children) (ends_here r);
      object = c.new-searched.ensures.object;
      kept = c.new-searched.ensures.kept;
    }

pub has_members_in-returns-in_default-2 : goal.has_members_in-returns-in_default-2
has_members_in-returns-in_default-2 t c =
    let r = inside c.args.right in
    let x = points_of c.in-Some-name.name.now in
    let missing : None ≡ member_named x r = sym (ap found_value c.in_default-2.is) ∙ (c.in_ok-found.ensures.value ∙ ap (λ (o : Cursor). member_named x (inside o)) c.loop-next.invariant.object) in
    sym (c.loop-next.invariant.same ∙ (ap (λ (o : Option Cursor). members_within (children_from o) r) c.in-Some.is ∙ none_found c.in-Some.member x r c.in-Some-name.ensures.points missing))

pub has_members_in-returns-then-not-branch : goal.has_members_in-returns-then-not-branch
has_members_in-returns-then-not-branch t c =
    let r = inside c.args.right in
    let x = points_of c.in-Some-name.name.now in
    let v = value_of (node_of c.in-Some-2.found).tree in
    let b = c.in_ok-equal_in.field-0 in
    let found : Some v ≡ member_named x r = sym (ap found_value c.in-Some-2.is) ∙ (c.in_ok-found.ensures.value ∙ ap (λ (o : Cursor). member_named x (inside o)) c.loop-next.invariant.object) in
    let unequal : b ≡ false = search rules in
    sym (c.loop-next.invariant.same ∙ (ap (λ (o : Option Cursor). members_within (children_from o) r) c.in-Some.is
    ∙ (one_found c.in-Some.member x v b r c.in-Some-name.ensures.points found c.in_ok-equal_in.ensures ∙ ap (λ b. b && members_within (children_after c.in-Some.member) r) unequal)))

pub has_members_in-loop-next-preserved : goal.has_members_in-loop-next-preserved
has_members_in-loop-next-preserved t c =
    let r = inside c.args.right in
    let member = c.in-Some.member in
    let rest = children_after member in
    let size = ap (λ (o : Option Cursor). children_node_count (children_from o)) c.in-Some.is in
    let next = ap children_node_count c.next_sibling-next.ensures.children in
    let fewer = c.loop-next.invariant.fewer in
    let object = c.loop-next.invariant.object in
    let some = some_node (node_of member).tree in
    let step : members_within (children_from (Some member)) r ≡ members_within rest r = elim c.match-name.branch [
      | has_members_in-in-Some-name+in_ok-found+in-Some-2+in_ok-equal_in+else-not-branch w ↦
          (let x = points_of w.in-Some-name.name.now in
          let v = value_of (node_of w.in-Some-2.found).tree in
          let b = w.in_ok-equal_in.field-0 in
          let found : Some v ≡ member_named x r = sym (ap found_value w.in-Some-2.is) ∙ (w.in_ok-found.ensures.value ∙ ap (λ (o : Cursor). member_named x (inside o)) object) in
          let alike : b ≡ true = search rules in
          one_found member x v b r w.in-Some-name.ensures.points found w.in_ok-equal_in.ensures ∙ ap (λ b. b && members_within rest r) alike)
      | has_members_in-in_default-name w ↦ members_unnamed (name_of member) w.in_default-name.ensures.points (node_of member).tree rest r
    ] in
    let ends : EndsWith r (children_from c.match-name.likely) = elim c.match-name.branch [
      | has_members_in-in-Some-name+in_ok-found+in-Some-2+in_ok-equal_in+else-not-branch w ↦
          (let there = subst (λ (o : Option Cursor). IfSome o (λ k. EndsWith (inside c.loop-next.searched.object) (children_after k))) w.in-Some-2.is w.in_ok-found.ensures.behind in
          let here = subst (λ (o : Cursor). EndsWith (inside o) (children_after w.in-Some-2.found)) object there in
          subst (λ (k : Children). EndsWith r k) (sym (ap (λ (o : Option Cursor). children_from o) w.likely-is ∙ w.next_sibling-likely.ensures.children)) here)
      | has_members_in-in_default-name w ↦ subst (λ (o : Option Cursor). EndsWith r (children_from o)) (sym w.likely-is) c.loop-next.invariant.ends
    ] in
    let same : c.match-name.searched.object ≡ c.args.right = elim c.match-name.branch [
      | has_members_in-in-Some-name+in_ok-found+in-Some-2+in_ok-equal_in+else-not-branch w ↦ ap (λ (s : Searched). s.object) w.searched-is ∙ (w.in_ok-found.ensures.object ∙ object)
      | has_members_in-in_default-name w ↦ ap (λ (s : Searched). s.object) w.searched-is ∙ object
    ] in
    let kept : AreKept r c.match-name.searched.sorted.items = elim c.match-name.branch [
      | has_members_in-in-Some-name+in_ok-found+in-Some-2+in_ok-equal_in+else-not-branch w ↦
          (let there = subst (λ (o : Cursor). AreKept (inside o) w.find.new.self.sorted.items) object w.in_ok-found.ensures.kept in
          subst (λ (s : Searched). AreKept r s.sorted.items) (sym w.searched-is) there)
      | has_members_in-in_default-name w ↦ subst (λ (s : Searched). AreKept r s.sorted.items) (sym w.searched-is) c.loop-next.invariant.kept
    ] in
    record {
      same = c.loop-next.invariant.same ∙ (ap (λ (o : Option Cursor). members_within (children_from o) r) c.in-Some.is ∙ (step ∙ ap (λ (k : Children). members_within k r) (sym c.next_sibling-next.ensures.children)));
      fewer = omega (arith, size, next, fewer, some);
      ends = ends;
      object = same;
      kept = kept;
    }
