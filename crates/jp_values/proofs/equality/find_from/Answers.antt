use Rattle.std.proofs.Common.{◌≡◌, sym, ◌∙◌, ap, subst, refl, Option}
use Rattle.jp_model.specs.Json.Tree.{Children}
use Rattle.jp_strings.specs.Points.{points_of}
use Rattle.jp_nodes.specs.declared.cursor.Cursor.{Cursor}
use Rattle.jp_nodes.specs.Cursors.{node_of, name_of, children_from, children_after}
use Rattle.jp_values.specs.Members.{member_named, EndsWith}
use Rattle.jp_values.proofs.Lookups.{ends_here, ends_behind, other_member, first_member}
use Rattle.jp_values.proofs.equality.find_from.Goals as goal

pub loop-next-init : goal.loop-next-init
loop-next-init c = record { same = refl; ends = ends_here _ }

pub returns-then-is_named : goal.returns-then-is_named
returns-then-is_named c =
    let member = c.in-Some.member in
    let x = points_of c.args.name.now in
    let found = first_member x (name_of member) (node_of member).tree (children_after member) (sym c.is_named.ensures ∙ c.if-is_named.true) in
    let here = subst (λ (o : Option Cursor). EndsWith (children_from c.args.from) (children_from o)) c.in-Some.is c.loop-next.invariant.ends in
    record {
      value = sym (c.loop-next.invariant.same ∙ (ap (λ (o : Option Cursor). member_named x (children_from o)) c.in-Some.is ∙ found));
      behind = ends_behind _ _ _ _ here;
    }

pub loop-next-preserved : goal.loop-next-preserved
loop-next-preserved c =
    let member = c.in-Some.member in
    let x = points_of c.args.name.now in
    let here = subst (λ (o : Option Cursor). EndsWith (children_from c.args.from) (children_from o)) c.in-Some.is c.loop-next.invariant.ends in
    let skipped = other_member x (name_of member) (node_of member).tree (children_after member) (sym c.is_named.ensures ∙ c.if-is_named.false) in
    let behind : children_from c.next_sibling-next.result ≡ children_after member = c.next_sibling-next.ensures.children in
    record {
      same = c.loop-next.invariant.same ∙ (ap (λ (o : Option Cursor). member_named x (children_from o)) c.in-Some.is ∙ (skipped ∙ ap (member_named x) (sym behind)));
      ends = subst (λ (k : Children). EndsWith (children_from c.args.from) k) (sym behind) (ends_behind _ _ _ _ here);
    }
