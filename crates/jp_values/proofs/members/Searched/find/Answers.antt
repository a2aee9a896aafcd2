-- The likely member is the one of its name.
use Rattle.std.proofs.Common.{◌∙◌, sym, subst, Some, Option}
use Rattle.jp_model.specs.Json.Tree.{value_of}
use Rattle.jp_strings.specs.Points.{points_of}
use Rattle.jp_nodes.specs.declared.cursor.Cursor.{Cursor}
use Rattle.jp_nodes.specs.Cursors.{node_of, name_of, children_from, children_after}
use Rattle.jp_nodes.specs.Spots.{children_in}
use Rattle.jp_nodes.proofs.Cursors.{sound}
use Rattle.jp_values.specs.Members.{EndsWith}
use Rattle.jp_values.proofs.Lookups.{ends_behind, first_member, found_in_whole, names_distinct}
use Rattle.jp_values.proofs.members.Searched.find.Goals as goal

pub returns-clause-value : goal.returns-clause-value
returns-clause-value c =
    let tree = (node_of c.args.self.now.object).tree in
    let next = c.in-Some.next in
    let x = points_of c.args.name.now in
    let here = subst (λ (o : Option Cursor). EndsWith (children_in (value_of tree)) (children_from o)) c.in-Some.is c.requires.likely in
    let first = first_member x (name_of next) (node_of next).tree (children_after next) (sym c.is_named.ensures ∙ c.if-is_named.true) in
    sym (found_in_whole x (children_in (value_of tree)) (children_from (Some next)) (value_of (node_of next).tree) (names_distinct tree (sound c.args.self.now.object).distinct) here first)

pub returns-clause-behind : goal.returns-clause-behind
returns-clause-behind c =
    let tree = (node_of c.args.self.now.object).tree in
    ends_behind _ _ _ _ (subst (λ (o : Option Cursor). EndsWith (children_in (value_of tree)) (children_from o)) c.in-Some.is c.requires.likely)
