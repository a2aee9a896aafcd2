use Rattle.std.proofs.Common.{sym}
use Rattle.jp_model.specs.Json.Tree.{value_of}
use Rattle.jp_strings.specs.Points.{points_of}
use Rattle.jp_nodes.specs.Cursors.{node_of, children_from}
use Rattle.jp_nodes.specs.Spots.{children_in}
use Rattle.jp_nodes.proofs.Cursors.{sound}
use Rattle.jp_values.proofs.Lookups.{found_in_whole, names_distinct, ends_trans}
use Rattle.jp_values.proofs.equality.find_member.Goals as goal

pub returns-in-Some-clause-value : goal.returns-in-Some-clause-value
returns-in-Some-clause-value c =
    let tree = (node_of c.args.object).tree in
    sym (found_in_whole (points_of c.args.name.now) (children_in (value_of tree)) (children_from c.args.likely) _ (names_distinct tree (sound c.args.object).distinct) c.requires.likely (sym c.in-Some.ensures.value))

pub returns-in-Some-clause-behind : goal.returns-in-Some-clause-behind
returns-in-Some-clause-behind c = ends_trans _ _ _ c.requires.likely c.in-Some.ensures.behind
