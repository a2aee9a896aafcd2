-- Members of an object that is folded are with all others.
use Rattle.std.proofs.Common.{◌∙◌, ap, sym}
use Rattle.std.specs.Prelude.{is_some}
use Rattle.jp_survey.specs.Trees.{links_of, names_of}
use Rattle.jp_survey.proofs.Guesses.{others_found}
use Rattle.jp_survey.proofs.Names.{not_folded_at}
use Rattle.jp_survey.proofs.tree.Tree.others_place.Goals as goal

pub returns-clause-place : goal.returns-clause-place
returns-clause-place c = others_found c.args.self.now c.requires c.args.parent c.find.result c.find.ensures.place

pub returns-clause-plain : goal.returns-clause-plain
returns-clause-plain c none within =
    let tree = c.args.self.now in
    not_folded_at (names_of tree) (links_of tree) c.requires.places c.args.parent within (sym c.find.ensures.found ∙ ap is_some none)
