-- A tree with more objects folded has counted the same nodes, and what it folds has many names.
use Rattle.std.proofs.Common.{ℕ, subst}
use Rattle.jp_survey.specs.Justified.{StayJustified}
use Rattle.jp_survey.specs.Surveys.{paths_in}
use Rattle.jp_survey.specs.Trees.{links_of, names_of}
use Rattle.jp_survey.proofs.Refolding.{refolded_counted}
use Rattle.jp_survey.proofs.tree.Tree.fold_objects.Goals as goal

pub returns-clause-tree : goal.returns-clause-tree
returns-clause-tree c =
    let old = c.args.self.now in let folded = c.in_ok-folded.ensures in let tree = c.requires in
    record {
      places = (folded.refolds (names_of old) tree.places).places;
      apart = folded.apart (names_of old) tree.places;
      counted = folded.counted;
      linked = folded.linked;
    }

pub returns-clause-seen : goal.returns-clause-seen
returns-clause-seen c fold lines was =
    let old = c.args.self.now in let new = c.in_ok-folded.folded in let folded = c.in_ok-folded.ensures in let tree = c.requires in
    let names = names_of old in let links = links_of old in let next = new.links.links.keys in
    record {
      limit = was.limit;
      counted = refolded_counted names links next old.counts.places.items new.counts.places.items lines old.lines (folded.refolds names tree.places) (folded.apart names tree.places) was.counted;
      justified = subst (λ (limit : ℕ). StayJustified limit names links next) was.limit (folded.justified names tree.places) (paths_in lines) was.justified;
    }

pub returns-clause-over : goal.returns-clause-over
returns-clause-over c = c.in_ok-folded.ensures.over
