-- With the root alone nothing is counted and nothing is folded.
use Rattle.std.proofs.Common.{[], refl, rules}
use Rattle.jp_survey.specs.Places.{names_in}
use Rattle.jp_survey.proofs.Seen.{root_justified}
use Rattle.jp_survey.proofs.tree.Tree.new.Goals as goal

pub returns-clause-seen : goal.returns-clause-seen
returns-clause-seen c = record {
  limit = refl;
  counted = search rules;
  justified = root_justified c.args.fold [] (names_in c.new.result.keys) c.in_ok-new.field-0.links.keys c.in_ok-new.ensures.links;
}
