-- The entries of the places in their order are a survey, and their rows are its text.
use Rattle.std.proofs.Common.{◌≡◌, List, arith}
use Rattle.std.proofs.lemmas.Result.{IfOk-weaker}
use Rattle.jp_survey.specs.Surveys.{Entry, IsSurvey, shown_by}
use Rattle.jp_survey.specs.Texts.{survey_text}
use Rattle.jp_survey.specs.Told.{lines_told, told_by}
use Rattle.jp_survey.specs.Trees.{links_of, names_of, tree_paths}
use Rattle.jp_survey.specs.Walked.{entries_in}
use Rattle.jp_survey.proofs.Apart.{paths_apart}
use Rattle.jp_survey.proofs.Arranged.{entries_arranged, entries_sorted}
use Rattle.jp_survey.proofs.Once.{listing_of_places}
use Rattle.jp_survey.proofs.Places.{many_paths}
use Rattle.jp_survey.proofs.Told.{survey_of_listing}
use Rattle.jp_survey.proofs.survey.Survey.text.Goals as goal

pub returns : goal.returns
returns c events h =
    let self = c.args.self.now in let lines = lines_told events in let tree = c.finish.new.self.tree in let is = c.in_ok-finish.ensures.tree in
    let names = names_of tree in let links = links_of tree in let counts = tree.counts.places.items in
    let paths = tree_paths tree in let order = c.in_ok-order.order.items in let survey = entries_in paths counts order in let asked = survey_text c.args.table c.args.has_names in
    let ordered = c.in_ok-order.ensures in let many = many_paths names links is.places in let long = is.counted in
    let counted = c.in_ok-finish.ensures.counted (told_by events) h.counted in
    let surveyed : IsSurvey self.fold lines survey =
    survey_of_listing (shown_by self.fold lines) lines counted.newest paths counts survey
    (listing_of_places paths counts survey (paths_apart names links is.places) (entries_arranged paths counts order ordered (omega (arith, many, long))) (entries_sorted paths counts order ordered)) counted.counted in
    IfOk-weaker c.text_of.result (λ text. text.items ≡ asked survey) (λ text. (survey : List Entry) × IsSurvey self.fold lines survey × (text.items ≡ asked survey))
    (λ text told. (survey, surveyed, told)) (rw c.deref.ensures.value at c.text_of.ensures)
