-- What a survey holds of what it was told.
use Rattle.std.specs.Prelude.{◌≡◌, List, false}
use Rattle.jp_sink.specs.Events.{Event}
use Rattle.jp_survey.specs.Seen.{HasTold}
use Rattle.jp_survey.specs.Told.{told_by}
use Rattle.jp_survey.specs.declared.survey.Survey.{Survey}

-- Unless memory ran out, it has counted the nodes that it was told, line by line.
pub record HasSurveyed (survey : Survey) (told : List Event) : Type 0 where
  pub counted : survey.is_full ≡ false → HasTold survey.fold (told_by told) survey.number survey.tree
