-- The strides so far stand after what was there.
use Rattle.std.proofs.Common.{◌≡◌, ◌++◌, take}
use Rattle.jp_survey.specs.Entries.{path_of_listed}
use Rattle.jp_survey.specs.Texts.{strides_text}
use Rattle.jp_survey.proofs.text.append_path.Given as goal

abbrev pub invariant-loop-stride : goal.invariant-loop-stride
invariant-loop-stride l = l.text.items ≡ l.initial.text.items ++ strides_text (path_of_listed (take l.stride-index l.path))
