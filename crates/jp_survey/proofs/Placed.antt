-- Strides that are listed.
use Rattle.std.proofs.Common.{◌≡◌, List, [], ◌∷◌, refl}
use Rattle.std.specs.List.{list_any}
use Rattle.jp_survey.specs.Entries.{is_others_listed, path_of_listed}
use Rattle.jp_survey.specs.Surveys.{is_folded}
use Rattle.jp_survey.specs.declared.listing.Stride.{Stride as Listed}
use Rattle.jp_survey.specs.declared.listing.Stride.TheVariants as listed

-- a path goes through an object that is folded where one of its steps says so
pub folded_listed : (path : List Listed) → is_folded (path_of_listed path) ≡ list_any is_others_listed path
folded_listed [] = refl
folded_listed (listed.Element ∷ path) = folded_listed path
folded_listed (listed.Member name ∷ path) = folded_listed path
folded_listed (listed.Others ∷ path) = refl
