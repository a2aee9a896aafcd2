-- Segments that are read one after the other.
use Rattle.std.proofs.Common.{◌≡◌, ℕ, ℤ, List, Some, refl}
use Rattle.jp_model.specs.Query.Syntax.{Segment}
use Rattle.jp_query.specs.Parsing.{Fails}
use Rattle.jp_query.specs.Reading.Queries.{Expression, next_segment, segments_at}
use Rattle.jp_query.specs.Reading.Scalars.{Reader, all_of}
use Rattle.jp_syntax.specs.View.{segments_of}
use Rattle.jp_query.specs.declared.parser.failure.Failure.{Failure}
use Rattle.jp_query.specs.declared.parser.failure.Failure.TheVariants as failures

module _ (of_int : ℤ → ℤ) (nested : Reader Expression) (x : List ℕ) where
  -- where one of them is refused, all are
  pub segments_fail : (e : Failure) → Fails e (all_of (next_segment of_int nested) x) → Fails e (segments_at of_int nested x)
  unfolding segments_at
  segments_fail failures.Memory h = tt
  segments_fail (failures.Syntax stop) h = rw h refl

  -- the list of them is what is read
  pub segments_given : (ss : List Segment) (y : List ℕ) → all_of (next_segment of_int nested) x ≡ Some (ss, y) → segments_at of_int nested x ≡ Some (segments_of ss, y)
  unfolding segments_at
  segments_given ss y h = rw h refl
