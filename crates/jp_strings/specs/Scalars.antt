-- What an iterator over a body has left.
use Rattle.std.specs.Prelude.{ℕ, List}
use Rattle.jp_strings.specs.declared.scalars.Scalars.{Scalars}
use Rattle.jp_strings.specs.Points.{points_from}

-- the code points that are spelled from its position on
abbrev pub scalars_left : Scalars → List ℕ
scalars_left s = points_from s.body.now s.at
