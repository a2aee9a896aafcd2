-- Whether what was scanned is UTF-8.
use Rattle.std.specs.Prelude.{◌≡◌, ℕ, List, [], ◌++◌, true}
use Rattle.std.specs.Str.{IsAscii}
use Rattle.simdutf8.specs.Tracks.{HasRead}
use Rattle.jp_masks.specs.declared.validity.Validity.{Validity}

-- these bytes were tested: ASCII characters at the front, and the checker read the others
pub record HasTested (validity : Validity) (read : List ℕ) : Type 0 where
  pub front : List ℕ
  pub others : List ℕ
  pub joined : read ≡ front ++ others
  pub ascii : IsAscii front
  pub checked : HasRead validity.checker others
  pub none : validity.is_ascii ≡ true → others ≡ []
