-- A walk over the tree of a query.
use Rattle.std.specs.Prelude.{ℕ}
use Rattle.jp_types.specs.declared.walk.Walk.{Walk}

-- the functions that it has passed
abbrev pub passed_functions : Walk → ℕ
passed_functions walk = walk.passed
