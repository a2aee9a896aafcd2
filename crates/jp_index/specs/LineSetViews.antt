-- Sets of lines as the program keeps them.
use Rattle.std.specs.Prelude.{ℕ, ◌*◌, List, length}
use Rattle.jp_index.specs.LineSets.{numbers_in}
use Rattle.jp_index.specs.declared.line_set.LineSet.{LineSet}

-- the numbers of its lines
abbrev pub numbers_of : LineSet → List ℕ
numbers_of set = numbers_in set.words.items

-- it has a bit for each number below this
abbrev pub room_in : LineSet → ℕ
room_in set = 64 * length set.words.items
