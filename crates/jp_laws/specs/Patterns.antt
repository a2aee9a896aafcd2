-- A pattern with any text around it.
use Rattle.std.specs.Prelude.{false, [], ◌∷◌, None}
use Rattle.jp_model.specs.Pattern.Tree.{range, CharClass, members, Pattern, one_of, followed_by, times}

-- every scalar (Unicode 15, section 3.9), also the two that `.` leaves out
abbrev pub every_scalar : CharClass
every_scalar = members false (range 0 0x10FFFF ∷ [])

-- any number of scalars
abbrev pub any_text : Pattern
any_text = times (one_of every_scalar) 0 None

-- the pattern after any text and in front of any
abbrev pub somewhere : Pattern → Pattern
somewhere r = followed_by any_text (followed_by r any_text)
