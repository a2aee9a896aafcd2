-- What is known while a text is read, and what its listener was told.
use Rattle.std.specs.Prelude.{◌≡◌, ℕ, suc, ◌+◌, ◌-◌, ◌*◌, ◌<◌, ◌≤◌, max, List, [], ◌∷◌, ◌++◌, length, Option, Some, None, vec_capacity}
use Rattle.jp_model.specs.Json.Places.{White, byte_at}
use Rattle.jp_model.specs.Json.Tree.{Tree, Container, array, object, Name}
use Rattle.jp_model.specs.Json.Faults.{depth}
use Rattle.jp_model.specs.Json.Marks.{marks}
use Rattle.jp_model.specs.Json.Spelling.{Text, opening, closing}
use Rattle.jp_tape.specs.declared.builder.reader.Next.{Next}
use Rattle.jp_tape.specs.declared.builder.reader.Next.TheVariants as nexts
use Rattle.jp_tape.specs.declared.builder.reader.Reader.{Reader}
use Rattle.jp_tape.specs.Places.{Stops}
use Rattle.jp_tape.specs.Ahead.{IsAhead, IsClosed, IsNext}
use Rattle.jp_tape.specs.Reading.{IsLabel}
use Rattle.jp_tape.specs.Machine.{Frame, grown, Value_at, After_value, Leads, open_depth}

-- what was told of a line: these containers are open, the next value has this name, and there is room for as much more as the
-- number says; or all of its tree
pub data Told : Type 0 where
  Up_to : List Frame → Option Name → ℕ → Told
  Whole : Tree → Told

-- the same once this value is told too
abbrev pub after_value : List Frame → Option Name → Tree → ℕ → Told
after_value [] own t room = Whole t
after_value (f ∷ frames) own t room = Up_to (grown f own t ∷ frames) None room

-- a child of an object has a name, and an element of an array has none
abbrev pub Suits : Container → Option Name → Type 0
Suits array None = Unit {0}
Suits array (Some name) = ⊥
Suits object None = ⊥
Suits object (Some name) = Unit {0}

-- so may the next value have this name or none; the value of the whole line has none
abbrev pub SuitsIn : List Frame → Option Name → Type 0
SuitsIn [] own = own ≡ None
SuitsIn (f ∷ frames) own = Suits f.kind own

-- there is room for more
abbrev pub Listens : (List ℕ → Told → Type 0) → Type 0
Listens stands = (line : List ℕ) × (frames : List Frame) × (own : Option Name) × (room : ℕ) × (0 < room) × stands line (Up_to frames own room)

-- the name of a child, where it has one, was read and told, and its value begins at a place
pub record IsNamed (old new : List ℕ → Told → Type 0) (line : List ℕ) (kind : Container) (from at : ℕ) (before after : Reader) : Type 0 where
  pub own : Option Name
  pub label : IsLabel line kind from at own
  pub fewer : length after.marks.now ≤ length before.marks.now
  pub told : (frames : List Frame) (room : ℕ) → 0 < room → old line (Up_to frames None room) → new line (Up_to frames own room)

-- the closing brackets of open containers, the innermost last
abbrev pub closings : List Frame → List ℕ
closings [] = []
closings (f ∷ frames) = closings frames ++ closing f.kind ∷ []

-- no more containers may be open than the stack has room for, and each has a mark that was passed. Where one is open, the last mark
-- of the line closes one.
pub record IsRoomy (line : List ℕ) (frames : List Frame) (r : Reader) : Type 0 where
  pub stack : r.stack.now.items ≡ closings frames
  pub capacity : r.most_depth ≤ vec_capacity r.stack.now
  pub passed : length frames + length r.marks.now ≤ length (marks line)
  pub closed : 0 < length frames → IsClosed line r.marks.now

-- a value may begin at this place with the first of these marks: a string has two of them, and the last of them closes an array or
-- an object
pub record MayBegin (line : List ℕ) (at : ℕ) (marks : List ℕ) : Type 0 where
  pub some : 0 < length marks
  pub quoted : byte_at line at ≡ 0x22 → 2 ≤ length marks
  pub closed : (kind : Container) → byte_at line at ≡ opening kind → IsClosed line marks

-- a value begins at this place, and all before it was told. Each node that is to come has a mark of its
-- own, and one behind it, but for those of the containers that may be open at the end.
pub record IsValueNext (stands : List ℕ → Told → Type 0) (line : List ℕ) (at : ℕ) (r : Reader) : Type 0 where
  pub frames : List Frame
  pub own : Option Name
  pub roomy : IsRoomy line frames r
  pub shallow : open_depth frames ≤ r.most_depth
  pub suits : SuitsIn frames own
  pub room : ℕ
  pub enough : length r.marks.now + r.most_depth + 1 ≤ 2 * room + length frames
  pub told : stands line (Up_to frames own room)
  pub leads : Leads line (Value_at frames own at)
  pub inside : at < length line
  pub ahead : IsNext line at r.marks.now
  pub begins : MayBegin line at r.marks.now

-- a value has ended, the next token is at this place, or the line ends there, and all before it was told
pub record IsValueBehind (stands : List ℕ → Told → Type 0) (line : List ℕ) (at : ℕ) (r : Reader) : Type 0 where
  pub frames : List Frame
  pub own : Option Name
  pub tree : Tree
  pub roomy : IsRoomy line frames r
  pub shallow : max (open_depth frames) (length frames + depth tree) ≤ r.most_depth
  pub room : ℕ
  pub enough : length r.marks.now + r.most_depth ≤ 2 * room + length frames
  pub told : stands line (after_value frames own tree room)
  pub ended : ℕ
  pub leads : Leads line (After_value frames own tree ended)
  pub white : White line ended at
  pub stops : Stops line at
  pub within : at ≤ length line
  pub ahead : IsAhead line at r.marks.now
  pub more : 0 < length frames → 0 < length r.marks.now

-- the line was told, and nests no deeper than it may
abbrev pub IsTold : (List ℕ → Told → Type 0) → List ℕ → ℕ → Type 0
IsTold stands line most = (t : Tree) × Text line t × (depth t ≤ most) × stands line (Whole t)

-- what is known where this is next
abbrev pub IsReached : (List ℕ → Told → Type 0) → List ℕ → Next → Reader → Type 0
IsReached stands line (nexts.Value at) r = IsValueNext stands line at r
IsReached stands line (nexts.After at) r = IsValueBehind stands line at r

-- the same where a value is next, or the line ends
abbrev pub IsReadOn : (List ℕ → Told → Type 0) → List ℕ → Option ℕ → Reader → Type 0
IsReadOn stands line (Some at) r = IsValueNext stands line at r
IsReadOn stands line None r = IsTold stands line r.most_depth

-- how much is left to read
abbrev pub next_left : List ℕ → Next → ℕ
next_left line (nexts.Value at) = suc (length line - at)
next_left line (nexts.After at) = suc (length line - at)

-- the same
abbrev pub left_behind : List ℕ → Option ℕ → ℕ
left_behind line (Some at) = suc (length line - at)
left_behind line None = 0

-- the reader has begun
pub record IsBegun (line : List ℕ) (r : Reader) : Type 0 where
  pub marks_are : r.marks.now ≡ marks line
  pub stack : r.stack.now.items ≡ []
  pub capacity : r.most_depth ≤ vec_capacity r.stack.now
