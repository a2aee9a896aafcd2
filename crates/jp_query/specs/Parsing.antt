-- What the parser's functions give, beside the reader.
use Rattle.std.specs.Prelude.{◌≡◌, ℕ, List, [], ◌∷◌, ◌++◌, map, Bool, true, false, cond, Option, Some, None, Result, Ok, Err}
use Rattle.jp_model.specs.Characters.{is_white, is_digit, is_lower}
use Rattle.jp_model.specs.Query.Spelling.{is_name_first, is_name_scalar, is_function_scalar}
use Rattle.jp_model.specs.Query.Syntax.{Origin, Selector, name_selector, Argument, constant_argument, Logical, test, single, path}
use Rattle.jp_query.specs.Integers.{clamp}
use Rattle.jp_query.specs.Reading.Scalars.{Read, Reader, Item, ◌>>=◌, is_item, choose, after, after_blanks, all_of, skip_blanks, begins, with_front}
use Rattle.jp_query.specs.Reading.Numbers.{is_int_first, is_positive_digit}
use Rattle.jp_query.specs.Reading.Strings.{string_at}
use Rattle.jp_query.specs.Reading.Literals.{literal_at, operator_at}
use Rattle.jp_query.specs.Reading.Queries.{Expression, slice_behind, index_or_slice, singular_at, selector_at, next_selector, call_behind, comparison_behind}
use Rattle.jp_syntax.specs.View.{logical_view}
use Rattle.jp_query.specs.declared.parser.failure.Failure.{Failure}
use Rattle.jp_query.specs.declared.parser.failure.Failure.TheVariants as failures
use Rattle.jp_query.specs.declared.parser.class.Class.{Class}
use Rattle.jp_query.specs.declared.parser.class.Class.TheVariants as classes
use Rattle.jp_query.specs.declared.parser.parsed.Parsed.{Parsed}

-- a function that stopped so was right to do it: what it read is refused, or memory ran out
abbrev pub Fails : {Y : Type 0} → Failure → Option Y → Type 0
Fails failures.Memory read = Unit {0}
Fails (failures.Syntax stop) read = read ≡ None

-- what a function returned, seen by view, is what the reader gives, unless memory ran out
abbrev pub Gives : {X Y : Type 0} → (X → Y) → Result X Failure → Option Y → Type 0
Gives view (Ok x) read = read ≡ Some (view x)
Gives view (Err e) read = Fails e read

-- what a function returned, seen by view, is what the reader gives, and what it left is what is left, unless memory ran out
abbrev pub Reads : {X Y : Type 0} → (X → Y) → Result X Failure → List ℕ → Read Y → Type 0
Reads view (Ok x) left read = read ≡ Some (view x, left)
Reads view (Err e) left read = Fails e read

-- the same of what may stand there or not; where it does not, all of the scalars are left
abbrev pub ReadsItem : {X Y : Type 0} → (X → Y) → Result (Option X) Failure → List ℕ → List ℕ → Option (Read Y) → Type 0
ReadsItem view (Ok (Some x)) before left read = read ≡ Some (Some (view x, left))
ReadsItem view (Ok None) before left read = (read ≡ Some None) × (left ≡ before)
ReadsItem view (Err e) before left read = Fails e read

-- what is read, after the items in front of it
abbrev pub with_last : {A : Type 0} → List A → Read A → Read (List A)
with_last front read = read >>= λ r. Some (front ++ r.0 ∷ [], r.1)

-- what the reader gives was put after the old items, unless memory ran out
abbrev pub Adds : {X Y : Type 0} → (X → Y) → Result Unit Failure → List X → List X → List ℕ → Read Y → Type 0
Adds view (Ok done) old new left read = with_last (map view old) read ≡ Some (map view new, left)
Adds view (Err e) old new left read = Fails e read

-- the same of several items
abbrev pub AddsAll : {X Y : Type 0} → (X → Y) → Result Unit Failure → List X → List X → List ℕ → Read (List Y) → Type 0
AddsAll view (Ok done) old new left read = with_front (map view old) read ≡ Some (map view new, left)
AddsAll view (Err e) old new left read = Fails e read

-- the same of what may stand there or not; where it does not, the items are the old ones and all of the scalars are left
abbrev pub AddsItem : {X Y : Type 0} → (X → Y) → Result Bool Failure → List X → List X → List ℕ → List ℕ → Option (Read Y) → Type 0
AddsItem view (Ok true) old new before left item = (item >>= with_last (map view old)) ≡ Some (map view new, left)
AddsItem view (Ok false) old new before left item = (item ≡ Some None) × ((left ≡ before) × (new ≡ old))
AddsItem view (Err e) old new before left item = Fails e item

-- scalars stand in front and are passed, or they do not and none is
abbrev pub Takes : Bool → List ℕ → List ℕ → Option (List ℕ) → Type 0
Takes true before left behind = behind ≡ Some left
Takes false before left behind = (behind ≡ None) × (left ≡ before)

-- what may stand in front was read, or it does not stand there and none of the scalars is passed
abbrev pub TakesAs : {X Y : Type 0} → (X → Y) → Option X → List ℕ → List ℕ → Read Y → Type 0
TakesAs view (Some x) before left read = read ≡ Some (view x, left)
TakesAs view None before left read = (read ≡ None) × (left ≡ before)

-- the scalars of a class
abbrev pub is_member : Class → ℕ → Bool
is_member classes.Blank c = is_white c
is_member classes.Digit c = is_digit c
is_member classes.PositiveDigit c = is_positive_digit c
is_member classes.NameFirst c = is_name_first c
is_member classes.NameScalar c = is_name_scalar c
is_member classes.Lower c = is_lower c
is_member classes.FunctionScalar c = is_function_scalar c

-- an expression, and whether it is a query or a call alone
abbrev pub parsed_view : Parsed → Expression
parsed_view e = (e.is_bare, logical_view e.logical.value)

-- a selector that is neither a wildcard nor a filter
abbrev pub simple_selector : Reader Selector
simple_selector x = choose (after 58 x)
    (slice_behind clamp None)
    (cond (begins is_int_first x)
    (index_or_slice clamp x)
    (do
      r ← string_at x
      Some (name_selector r.0, r.1)))

-- selectors and the bracket after them
abbrev pub selectors_at : Reader Expression → Reader (List Selector)
selectors_at nested x = do
  s ← selector_at clamp nested x
  ss ← all_of (next_selector clamp nested) s.1
  z ← after_blanks 93 ss.1
  Some (s.0 ∷ ss.0, z)

-- a literal as an argument, if no operator stands after it
unfoldable pub literal_alone : Item Argument
literal_alone x = do
  l ← literal_at x
  choose (operator_at (skip_blanks l.1)) (λ op. Some None) (Some (Some (constant_argument l.0, l.1)))

-- a call alone, after its name and its parenthesis
abbrev pub call_test : Reader Expression → List ℕ → Reader Logical
call_test nested name x = do
  c ← call_behind clamp nested name x
  Some (test c.0, c.1)

-- a comparison whose first side is a singular query, after its mark, if an operator stands after the query
unfoldable pub single_comparison : Reader Expression → Origin → Item Expression
single_comparison nested origin x = do
  s ← singular_at clamp x
  choose (operator_at (skip_blanks s.1)) (λ op. is_item (comparison_behind clamp nested (single (path origin s.0)) op.0 op.1)) (Some None)
