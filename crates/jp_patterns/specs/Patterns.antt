-- The literal patterns of a query, in the order of its text (RFC 9535, sections 2.4.6 and 2.4.7).
use Rattle.std.specs.Prelude.{ℕ, List, [], ◌∷◌, ◌++◌, Bool, ◌||◌, Option, Some, None, chars, codes, is_none, map, if◌then◌else◌}
use denote.Ref.{Bor}
use Rattle.jp_model.specs.Characters.{text_equal}
use Rattle.jp_model.specs.Pattern.Reading.{pattern_of}
use Rattle.jp_model.specs.Query.Syntax.{Literal, string_literal, Segment, child_segment, descendant_segment, Segments, no_segments, segment, Selector, filter_selector, Selectors, no_selectors, selector, Logical, or_all, and_all, negated, compare, exists, test, Logicals, no_logicals, logical, Comparable, constant, single, result, Argument, constant_argument, nodes_argument, condition, result_argument, Arguments, no_arguments, argument, Path, path, Call, call}

-- a function whose second argument is a pattern
abbrev pub takes_pattern : List ℕ → Bool
takes_pattern name = text_equal name (codes "match") || text_equal name (codes "search")

-- a literal that is a string
abbrev pub literal_text : Literal → Option (List ℕ)
literal_text (string_literal scalars) = Some scalars
literal_text _ = None

-- an argument that is a string which stands in the query
abbrev pub argument_text : Argument → Option (List ℕ)
argument_text (constant_argument c) = literal_text c
argument_text _ = None

-- the second of two arguments, where it is such a string
abbrev pub second_text : Arguments → Option (List ℕ)
second_text (argument a (argument b no_arguments)) = argument_text b
second_text _ = None

-- the pattern of a call, where it stands in the query
abbrev pub own_pattern : Call → Option (List ℕ)
own_pattern (call name arguments) = if takes_pattern name then second_text arguments else None

abbrev pub one_or_none : Option (List ℕ) → List (List ℕ)
one_or_none None = []
one_or_none (Some scalars) = scalars ∷ []

abbrev mutual
  -- the patterns of segments
  pub segments_patterns : Segments → List (List ℕ)
  segments_patterns no_segments = []
  segments_patterns (segment s ss) = segment_patterns s ++ segments_patterns ss

  -- of a segment
  pub segment_patterns : Segment → List (List ℕ)
  segment_patterns (child_segment ss) = selectors_patterns ss
  segment_patterns (descendant_segment ss) = selectors_patterns ss

  -- of selectors
  pub selectors_patterns : Selectors → List (List ℕ)
  selectors_patterns no_selectors = []
  selectors_patterns (selector s ss) = selector_patterns s ++ selectors_patterns ss

  -- of a selector
  pub selector_patterns : Selector → List (List ℕ)
  selector_patterns (filter_selector l) = logical_patterns l
  selector_patterns _ = []

  -- of an expression
  pub logical_patterns : Logical → List (List ℕ)
  logical_patterns (or_all ls) = logicals_patterns ls
  logical_patterns (and_all ls) = logicals_patterns ls
  logical_patterns (negated l) = logical_patterns l
  logical_patterns (compare a op b) = comparable_patterns a ++ comparable_patterns b
  logical_patterns (exists p) = path_patterns p
  logical_patterns (test c) = call_patterns c

  -- of its parts
  pub logicals_patterns : Logicals → List (List ℕ)
  logicals_patterns no_logicals = []
  logicals_patterns (logical l ls) = logical_patterns l ++ logicals_patterns ls

  -- of a side of a comparison
  pub comparable_patterns : Comparable → List (List ℕ)
  comparable_patterns (constant c) = []
  comparable_patterns (single p) = path_patterns p
  comparable_patterns (result c) = call_patterns c

  -- of a query within a filter
  pub path_patterns : Path → List (List ℕ)
  path_patterns (path o ss) = segments_patterns ss

  -- of a call: those in its arguments, and its own, which is the last of them
  pub call_patterns : Call → List (List ℕ)
  call_patterns (call name args) = arguments_patterns args ++ one_or_none (own_pattern (call name args))

  -- of arguments
  pub arguments_patterns : Arguments → List (List ℕ)
  arguments_patterns no_arguments = []
  arguments_patterns (argument a args) = argument_patterns a ++ arguments_patterns args

  -- of an argument
  pub argument_patterns : Argument → List (List ℕ)
  argument_patterns (constant_argument c) = []
  argument_patterns (nodes_argument p) = path_patterns p
  argument_patterns (condition l) = logical_patterns l
  argument_patterns (result_argument c) = call_patterns c

-- a pattern that is not a valid I-Regexp (RFC 9485), and so matches nothing
abbrev pub is_invalid : List ℕ → Bool
is_invalid scalars = is_none (pattern_of scalars)

-- the scalars of some texts
abbrev pub texts_of : List (Bor (List ℕ)) → List (List ℕ)
texts_of texts = map (λ text. chars text.now) texts
