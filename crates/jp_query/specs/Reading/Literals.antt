-- Readers of literals, operators and the marks of queries (RFC 9535, section 2.3.5.1).
use Rattle.std.specs.Prelude.{ℕ, List, ◌∷◌, [], Bool, ◌||◌, Some, None, is_some, ◌==◌, cond, codes}
use Rattle.jp_model.specs.Query.Syntax.{CompareOp, equal, not_equal, less, less_equal, greater, greater_equal, Origin, root, current, Literal, null_literal, false_literal, true_literal, number_literal, string_literal}
use Rattle.jp_query.specs.Reading.Scalars.{Reader, ◌>>=◌, choose, after, after_all, begins, call_start}
use Rattle.jp_query.specs.Reading.Numbers.{number_at, is_int_first}
use Rattle.jp_query.specs.Reading.Strings.{string_at}

-- a quote
abbrev pub is_any_quote : ℕ → Bool
is_any_quote c = c == 34 || c == 39

-- true, false or null
unfoldable pub word_at : Reader Literal
word_at x = choose (after_all (codes "true") x)
    (λ y. Some (true_literal, y))
    (choose (after_all (codes "false") x)
    (λ y. Some (false_literal, y))
    (choose (after_all (codes "null") x) (λ y. Some (null_literal, y)) None))

-- literal
unfoldable pub literal_at : Reader Literal
literal_at x = cond (begins is_any_quote x)
    (do
      s ← string_at x
      Some (string_literal s.0, s.1))
    (cond (begins is_int_first x)
    (do
      n ← number_at x
      Some (number_literal n.0, n.1))
    (word_at x))

-- comparison-op; None where none stands there
unfoldable pub operator_at : Reader CompareOp
operator_at x = choose (after_all (61 ∷ 61 ∷ []) x) (λ y. Some (equal, y))
    (choose (after_all (33 ∷ 61 ∷ []) x) (λ y. Some (not_equal, y))
    (choose (after_all (60 ∷ 61 ∷ []) x) (λ y. Some (less_equal, y))
    (choose (after_all (62 ∷ 61 ∷ []) x) (λ y. Some (greater_equal, y))
    (choose (after 60 x) (λ y. Some (less, y))
    (choose (after 62 x) (λ y. Some (greater, y)) None)))))

-- current-node-identifier or root-identifier; None where neither stands there
unfoldable pub origin_at : Reader Origin
origin_at x = choose (after 64 x) (λ y. Some (current, y)) (choose (after 36 x) (λ y. Some (root, y)) None)

-- an expression that begins with no literal: with `!`, `(`, a query or a call
unfoldable pub begins_without_literal : List ℕ → Bool
begins_without_literal x = is_some (after 33 x) || is_some (after 40 x) || is_some (origin_at x) || is_some (call_start x)
