-- Readers of string literals (RFC 9535, section 2.3.1.1).
use Rattle.std.specs.Prelude.{ℕ, List, [], ◌∷◌, ◌||◌, Option, Some, None, ◌==◌, cond}
use Rattle.jp_model.specs.Characters.{four_digits, is_surrogate, is_high_surrogate, is_low_surrogate, pair_value}
use Rattle.jp_model.specs.Query.Spelling.{is_plain}
use Rattle.jp_query.specs.Reading.Scalars.{Reader, Item, is_item, ◌>>=◌, choose, after, all_of}

-- 4HEXDIG, with their value
unfoldable pub hex4 : Reader ℕ
hex4 (a ∷ b ∷ c ∷ d ∷ x) = four_digits a b c d >>= λ n. Some (n, x)
hex4 _ = None

-- the second half of a surrogate pair, and the scalar of both
unfoldable pub low_half : ℕ → Reader ℕ
low_half high x = do
  y ← after 92 x
  z ← after 117 y
  l ← hex4 z
  cond (is_low_surrogate l.0) (Some (pair_value high l.0, l.1)) None

-- hexchar
unfoldable pub hex_scalar : Reader ℕ
hex_scalar x = do
  h ← hex4 x
  cond (is_high_surrogate h.0) (low_half h.0 h.1) (cond (is_surrogate h.0) None (Some h))

-- the scalar that a letter after a backslash spells
abbrev pub escaped_letter : ℕ → Option ℕ
escaped_letter c =
    cond (c == 98) (Some 8) (cond (c == 102) (Some 12) (cond (c == 110) (Some 10) (cond (c == 114) (Some 13) (cond (c == 116) (Some 9)
    (cond (c == 47) (Some 47) (cond (c == 92) (Some 92) None))))))

-- what stands after a backslash, between two quotes of a kind
unfoldable pub escape_at : ℕ → Reader ℕ
escape_at quote [] = None
escape_at quote (c ∷ x) = cond (c == quote) (Some (quote, x)) (cond (c == 117) (hex_scalar x) (escaped_letter c >>= λ n. Some (n, x)))

-- one scalar of a text between two quotes of a kind, where the second one does not stand there
unfoldable pub next_scalar : ℕ → Item ℕ
next_scalar quote [] = None
next_scalar quote (c ∷ x) =
    cond (c == quote) (Some None)
    (cond (c == 92) (is_item (escape_at quote x))
    (cond (is_plain c || c == 34 || c == 39) (Some (Some (c, x))) None))

-- after the first of two quotes of a kind
unfoldable pub between_quotes : ℕ → Reader (List ℕ)
between_quotes quote x = do
  r ← all_of (next_scalar quote) x
  y ← after quote r.1
  Some (r.0, y)

-- string-literal
unfoldable pub string_at : Reader (List ℕ)
string_at x = choose (after 34 x) (between_quotes 34) (choose (after 39 x) (between_quotes 39) None)
