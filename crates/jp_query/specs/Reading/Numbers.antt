-- Readers of integers and of the spelling of numbers.
use Rattle.std.specs.Prelude.{ℕ, ℤ, pos, neg_ℤ, List, [], ◌∷◌, ◌++◌, Bool, not, ◌&&◌, ◌||◌, Some, ◌==◌}
use Rattle.jp_model.specs.Characters.{is_digit, digits_value}
use Rattle.jp_query.specs.Reading.Scalars.{Read, Reader, ◌>>=◌, choose, after, first_and_run}

-- DIGIT1
abbrev pub is_positive_digit : ℕ → Bool
is_positive_digit c = is_digit c && not (c == 48)

-- DIGIT1 *DIGIT
unfoldable pub positive : Reader (List ℕ)
positive x = first_and_run is_positive_digit is_digit x

-- 1*DIGIT
unfoldable pub some_digits : Reader (List ℕ)
some_digits x = first_and_run is_digit is_digit x

-- what an int begins with
abbrev pub is_int_first : ℕ → Bool
is_int_first c = is_digit c || c == 45

-- the value of some digits, read as an integer by `of_int`
abbrev pub read_value : (ℤ → ℤ) → Read (List ℕ) → Read ℤ
read_value of_int read = read >>= λ r. Some (of_int (pos (digits_value r.0)), r.1)

-- the value below 0 of some digits
abbrev pub read_negative : (ℤ → ℤ) → Read (List ℕ) → Read ℤ
read_negative of_int read = read >>= λ r. Some (of_int (neg_ℤ (pos (digits_value r.0))), r.1)

-- int (RFC 9535, section 2.3.3.1)
unfoldable pub int_at : (ℤ → ℤ) → Reader ℤ
int_at of_int x = choose (after 48 x)
    (λ y. Some (of_int (pos 0), y))
    (choose (after 45 x)
    (λ y. read_negative of_int (positive y))
    (read_value of_int (positive x)))

-- "0", or DIGIT1 *DIGIT
unfoldable pub int_digits : Reader (List ℕ)
int_digits x = choose (after 48 x) (λ y. Some (48 ∷ [], y)) (positive x)

-- [ "-" ]
unfoldable pub minus : List ℕ → List ℕ × List ℕ
minus x = choose (after 45 x) (λ y. (45 ∷ [], y)) ([], x)

-- [ frac ]
unfoldable pub fraction : Reader (List ℕ)
fraction x = choose (after 46 x)
    (λ y. do
      r ← some_digits y
      Some (46 ∷ r.0, r.1))
    (Some ([], x))

-- [ "+" / "-" ]
unfoldable pub sign : List ℕ → List ℕ × List ℕ
sign x = choose (after 43 x) (λ y. (43 ∷ [], y)) (choose (after 45 x) (λ y. (45 ∷ [], y)) ([], x))

-- exp after its letter
unfoldable pub exponent_behind : ℕ → Reader (List ℕ)
exponent_behind letter x = do
  r ← some_digits (sign x).1
  Some (letter ∷ ((sign x).0 ++ r.0), r.1)

-- [ exp ]
unfoldable pub exponent : Reader (List ℕ)
exponent x = choose (after 101 x) (exponent_behind 101) (choose (after 69 x) (exponent_behind 69) (Some ([], x)))

-- number, as it is spelled (RFC 9535, section 2.3.5.1)
unfoldable pub number_at : Reader (List ℕ)
number_at x = do
  i ← int_digits (minus x).1
  f ← fraction i.1
  e ← exponent f.1
  Some ((minus x).0 ++ (i.0 ++ (f.0 ++ e.0)), e.1)
