-- Readers of single scalars, of runs of them and of items one after another.
use Rattle.std.specs.Prelude.{ℕ, zero, suc, List, [], ◌∷◌, ◌++◌, length, Bool, false, Option, Some, None, ◌==◌, cond}
use Rattle.jp_model.specs.Characters.{is_white, is_lower}
use Rattle.jp_model.specs.Query.Spelling.{is_name_first, is_name_scalar, is_function_scalar}

-- what was read and the scalars after it; None where the scalars are refused
abbrev pub Read : Type 0 → Type 0
Read A = Option (A × List ℕ)

-- what reads from the front of some scalars
abbrev pub Reader : Type 0 → Type 0
Reader A = List ℕ → Read A

-- what is done with an answer, where there is one
infixl 10 ◌>>=◌
abbrev pub ◌>>=◌ : {A B : Type 0} → Option A → (A → Option B) → Option B
None >>= f = None
(Some x) >>= f = f x

-- one of two, by whether there is an answer
abbrev pub choose : {A B : Type 0} → Option A → (A → B) → B → B
choose None here other = other
choose (Some a) here other = here a

-- after a scalar, where it stands in front
abbrev pub after : ℕ → List ℕ → Option (List ℕ)
after c [] = None
after c (d ∷ x) = cond (d == c) (Some x) None

-- after these scalars, where they stand in front
abbrev pub after_all : List ℕ → List ℕ → Option (List ℕ)
after_all [] x = Some x
after_all (c ∷ word) x = after c x >>= after_all word

-- the longest run of a class, and what is left
abbrev pub run : (ℕ → Bool) → List ℕ → List ℕ × List ℕ
run is_member [] = ([], [])
run is_member (c ∷ x) = cond (is_member c) (c ∷ (run is_member x).0, (run is_member x).1) ([], c ∷ x)

-- after S (RFC 9535, section 2.1.1)
abbrev pub skip_blanks : List ℕ → List ℕ
skip_blanks x = (run is_white x).1

-- after S and a scalar
abbrev pub after_blanks : ℕ → List ℕ → Option (List ℕ)
after_blanks c x = after c (skip_blanks x)

-- a scalar of a class stands in front
abbrev pub begins : (ℕ → Bool) → List ℕ → Bool
begins is_member [] = false
begins is_member (c ∷ x) = is_member c

-- A reader of what may stand there or not: None where the scalars are refused, Some None where it does not stand there.
abbrev pub Item : Type 0 → Type 0
Item A = List ℕ → Option (Option (A × List ℕ))

-- what stands there
abbrev pub is_item : {A : Type 0} → Read A → Option (Option (A × List ℕ))
is_item None = None
is_item (Some r) = Some (Some r)

-- after one item, or none
abbrev pub many_after : {A : Type 0} → Option (Option (A × List ℕ)) → Reader (List A) → Reader (List A)
many_after None others x = None
many_after (Some None) others x = Some ([], x)
many_after (Some (Some r)) others x = do
  rs ← others r.1
  Some (r.0 ∷ rs.0, rs.1)

-- at most n items, up to the position where none stands
unfoldable pub many : {A : Type 0} → Item A → ℕ → Reader (List A)
many item zero x = Some ([], x)
many item (suc n) x = many_after (item x) (many item n) x

-- what was read before, and what is still read
abbrev pub with_front : {A : Type 0} → List A → Read (List A) → Read (List A)
with_front front read = read >>= λ r. Some (front ++ r.0, r.1)

-- as many items as there are: each takes a scalar at least
abbrev pub all_of : {A : Type 0} → Item A → Reader (List A)
all_of item x = many item (length x) x

-- a run of a class whose first scalar is of another one
abbrev pub first_and_run : (ℕ → Bool) → (ℕ → Bool) → Reader (List ℕ)
first_and_run is_first is_member [] = None
first_and_run is_first is_member (c ∷ x) = cond (is_first c) (Some (c ∷ (run is_member x).0, (run is_member x).1)) None

-- member-name-shorthand (RFC 9535, section 2.5.1.1)
unfoldable pub shorthand : Reader (List ℕ)
shorthand x = first_and_run is_name_first is_name_scalar x

-- function-name (RFC 9535, section 2.4)
unfoldable pub function_name : Reader (List ℕ)
function_name x = first_and_run is_lower is_function_scalar x

-- the name of a function, and what stands after it and its parenthesis (RFC 9535, section 2.4)
unfoldable pub call_start : Reader (List ℕ)
call_start x = do
  name ← function_name x
  y ← after 40 name.1
  Some (name.0, y)
