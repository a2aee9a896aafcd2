-- What stands in a line from a position on.
use Rattle.std.proofs.Common.{◌≡◌, ℕ, ◌+◌, ◌-◌, ◌≤◌, List, [], ◌∷◌, ◌++◌, length, take, drop, get_or, refl, sym, ap, subst, ◌∙◌, arith, append_assoc, get_or-drop, length-drop, drop-drop}
use Rattle.std.proofs.lemmas.List.{length-append, take_at, drop_at}
use Rattle.jp_model.proofs.Reader.Bodies.{first_of_rest}
use Rattle.jp_model.specs.Json.Places.{byte_at, White, Has, Reads}

-- the rest of a line from a position on
pub record IsTextFrom (line : List ℕ) (i : ℕ) (rest : List ℕ) : Type 0 where
  pub place : i ≤ length line
  pub is : drop i line ≡ rest

module _ (line : List ℕ) where
  rest_length : (i : ℕ) (rest : List ℕ) → IsTextFrom line i rest → length line ≡ i + length rest
  rest_length i rest s = let p = s.place in let d = length-drop i line in let e : length (drop i line) ≡ length rest = ap length s.is in omega (arith, d, e)

  pub reads_front : (i : ℕ) (bytes rest : List ℕ) → IsTextFrom line i (bytes ++ rest) → Reads line i (i + length bytes) bytes
  reads_front i bytes rest s =
      let l = rest_length i (bytes ++ rest) s in
      let a = length-append bytes rest in
      record {
        order = omega arith;
        within = omega (arith, l, a);
        are = ap (λ n. take n (drop i line)) (let e : i + length bytes - i ≡ length bytes = omega arith in e) ∙ (ap (take (length bytes)) s.is ∙ take_at bytes rest (length bytes) refl);
      }

  pub go_on : (i : ℕ) (bytes rest : List ℕ) → IsTextFrom line i (bytes ++ rest) → IsTextFrom line (i + length bytes) rest
  go_on i bytes rest s =
      let l = rest_length i (bytes ++ rest) s in
      let a = length-append bytes rest in
      record { place = omega (arith, l, a); is = sym (drop-drop (length bytes) i line) ∙ (ap (drop (length bytes)) s.is ∙ drop_at bytes rest (length bytes) refl) }

  pub step_on : (i b : ℕ) (rest : List ℕ) → IsTextFrom line i (b ∷ rest) → IsTextFrom line (i + 1) rest
  step_on i b rest s = go_on i (b ∷ []) rest s

  pub regroup : (i : ℕ) (a b c : List ℕ) → IsTextFrom line i ((a ++ b) ++ c) → IsTextFrom line i (a ++ (b ++ c))
  regroup i a b c s = subst (IsTextFrom line i) (append_assoc a b c) s

  pub nth : (i k : ℕ) (rest : List ℕ) → IsTextFrom line i rest → byte_at line (i + k) ≡ get_or rest k 0
  nth i k rest s = sym (get_or-drop i line k 0) ∙ ap (λ l. get_or l k 0) s.is

  pub has_front : (i b : ℕ) (rest : List ℕ) → IsTextFrom line i (b ∷ rest) → Has line i b
  has_front i b rest s = record { inside = let l = rest_length i (b ∷ rest) s in omega arith; is = sym (first_of_rest line i) ∙ ap (λ l. get_or l 0 0) s.is }

  pub has_second : (i a b : ℕ) (rest : List ℕ) → IsTextFrom line i (a ∷ b ∷ rest) → Has line (i + 1) b
  has_second i a b rest s = has_front (i + 1) b rest (step_on i a (b ∷ rest) s)

  pub white_none : (i j : ℕ) → i ≡ j → i ≤ length line → White line i j
  white_none i j e l = record { order = omega arith; within = omega arith; white = λ k a b. absurd (omega arith) }
