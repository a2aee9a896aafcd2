-- What stands in a line from a position on.
use Rattle.std.proofs.Common.{◌≡◌, ℕ, zero, suc, ◌+◌, ◌-◌, ◌<◌, true, List, [], ◌∷◌, ◌++◌, length, drop, get_or, sym, ap, subst, ◌∙◌, arith, append_assoc, length-drop}
use Rattle.std.proofs.lemmas.List.{length-append}
use Rattle.jp_model.specs.Characters.{is_white}
use Rattle.jp_model.specs.Json.Places.{byte_at, White}
use Rattle.jp_laws.proofs.TextsFrom.{IsTextFrom, nth}
use Rattle.jp_cut_laws.proofs.Written.{IsWhite}

module _ (line : List ℕ) where
  pub rest_length : (i : ℕ) (rest : List ℕ) → IsTextFrom line i rest → length line ≡ i + length rest
  rest_length i rest s = let p = s.place in let d = length-drop i line in let e : length (drop i line) ≡ length rest = ap length s.is in omega (arith, d, e)

  -- bytes in two parts, and the rest
  pub parted : (i : ℕ) (bytes a b rest : List ℕ) → bytes ≡ a ++ b → IsTextFrom line i (bytes ++ rest) → IsTextFrom line i (a ++ (b ++ rest))
  parted i bytes a b rest e s = subst (IsTextFrom line i) (ap (λ xs. xs ++ rest) e ∙ append_assoc a b rest) s

  white_nth : (bytes rest : List ℕ) (k : ℕ) → k < length bytes → IsWhite bytes → is_white (get_or (bytes ++ rest) k 0) ≡ true
  white_nth [] rest k l h = absurd (omega arith)
  white_nth (byte ∷ bytes) rest zero l h = h.0
  white_nth (byte ∷ bytes) rest (suc k) l h = white_nth bytes rest k (omega arith) h.1

  pub white_front : (i : ℕ) (bytes rest : List ℕ) → IsWhite bytes → IsTextFrom line i (bytes ++ rest) → White line i (i + length bytes)
  white_front i bytes rest h s =
      let l = rest_length i (bytes ++ rest) s in
      let a = length-append bytes rest in
      record {
        order = omega arith;
        within = omega (arith, l, a);
        white = λ k low high.
            let there : i + (k - i) ≡ k = omega arith in
            ap is_white (ap (byte_at line) (sym there) ∙ nth line i (k - i) (bytes ++ rest) s) ∙ white_nth bytes rest (k - i) (omega arith) h;
      }
