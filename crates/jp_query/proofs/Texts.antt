-- Scalars added to a text.
use Rattle.std.proofs.Common.{◌≡◌, ℕ, List, [], ◌∷◌, ◌++◌, true, if◌then◌else◌, Result, Ok, Err, is_ok, OnOk, chars, encode_utf8, refl, sym, ap, ◌∙◌, append-nil, IsUtf8}
use Rattle.std.proofs.lemmas.Str.{chars-append, chars-encodes}
use Rattle.std.proofs.Math.Utf8.{scalar, scalars, encode, encodes}

one_scalar : (c : ℕ) → scalar c ≡ true → chars (encode c) ≡ c ∷ []
one_scalar c h =
    let s : scalars (c ∷ []) ≡ true = rw h refl in
    let e : encodes (c ∷ []) ≡ encode c = append-nil (encode c) in
    ap chars (sym e) ∙ chars-encodes (c ∷ []) s

-- a text with one scalar more
pub pushed : {E : Type 0} (r : Result (Unit {0}) E) (new old : List ℕ) (c : ℕ) → new ≡ (if is_ok r then old ++ encode_utf8 c else old) → IsUtf8 old → scalar c ≡ true → OnOk r (chars new ≡ chars old ++ c ∷ [])
pushed (Ok x) new old c h u s = ap chars h ∙ (chars-append old (encode c) u ∙ ap (λ (t : List ℕ). chars old ++ t) (one_scalar c s))
pushed (Err e) new old c h u s = tt
