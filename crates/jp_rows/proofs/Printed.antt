-- The bytes of a path, step by step and scalar by scalar.
use Rattle.std.proofs.Common.{◌≡◌, ℕ, ℤ, List, [], ◌∷◌, ◌++◌, sym, ◌∙◌, ap, append-nil, append_assoc, codes, encode_utf8_all}
use lib.Utf8.{encode}
use Rattle.std.specs.List.{flat_map}
use Rattle.std.proofs.lemmas.Str.{encodes-append, encodes-IsAscii}
use Rattle.std.proofs.lemmas.List.Concat.{flat_map-append}
use Rattle.std.specs.Fmt.{signed_decimal}
use Rattle.std.specs.Str.{IsAscii}
use Rattle.jp_model.specs.Steps.{Step, name_step, index_step}
use Rattle.jp_model.specs.Meaning.Paths.{name_scalar, quoted, step_text, steps_text, path_text}
use Rattle.jp_rows.specs.Names.{name_text}

-- ---- names

pub name-append : (xs ys : List ℕ) → name_text (xs ++ ys) ≡ name_text xs ++ name_text ys
name-append xs ys = ap encode_utf8_all (flat_map-append name_scalar xs ys) ∙ encodes-append (flat_map name_scalar xs) (flat_map name_scalar ys)

pub name-single : (x : ℕ) → name_text (x ∷ []) ≡ encode_utf8_all (name_scalar x)
name-single x = ap encode_utf8_all (append-nil (name_scalar x))

-- one more scalar
pub name-push : (xs : List ℕ) (x : ℕ) → name_text (xs ++ x ∷ []) ≡ name_text xs ++ encode_utf8_all (name_scalar x)
name-push xs x = name-append xs (x ∷ []) ∙ ap (λ b. name_text xs ++ b) (name-single x)

-- one more scalar, and others after it
pub name-parts : (xs : List ℕ) (x : ℕ) (ys : List ℕ) → name_text (xs ++ x ∷ ys) ≡ (name_text xs ++ encode_utf8_all (name_scalar x)) ++ name_text ys
name-parts xs x ys =
    ap name_text (sym (append_assoc xs (x ∷ []) ys)) ∙ (name-append (xs ++ x ∷ []) ys ∙ ap (λ b. b ++ name_text ys) (name-push xs x))

-- ---- steps

pub named : (x : List ℕ) → encode_utf8_all (step_text (name_step x)) ≡ codes "['" ++ name_text x ++ codes "']"
unfolding encode
named x =
    let own : List ℕ = flat_map name_scalar x in
    let e : encode_utf8_all ((own ++ codes "'") ++ codes "]") ≡ name_text x ++ codes "']" =
    ap encode_utf8_all (append_assoc own (codes "'") (codes "]")) ∙ encodes-append own (codes "']") in
    ap (λ b. codes "['" ++ b) e

-- a name between single quotes
pub quotes : (x : List ℕ) → encode_utf8_all (quoted x) ≡ codes "'" ++ name_text x ++ codes "'"
unfolding encode
quotes x = ap (λ b. codes "'" ++ b) (encodes-append (flat_map name_scalar x) (codes "'"))

pub indexed : (i : ℤ) → IsAscii (signed_decimal i) → encode_utf8_all (step_text (index_step i)) ≡ codes "[" ++ signed_decimal i ++ codes "]"
unfolding encode
indexed i h =
    let e : encode_utf8_all (signed_decimal i ++ codes "]") ≡ signed_decimal i ++ codes "]" =
    encodes-append (signed_decimal i) (codes "]") ∙ ap (λ b. b ++ codes "]") (encodes-IsAscii (signed_decimal i) h) in
    ap (λ b. codes "[" ++ b) e

-- ---- paths

pub path-append : (xs ys : List Step) → path_text (xs ++ ys) ≡ path_text xs ++ encode_utf8_all (steps_text ys)
path-append xs ys =
    ap (λ b. encode_utf8_all (codes "$" ++ b)) (flat_map-append step_text xs ys) ∙ encodes-append (codes "$" ++ steps_text xs) (steps_text ys)

-- one more step
pub path-push : (xs : List Step) (s : Step) → path_text (xs ++ s ∷ []) ≡ path_text xs ++ encode_utf8_all (step_text s)
path-push xs s = path-append xs (s ∷ []) ∙ ap (λ b. path_text xs ++ encode_utf8_all b) (append-nil (step_text s))

-- one more step, and others after it
pub path-parts : (xs : List Step) (s : Step) (ys : List Step) → path_text (xs ++ s ∷ ys) ≡ (path_text xs ++ encode_utf8_all (step_text s)) ++ encode_utf8_all (steps_text ys)
path-parts xs s ys =
    ap path_text (sym (append_assoc xs (s ∷ []) ys)) ∙ (path-append (xs ++ s ∷ []) ys ∙ ap (λ b. b ++ encode_utf8_all (steps_text ys)) (path-push xs s))
