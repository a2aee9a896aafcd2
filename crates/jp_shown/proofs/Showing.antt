-- A text as it is shown, scalar by scalar.
use Rattle.std.proofs.Common.{arith, ◌≡◌, ◌∙◌, ◌+◌, ◌++◌, [], ◌<◌, ℕ, List, ap, encode_utf8_all, flat_map, get_or, codes, length, refl, suc, sym, take}
use lib.Utf8.{encode}
use Rattle.std.proofs.Math.Seq.{take-suc}
use Rattle.std.proofs.lemmas.List.{append_assoc, flat_map_more}
use Rattle.std.proofs.lemmas.Str.{encodes-append}
use Rattle.jp_shown.specs.Texts.{shown_scalar}

-- the next scalar is shown after those before it
pub next_shown : (xs : List ℕ) (i d : ℕ) → i < length xs
    → encode_utf8_all (flat_map shown_scalar (take i xs)) ++ encode_utf8_all (shown_scalar (get_or xs i d)) ≡ encode_utf8_all (flat_map shown_scalar (take (i + 1) xs))
next_shown xs i d l =
    sym (encodes-append (flat_map shown_scalar (take i xs)) (shown_scalar (get_or xs i d)))
    ∙ (ap encode_utf8_all (flat_map_more shown_scalar [] (take i xs) (get_or xs i d)) ∙ ap (λ t. encode_utf8_all (flat_map shown_scalar t)) (sym (ap (λ n. take n xs) one ∙ take-suc xs i d l)))
  where
    one : i + 1 ≡ suc i
    one = omega arith

-- so it stands after a text
pub shown_more : (b s t : List ℕ) (xs : List ℕ) (i d : ℕ) → i < length xs → t ≡ b ++ encode_utf8_all (flat_map shown_scalar (take i xs))
    → s ≡ t ++ encode_utf8_all (shown_scalar (get_or xs i d)) → s ≡ b ++ encode_utf8_all (flat_map shown_scalar (take (i + 1) xs))
shown_more b s t xs i d l before after =
    after ∙ (ap (λ r. r ++ encode_utf8_all (shown_scalar (get_or xs i d))) before ∙ (append_assoc b _ _ ∙ ap (λ r. b ++ r) (next_shown xs i d l)))

-- the two points stand for themselves
points_encoded : encode_utf8_all (codes "..") ≡ codes ".."
unfolding encode
points_encoded = refl

-- they stand after a text that is cut
pub points_shown : (cs : List ℕ) → encode_utf8_all (cs ++ codes "..") ≡ encode_utf8_all cs ++ codes ".."
points_shown cs = encodes-append cs (codes "..") ∙ ap (λ b. encode_utf8_all cs ++ b) points_encoded
