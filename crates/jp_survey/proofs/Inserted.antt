-- A name that is inserted among others.
use Rattle.std.proofs.Common.{◌≡◌, ◌∙◌, ◌≢◌, ℕ, ◌<◌, ◌⊎◌, inl, inr, List, [], ◌∷◌, ◌++◌, length, get_or, Bool, true, false, ap, sym, arith}
use Rattle.std.specs.Prelude.{Some, chars, encode_utf8_all, slice_get, string_bytes, String, if◌then◌else◌}
use Rattle.std.specs.Bool.{Decides}
use Rattle.std.specs.List.{list_any}
use Rattle.std.proofs.lemmas.Bool.{cases_Bool}
use Rattle.indexmap.specs.IndexSet.{insert_key}
use Rattle.std.proofs.lemmas.List.{get_or-map, length-map, map-append}
use Rattle.std.proofs.lemmas.List.Folds.{list_any_at}
use Rattle.std.proofs.lemmas.Option.{get_or_from_slice_get, slice_get_within}
use Rattle.std.proofs.lemmas.Str.{IsUtf8-string_bytes, encodes-chars}
use Rattle.jp_survey.specs.Places.{names_in}

module _ {A : Type 0} (same : String A → String A → Bool) (decides : (x y : String A) → Decides (same x y) (string_bytes x ≡ string_bytes y)) where
  -- texts of the same scalars have the same bytes
  same_bytes : (x y : String A) → chars (string_bytes x) ≡ chars (string_bytes y) → string_bytes x ≡ string_bytes y
  same_bytes x y e = sym (encodes-chars (string_bytes x) (IsUtf8-string_bytes x)) ∙ (ap encode_utf8_all e ∙ encodes-chars (string_bytes y) (IsUtf8-string_bytes y))

  -- a name that is not there is another than each
  pub other_name : (keys : List (String A)) (text : String A) → list_any (same text) keys ≡ false → (k : ℕ) → k < length (names_in keys) → get_or (names_in keys) k [] ≢ chars (string_bytes text)
  other_name keys text none k l e =
      let many = length-map keys (λ (name : String A). chars (string_bytes name)) in
      let s : k < length keys = omega (arith, many, l) in
      let key = get_or keys k text in
      let is : chars (string_bytes key) ≡ chars (string_bytes text) = sym (get_or-map (λ (name : String A). chars (string_bytes name)) keys k text [] s) ∙ e in
      let found = list_any_at (same text) keys k text s ((decides text key).1 (sym (same_bytes key text is))) in
      absurd (cc (found, none))

  -- the name at a number
  pub name_at : (keys : List (String A)) (text key : String A) (k : ℕ) → slice_get keys k ≡ Some key → same text key ≡ true
      → (k < length (names_in keys)) × (get_or (names_in keys) k [] ≡ chars (string_bytes text))
  name_at keys text key k e is =
      let s = slice_get_within keys k key e in
      let many = length-map keys (λ (name : String A). chars (string_bytes name)) in (
        omega (arith, many, s),
        get_or-map (λ (name : String A). chars (string_bytes name)) keys k key [] s
            ∙ ap (λ (name : String A). chars (string_bytes name)) (get_or_from_slice_get keys k key key e) ∙ sym (ap chars ((decides text key).0 is)),
      )

  pub names_push : (keys : List (String A)) (text : String A) → names_in (keys ++ text ∷ []) ≡ names_in keys ++ chars (string_bytes text) ∷ []
  names_push keys text = map-append (λ (name : String A). chars (string_bytes name)) keys (text ∷ [])

  -- the names, once one is inserted
  pub names_step : (keys after : List (String A)) (text : String A) → after ≡ insert_key same keys text
      → (names_in after ≡ names_in keys)
      ⊎ ((names_in after ≡ names_in keys ++ chars (string_bytes text) ∷ []) × ((k : ℕ) → k < length (names_in keys) → get_or (names_in keys) k [] ≢ chars (string_bytes text)))
  names_step keys after text e = by (cases_Bool (list_any (same text) keys))
    where
      by : ((list_any (same text) keys ≡ true) ⊎ (list_any (same text) keys ≡ false))
          → (names_in after ≡ names_in keys)
          ⊎ ((names_in after ≡ names_in keys ++ chars (string_bytes text) ∷ []) × ((k : ℕ) → k < length (names_in keys) → get_or (names_in keys) k [] ≢ chars (string_bytes text)))
      by (inl there) = inl (ap names_in (e ∙ ap (λ (b : Bool). if b then keys else keys ++ text ∷ []) there))
      by (inr fresh) = inr (ap names_in (e ∙ ap (λ (b : Bool). if b then keys else keys ++ text ∷ []) fresh) ∙ names_push keys text, other_name keys text fresh)
