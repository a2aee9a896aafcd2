-- Bytes of UTF-8 are ordered as the scalars that they spell.
use Rattle.std.proofs.Common.{◌≡◌, ℕ, ◌+◌, ◌/◌, ◌<◌, ◌≤◌, inl, inr, Bool, cond, ltb, List, [], ◌∷◌, ◌++◌, length, sym, ◌∙◌, ap, ap₂, refl, arith, ◌⊎◌, length-append, Ordering}
use lib.Utf8.{next, encode, encodes}
use Rattle.std.specs.Cmp.{nat_cmp_is}
use Rattle.std.specs.Cmp.Lexicographic.{slice_cmp, nat_list_cmp_total}
use Rattle.std.specs.Ordering.{nat_cmp, ordering_then, ordering_reverse}
use Rattle.std.specs.declared.cmp.Ordering.TheVariants.{Less, Equal, Greater}
use Rattle.std.proofs.lemmas.Bool.{cases_lt, ltb-true, lt-ltb, false_from_ne_true}
use Rattle.std.specs.Str.{chars, IsUtf8}
use Rattle.std.proofs.lemmas.Str.{encode_ascii as one, length-encode, len_utf8_bounds, encodes-chars}
use Rattle.jp_strings.specs.Plain.{ArePlain}
use Rattle.jp_strings.specs.Points.{IsText, points_of}
use Rattle.jp_strings.proofs.Runs.{plain_bytes}

abbrev order : List ℕ → List ℕ → Ordering
order = slice_cmp nat_cmp

-- ---- the first numbers decide, and else those after
lesser : (x y : ℕ) (xs ys : List ℕ) → x < y → order (x ∷ xs) (y ∷ ys) ≡ Less
lesser x y xs ys l = ap (λ o. ordering_then o (order xs ys)) (sym (nat_cmp_is x y Less l))

level : (x y : ℕ) (xs ys : List ℕ) → x ≡ y → order (x ∷ xs) (y ∷ ys) ≡ order xs ys
level x y xs ys e = ap (λ o. ordering_then o (order xs ys)) (sym (nat_cmp_is x y Equal e))

turned : (xs ys : List ℕ) → order ys xs ≡ Less → order xs ys ≡ Greater
turned xs ys e = nat_list_cmp_total.antisymm xs ys ∙ ap ordering_reverse e

behind_same : (front xs ys : List ℕ) → order (front ++ xs) (front ++ ys) ≡ order xs ys
behind_same [] xs ys = refl
behind_same (b ∷ front) xs ys = level b b (front ++ xs) (front ++ ys) refl ∙ behind_same front xs ys

-- ---- the bytes of a scalar
passed : (m n : ℕ) (a b : List ℕ) → n ≤ m → cond (ltb m n) a b ≡ b
passed m n a b l = ap (λ (t : Bool). cond t a b) (false_from_ne_true (ltb m n) (λ t. let z = ltb-true m n t in omega (arith, z, l)))

taken : (m n : ℕ) (a b : List ℕ) → m < n → cond (ltb m n) a b ≡ a
taken m n a b l = ap (λ (t : Bool). cond t a b) (lt-ltb m n l)

two : (c : ℕ) → 128 ≤ c → c < 2048 → encode c ≡ (192 + c / 64) ∷ next c ∷ []
unfolding encode
two c l h = passed c 128 _ _ l ∙ taken c 2048 _ _ h

three : (c : ℕ) → 2048 ≤ c → c < 65536 → encode c ≡ (224 + c / 4096) ∷ next (c / 64) ∷ next c ∷ []
unfolding encode
three c l h = passed c 128 _ _ (omega (arith, l)) ∙ (passed c 2048 _ _ l ∙ taken c 65536 _ _ h)

four : (c : ℕ) → 65536 ≤ c → encode c ≡ (240 + c / 262144) ∷ next (c / 4096) ∷ next (c / 64) ∷ next c ∷ []
unfolding encode
four c l = passed c 128 _ _ (omega (arith, l)) ∙ (passed c 2048 _ _ (omega (arith, l)) ∙ passed c 65536 _ _ l)

-- ---- the bytes of two scalars, of which the first is less
last_bytes : (c d : ℕ) (xs ys : List ℕ) → c < d → c / 64 ≡ d / 64 → order (next c ∷ xs) (next d ∷ ys) ≡ Less
last_bytes c d xs ys l e = lesser (next c) (next d) xs ys (omega (arith, l, e))

last_two : (c d : ℕ) (xs ys : List ℕ) → c < d → c / 4096 ≡ d / 4096 → order (next (c / 64) ∷ next c ∷ xs) (next (d / 64) ∷ next d ∷ ys) ≡ Less
last_two c d xs ys l e =
    elim (cases_lt (c / 64) (d / 64)) [
      | inl lt ↦ lesser (next (c / 64)) (next (d / 64)) (next c ∷ xs) (next d ∷ ys) (omega (arith, lt, e))
      | inr le ↦ (let same : c / 64 ≡ d / 64 = omega (arith, le, l) in level (next (c / 64)) (next (d / 64)) (next c ∷ xs) (next d ∷ ys) (ap next same) ∙ last_bytes c d xs ys l same)
    ]

last_three : (c d : ℕ) (xs ys : List ℕ) → c < d → c / 262144 ≡ d / 262144 → order (next (c / 4096) ∷ next (c / 64) ∷ next c ∷ xs) (next (d / 4096) ∷ next (d / 64) ∷ next d ∷ ys) ≡ Less
last_three c d xs ys l e =
    elim (cases_lt (c / 4096) (d / 4096)) [
      | inl lt ↦ lesser (next (c / 4096)) (next (d / 4096)) (next (c / 64) ∷ next c ∷ xs) (next (d / 64) ∷ next d ∷ ys) (omega (arith, lt, e))
      | inr le ↦ (
          let same : c / 4096 ≡ d / 4096 = omega (arith, le, l) in
          level (next (c / 4096)) (next (d / 4096)) (next (c / 64) ∷ next c ∷ xs) (next (d / 64) ∷ next d ∷ ys) (ap next same) ∙ last_two c d xs ys l same
          )
    ]

both_two : (c d : ℕ) (xs ys : List ℕ) → c < d → order ((192 + c / 64) ∷ next c ∷ xs) ((192 + d / 64) ∷ next d ∷ ys) ≡ Less
both_two c d xs ys l =
    elim (cases_lt (c / 64) (d / 64)) [
      | inl lt ↦ lesser (192 + c / 64) (192 + d / 64) (next c ∷ xs) (next d ∷ ys) (omega (arith, lt))
      | inr le ↦ (let same : c / 64 ≡ d / 64 = omega (arith, le, l) in level (192 + c / 64) (192 + d / 64) (next c ∷ xs) (next d ∷ ys) (omega (arith, same)) ∙ last_bytes c d xs ys l same)
    ]

both_three : (c d : ℕ) (xs ys : List ℕ) → c < d → order ((224 + c / 4096) ∷ next (c / 64) ∷ next c ∷ xs) ((224 + d / 4096) ∷ next (d / 64) ∷ next d ∷ ys) ≡ Less
both_three c d xs ys l =
    elim (cases_lt (c / 4096) (d / 4096)) [
      | inl lt ↦ lesser (224 + c / 4096) (224 + d / 4096) (next (c / 64) ∷ next c ∷ xs) (next (d / 64) ∷ next d ∷ ys) (omega (arith, lt))
      | inr le ↦ (
          let same : c / 4096 ≡ d / 4096 = omega (arith, le, l) in
          level (224 + c / 4096) (224 + d / 4096) (next (c / 64) ∷ next c ∷ xs) (next (d / 64) ∷ next d ∷ ys) (omega (arith, same)) ∙ last_two c d xs ys l same
          )
    ]

both_four : (c d : ℕ) (xs ys : List ℕ) → c < d → order ((240 + c / 262144) ∷ next (c / 4096) ∷ next (c / 64) ∷ next c ∷ xs) ((240 + d / 262144) ∷ next (d / 4096) ∷ next (d / 64) ∷ next d ∷ ys) ≡ Less
both_four c d xs ys l =
    elim (cases_lt (c / 262144) (d / 262144)) [
      | inl lt ↦ lesser (240 + c / 262144) (240 + d / 262144) (next (c / 4096) ∷ next (c / 64) ∷ next c ∷ xs) (next (d / 4096) ∷ next (d / 64) ∷ next d ∷ ys) (omega (arith, lt))
      | inr le ↦ (
          let same : c / 262144 ≡ d / 262144 = omega (arith, le, l) in
          level (240 + c / 262144) (240 + d / 262144) (next (c / 4096) ∷ next (c / 64) ∷ next c ∷ xs) (next (d / 4096) ∷ next (d / 64) ∷ next d ∷ ys) (omega (arith, same)) ∙ last_three c d xs ys l same
          )
    ]

-- one more byte: each first byte of a longer spelling is greater
scalar_less : (c d : ℕ) (xs ys : List ℕ) → c < d → order (encode c ++ xs) (encode d ++ ys) ≡ Less
scalar_less c d xs ys l = by (cases_lt c 128) (cases_lt c 2048) (cases_lt c 65536) (cases_lt d 128) (cases_lt d 2048) (cases_lt d 65536)
  where
    spelled : (front back : List ℕ) → encode c ≡ front → encode d ≡ back → order (front ++ xs) (back ++ ys) ≡ Less → order (encode c ++ xs) (encode d ++ ys) ≡ Less
    spelled front back e f o = ap₂ (λ (p q : List ℕ). order (p ++ xs) (q ++ ys)) e f ∙ o

    by : (c < 128) ⊎ (128 ≤ c) → (c < 2048) ⊎ (2048 ≤ c) → (c < 65536) ⊎ (65536 ≤ c) → (d < 128) ⊎ (128 ≤ d) → (d < 2048) ⊎ (2048 ≤ d) → (d < 65536) ⊎ (65536 ≤ d) → order (encode c ++ xs) (encode d ++ ys) ≡ Less
    by (inl a) _ _ (inl m) _ _ = spelled _ _ (one c a) (one d m) (lesser c d xs ys l)
    by (inl a) _ _ (inr m) (inl n) _ = spelled _ _ (one c a) (two d m n) (lesser c (192 + d / 64) xs (next d ∷ ys) (omega (arith, a)))
    by (inl a) _ _ (inr m) (inr n) (inl o) = spelled _ _ (one c a) (three d n o) (lesser c (224 + d / 4096) xs (next (d / 64) ∷ next d ∷ ys) (omega (arith, a)))
    by (inl a) _ _ (inr m) (inr n) (inr o) = spelled _ _ (one c a) (four d o) (lesser c (240 + d / 262144) xs (next (d / 4096) ∷ next (d / 64) ∷ next d ∷ ys) (omega (arith, a)))
    by (inr a) _ _ (inl m) _ _ = absurd (omega (arith, a, m, l))
    by (inr a) (inl b) _ (inr m) (inl n) _ = spelled _ _ (two c a b) (two d m n) (both_two c d xs ys l)
    by (inr a) (inl b) _ (inr m) (inr n) (inl o) = spelled _ _ (two c a b) (three d n o) (lesser (192 + c / 64) (224 + d / 4096) (next c ∷ xs) (next (d / 64) ∷ next d ∷ ys) (omega (arith, b)))
    by (inr a) (inl b) _ (inr m) (inr n) (inr o) = spelled _ _ (two c a b) (four d o) (lesser (192 + c / 64) (240 + d / 262144) (next c ∷ xs) (next (d / 4096) ∷ next (d / 64) ∷ next d ∷ ys) (omega (arith, b)))
    by (inr a) (inr b) _ (inr m) (inl n) _ = absurd (omega (arith, b, n, l))
    by (inr a) (inr b) (inl e) (inr m) (inr n) (inl o) = spelled _ _ (three c b e) (three d n o) (both_three c d xs ys l)
    by (inr a) (inr b) (inl e) (inr m) (inr n) (inr o) = spelled _ _ (three c b e) (four d o) (lesser (224 + c / 4096) (240 + d / 262144) (next (c / 64) ∷ next c ∷ xs) (next (d / 4096) ∷ next (d / 64) ∷ next d ∷ ys) (omega (arith, e)))
    by (inr a) (inr b) (inr e) (inr m) (inr n) (inl o) = absurd (omega (arith, e, o, l))
    by (inr a) (inr b) (inr e) (inr m) (inr n) (inr o) = spelled _ _ (four c e) (four d o) (both_four c d xs ys l)

-- ---- texts
none_first : (bytes : List ℕ) → 0 < length bytes → order [] bytes ≡ Less
none_first [] l = absurd (omega (arith, l))
none_first (b ∷ bytes) l = refl

none_before : (c : ℕ) (bytes : List ℕ) → order [] (encode c ++ bytes) ≡ Less
none_before c bytes =
    let width = length-encode c in
    let some = (len_utf8_bounds c).0 in
    let whole = length-append (encode c) bytes in
    none_first (encode c ++ bytes) (omega (arith, width, some, whole))

pub encodes_ordered : (cs ds : List ℕ) → order (encodes cs) (encodes ds) ≡ order cs ds
encodes_ordered [] [] = refl
encodes_ordered [] (d ∷ ds) = none_before d (encodes ds)
encodes_ordered (c ∷ cs) [] = turned (encode c ++ encodes cs) [] (none_before c (encodes cs))
encodes_ordered (c ∷ cs) (d ∷ ds) =
    elim (cases_lt c d) [
      | inl lt ↦ scalar_less c d (encodes cs) (encodes ds) lt ∙ sym (lesser c d cs ds lt)
      | inr le ↦
          elim (cases_lt d c) [
            | inl lt ↦ turned (encode c ++ encodes cs) (encode d ++ encodes ds) (scalar_less d c (encodes ds) (encodes cs) lt) ∙ sym (turned (c ∷ cs) (d ∷ ds) (lesser d c ds cs lt))
            | inr ge ↦ (
                let same : c ≡ d = omega (arith, le, ge) in
                ap (λ x. order (encode x ++ encodes cs) (encode d ++ encodes ds)) same ∙ (behind_same (encode d) (encodes cs) (encodes ds) ∙ (encodes_ordered cs ds ∙ sym (level c d cs ds same)))
                )
          ]
    ]

-- two bodies with no special byte are ordered by their bytes
pub plain_ordered : (a b : List ℕ) → IsText a → IsText b → ArePlain a 0 (length a) → ArePlain b 0 (length b) → order a b ≡ order (points_of a) (points_of b)
plain_ordered a b s t p q = ap₂ order (sym (plain_bytes a s p)) (sym (plain_bytes b t q)) ∙ encodes_ordered (points_of a) (points_of b)

-- so are a body with no special byte and a text
pub plain_text_ordered : (body text : List ℕ) → IsText body → ArePlain body 0 (length body) → IsUtf8 text → order body text ≡ order (points_of body) (chars text)
plain_text_ordered body text t p u = ap₂ order (sym (plain_bytes body t p)) (sym (encodes-chars text u)) ∙ encodes_ordered (points_of body) (chars text)

-- so are two texts
pub texts_ordered : (a b : List ℕ) → IsUtf8 a → IsUtf8 b → order a b ≡ order (chars a) (chars b)
texts_ordered a b u v = ap₂ order (sym (encodes-chars a u)) (sym (encodes-chars b v)) ∙ encodes_ordered (chars a) (chars b)
