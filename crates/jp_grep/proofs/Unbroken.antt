-- Canonical texts have no tab and no line feed.
use Rattle.std.proofs.Common.{arith, ◌≡◌, ◌∙◌, ◌+◌, ◌-◌, ◌≤◌, ◌/◌, ◌%◌, ◌++◌, ◌∷◌, ◌==◌, ◌&&◌, ◌||◌, [], ℕ, zero, suc, List, Bool, true, false, cond, drop, length, map, nat_lt, refl, ap, ap₂, take, Some, None}
use Rattle.std.specs.Prelude.{⊤, codes, encode_utf8, flat_map, if◌then◌else◌, int_le, int_lt, nat_abs, negsuc, pos, ℤ, ◌+ℤ◌, ◌-ℤ◌}
use Rattle.std.specs.Int.Digits.{digits_of}
use Rattle.std.specs.List.{join_with_byte, list_all, list_any}
use lib.Utf8.{encode}
use Rattle.std.proofs.lemmas.Bool.{ne_eqb}
use Rattle.std.proofs.lemmas.Bool.Decides.{nat_tests}
use Rattle.std.proofs.lemmas.List.Concat.{flat_map-cons}
use Rattle.std.proofs.lemmas.List.Folds.{list_any-append}
use Rattle.jp_model.specs.Json.Numbers.{fraction_bytes}
use Rattle.jp_model.specs.Json.Spelling.{closing, opening, word_of}
use Rattle.jp_model.specs.Json.Tree.{Tree, node, Value, null, boolean, number, string, container, Container, array, object, Children, no_child, child}
use Rattle.jp_model.specs.Meaning.Compare.{text_less}
use Rattle.jp_model.specs.Meaning.Paths.{hex_digit}
use Rattle.jp_canon.specs.Canonical.{Member, bracketed, by_name, canonical_text, character_text, element_texts, member_texts, placed, string_text, value_text}
use Rattle.jp_canon.specs.Layout.{exponent_text, number_text, size_text, whole_text, with_point, without_trailing_zeros, zeros}
use Rattle.jp_table.specs.ReadBack.{ends_canonical}

abbrev IsUnbroken : List ℕ → Type 0
IsUnbroken text = list_any ends_canonical text ≡ false

abbrev AreUnbroken : List (List ℕ) → Type 0
AreUnbroken [] = ⊤
AreUnbroken (text ∷ more) = IsUnbroken text × AreUnbroken more

byte_unbroken : (byte : ℕ) → 0x20 ≤ byte → ends_canonical byte ≡ false
byte_unbroken byte high = ap₂ (λ (a b : Bool). a || b) (ne_eqb byte 0x09 (λ e. omega (arith, e, high))) (ne_eqb byte 0x0A (λ e. omega (arith, e, high)))

with_first : (byte : ℕ) (text : List ℕ) → 0x20 ≤ byte → IsUnbroken text → IsUnbroken (byte ∷ text)
with_first byte text high rest = ap₂ (λ (a b : Bool). a || b) (byte_unbroken byte high) rest

both : (a b : List ℕ) → IsUnbroken a → IsUnbroken b → IsUnbroken (a ++ b)
both a b p q = list_any-append ends_canonical a b ∙ ap₂ (λ (x y : Bool). x || y) p q

either : (b : Bool) (x y : List ℕ) → (b ≡ true → IsUnbroken x) → (b ≡ false → IsUnbroken y) → IsUnbroken (if b then x else y)
either true x y p q = p refl
either false x y p q = q refl

first_of : (a b : Bool) → (a || b) ≡ false → a ≡ false
first_of false b e = refl
first_of true b e = absurd (cc)

second_of : (a b : Bool) → (a || b) ≡ false → b ≡ false
second_of false b e = e
second_of true b e = absurd (cc)

-- ---- numbers

front_unbroken : (n : ℕ) (text : List ℕ) → IsUnbroken text → IsUnbroken (take n text)
front_unbroken zero text h = refl
front_unbroken (suc n) [] h = refl
front_unbroken (suc n) (byte ∷ text) h = ap₂ (λ (a b : Bool). a || b) (first_of (ends_canonical byte) (list_any ends_canonical text) h) (front_unbroken n text (second_of (ends_canonical byte) (list_any ends_canonical text) h))

rest_unbroken : (n : ℕ) (text : List ℕ) → IsUnbroken text → IsUnbroken (drop n text)
rest_unbroken zero text h = h
rest_unbroken (suc n) [] h = refl
rest_unbroken (suc n) (byte ∷ text) h = rest_unbroken n text (second_of (ends_canonical byte) (list_any ends_canonical text) h)

digits_unbroken : (digits : List ℕ) → IsUnbroken (map (λ digit. 0x30 + digit) digits)
digits_unbroken [] = refl
digits_unbroken (digit ∷ digits) = with_first (0x30 + digit) (map (λ digit. 0x30 + digit) digits) (omega arith) (digits_unbroken digits)

whole_unbroken : (n : ℕ) → IsUnbroken (whole_text n)
whole_unbroken n = either (n == 0) (0x30 ∷ []) (map (λ digit. 0x30 + digit) (digits_of 10 n)) (λ e. refl) (λ e. digits_unbroken (digits_of 10 n))

zeros_unbroken : (count : ℕ) → IsUnbroken (zeros count)
zeros_unbroken zero = refl
zeros_unbroken (suc count) = with_first 0x30 (zeros count) (omega arith) (zeros_unbroken count)

trimmed_unbroken : (ds : List ℕ) → IsUnbroken ds → IsUnbroken (without_trailing_zeros ds)
trimmed_unbroken [] h = refl
trimmed_unbroken (d ∷ ds) h = either (list_all (λ digit. digit == 0x30) (d ∷ ds)) [] (d ∷ without_trailing_zeros ds) (λ e. refl)
    (λ e. ap₂ (λ (a b : Bool). a || b) (first_of (ends_canonical d) (list_any ends_canonical ds) h) (trimmed_unbroken ds (second_of (ends_canonical d) (list_any ends_canonical ds) h)))

sign_high : (b : Bool) → 0x20 ≤ (if b then 0x2D else 0x2B)
sign_high true = omega arith
sign_high false = omega arith

exponent_unbroken : (e : ℤ) → IsUnbroken (exponent_text e)
exponent_unbroken e = with_first (if int_lt e (pos 0) then 0x2D else 0x2B) (whole_text (nat_abs e)) (sign_high (int_lt e (pos 0))) (whole_unbroken (nat_abs e))

fraction_unbroken : (ds : List ℕ) → IsUnbroken ds → IsUnbroken (fraction_bytes ds)
fraction_unbroken [] h = refl
fraction_unbroken (d ∷ ds) h = with_first 0x2E (d ∷ ds) (omega arith) h

point_unbroken : (s : List ℕ) (n : ℤ) → IsUnbroken s → IsUnbroken (with_point s n)
point_unbroken s n h =
    let k = nat_abs n in
    either (int_le (pos (length s)) n && int_le n (pos 21)) (s ++ zeros (k - length s)) _ (λ e. both s (zeros (k - length s)) h (zeros_unbroken (k - length s)))
    (λ e. either (int_lt (pos 0) n && int_le n (pos 21)) (take k s ++ 0x2E ∷ drop k s) _
    (λ e. both (take k s) (0x2E ∷ drop k s) (front_unbroken k s h) (with_first 0x2E (drop k s) (omega arith) (rest_unbroken k s h)))
    (λ e. either (int_lt (negsuc 5) n && int_le n (pos 0)) (0x30 ∷ 0x2E ∷ zeros k ++ s) (take 1 s ++ fraction_bytes (drop 1 s) ++ 0x65 ∷ exponent_text (n -ℤ pos 1))
    (λ e. with_first 0x30 (0x2E ∷ zeros k ++ s) (omega arith) (with_first 0x2E (zeros k ++ s) (omega arith) (both (zeros k) s (zeros_unbroken k) h)))
    (λ e. both (take 1 s ++ fraction_bytes (drop 1 s)) (0x65 ∷ exponent_text (n -ℤ pos 1))
    (both (take 1 s) (fraction_bytes (drop 1 s)) (front_unbroken 1 s h) (fraction_unbroken (drop 1 s) (rest_unbroken 1 s h)))
    (with_first 0x65 (exponent_text (n -ℤ pos 1)) (omega arith) (exponent_unbroken (n -ℤ pos 1))))))

size_unbroken : (m : ℕ) (e : ℤ) → IsUnbroken (size_text m e)
size_unbroken m e = point_unbroken (without_trailing_zeros (whole_text m)) (pos (length (whole_text m)) +ℤ e) (trimmed_unbroken (whole_text m) (whole_unbroken m))

number_unbroken : (m e : ℤ) → IsUnbroken (number_text m e)
number_unbroken m e =
    let n = nat_abs m in
    either (n == 0) (0x30 ∷ []) _ (λ is. refl)
    (λ is. either (int_lt m (pos 0)) (0x2D ∷ size_text n e) (size_text n e) (λ is. with_first 0x2D (size_text n e) (omega arith) (size_unbroken n e)) (λ is. size_unbroken n e))

-- ---- strings

encoded_unbroken : (c : ℕ) → 0x20 ≤ c → IsUnbroken (encode_utf8 c)
unfolding encode_utf8
encoded_unbroken c high =
    by (nat_lt c 128) (nat_lt c 2048) (nat_lt c 65536)
  where
    by : (one two three : Bool) → IsUnbroken (cond one (c ∷ []) (cond two ((192 + c / 64) ∷ (128 + c % 64) ∷ []) (cond three ((224 + c / 4096) ∷ (128 + (c / 64) % 64) ∷ (128 + c % 64) ∷ []) ((240 + c / 262144) ∷ (128 + (c / 4096) % 64) ∷ (128 + (c / 64) % 64) ∷ (128 + c % 64) ∷ []))))
    by true two three = with_first c [] high refl
    by false true three = with_first (192 + c / 64) ((128 + c % 64) ∷ []) (omega arith) (with_first (128 + c % 64) [] (omega arith) refl)
    by false false true = with_first (224 + c / 4096) ((128 + (c / 64) % 64) ∷ (128 + c % 64) ∷ []) (omega arith) (with_first (128 + (c / 64) % 64) ((128 + c % 64) ∷ []) (omega arith) (with_first (128 + c % 64) [] (omega arith) refl))
    by false false false = with_first (240 + c / 262144) ((128 + (c / 4096) % 64) ∷ (128 + (c / 64) % 64) ∷ (128 + c % 64) ∷ []) (omega arith) (with_first (128 + (c / 4096) % 64) ((128 + (c / 64) % 64) ∷ (128 + c % 64) ∷ []) (omega arith) (with_first (128 + (c / 64) % 64) ((128 + c % 64) ∷ []) (omega arith) (with_first (128 + c % 64) [] (omega arith) refl)))

hex_by : (b : Bool) (n : ℕ) → 0x20 ≤ (if b then 48 + n else 87 + n)
hex_by true n = omega arith
hex_by false n = omega arith

special_high : (c : ℕ) → (c == 0x22 || c == 0x5C) ≡ true → 0x20 ≤ c
special_high c h = grind (arith, nat_tests, h)

plain_high : (c : ℕ) → nat_lt c 0x20 ≡ false → 0x20 ≤ c
plain_high c h = grind (arith, nat_tests, h)

character_unbroken : (c : ℕ) → IsUnbroken (character_text c)
character_unbroken c =
    let hex = codes "\\u00" ++ hex_digit (c / 16) ∷ hex_digit (c % 16) ∷ [] in
    either (c == 0x22 || c == 0x5C) (0x5C ∷ c ∷ []) _ (λ e. with_first 0x5C (c ∷ []) (omega arith) (with_first c [] (special_high c e) refl))
    (λ e. either (c == 0x08) (codes "\\b") _ (λ e. refl)
    (λ e. either (c == 0x09) (codes "\\t") _ (λ e. refl)
    (λ e. either (c == 0x0A) (codes "\\n") _ (λ e. refl)
    (λ e. either (c == 0x0C) (codes "\\f") _ (λ e. refl)
    (λ e. either (c == 0x0D) (codes "\\r") _ (λ e. refl)
    (λ e. either (nat_lt c 0x20) hex (encode_utf8 c)
    (λ e. both (codes "\\u00") (hex_digit (c / 16) ∷ hex_digit (c % 16) ∷ []) refl
    (with_first (hex_digit (c / 16)) (hex_digit (c % 16) ∷ []) (hex_by (nat_lt (c / 16) 10) (c / 16)) (with_first (hex_digit (c % 16)) [] (hex_by (nat_lt (c % 16) 10) (c % 16)) refl)))
    (λ e. encoded_unbroken c (plain_high c e))))))))

characters_unbroken : (points : List ℕ) → IsUnbroken (flat_map character_text points)
characters_unbroken [] = refl
characters_unbroken (c ∷ points) =
    ap (list_any ends_canonical) (flat_map-cons character_text c points) ∙ both (character_text c) (flat_map character_text points) (character_unbroken c) (characters_unbroken points)

string_unbroken : (points : List ℕ) → IsUnbroken (string_text points)
string_unbroken points = with_first 0x22 (flat_map character_text points ++ 0x22 ∷ []) (omega arith) (both (flat_map character_text points) (0x22 ∷ []) (characters_unbroken points) refl)

-- ---- arrays and objects

joined_unbroken : (texts : List (List ℕ)) → AreUnbroken texts → IsUnbroken (join_with_byte 0x2C texts)
joined_unbroken [] h = refl
joined_unbroken (text ∷ []) h = h.0
joined_unbroken (text ∷ next ∷ more) h =
    both text (0x2C ∷ join_with_byte 0x2C (next ∷ more)) h.0 (with_first 0x2C (join_with_byte 0x2C (next ∷ more)) (omega arith) (joined_unbroken (next ∷ more) h.1))

opening_high : (kind : Container) → 0x20 ≤ opening kind
opening_high array = omega arith
opening_high object = omega arith

closing_high : (kind : Container) → 0x20 ≤ closing kind
closing_high array = omega arith
closing_high object = omega arith

bracketed_unbroken : (kind : Container) (texts : List (List ℕ)) → AreUnbroken texts → IsUnbroken (bracketed kind texts)
bracketed_unbroken kind texts h =
    with_first (opening kind) (join_with_byte 0x2C texts ++ closing kind ∷ []) (opening_high kind)
    (both (join_with_byte 0x2C texts) (closing kind ∷ []) (joined_unbroken texts h) (with_first (closing kind) [] (closing_high kind) refl))

abbrev texts_of : List Member → List (List ℕ)
texts_of members = map (λ (m : Member). m.text) members

placed_by : (b : Bool) (m n : Member) (more : List Member) → IsUnbroken m.text → AreUnbroken (texts_of (n ∷ more)) → AreUnbroken (texts_of (placed m more))
    → AreUnbroken (texts_of (if b then n ∷ placed m more else m ∷ n ∷ more))
placed_by true m n more h rest later = (rest.0, later)
placed_by false m n more h rest later = (h, rest)

placed_unbroken : (m : Member) (members : List Member) → IsUnbroken m.text → AreUnbroken (texts_of members) → AreUnbroken (texts_of (placed m members))
placed_unbroken m [] h rest = (h, tt)
placed_unbroken m (n ∷ more) h rest = placed_by (text_less n.name m.name) m n more h rest (placed_unbroken m more h rest.1)

ordered_unbroken : (members : List Member) → AreUnbroken (texts_of members) → AreUnbroken (texts_of (by_name members))
ordered_unbroken [] h = tt
ordered_unbroken (m ∷ more) h = placed_unbroken m (by_name more) h.0 (ordered_unbroken more h.1)

word_unbroken : (b : Bool) → IsUnbroken (word_of b)
word_unbroken true = refl
word_unbroken false = refl

mutual
  pub canonical_unbroken : (t : Tree) → IsUnbroken (canonical_text t)
  canonical_unbroken (node s v) = value_unbroken v

  value_unbroken : (v : Value) → IsUnbroken (value_text v)
  value_unbroken null = refl
  value_unbroken (boolean b) = word_unbroken b
  value_unbroken (number m e) = number_unbroken m e
  value_unbroken (string points) = string_unbroken points
  value_unbroken (container array cs) = bracketed_unbroken array (element_texts cs) (elements_unbroken cs)
  value_unbroken (container object cs) = bracketed_unbroken object (map (λ m. m.text) (by_name (member_texts cs))) (ordered_unbroken (member_texts cs) (members_unbroken cs))

  elements_unbroken : (cs : Children) → AreUnbroken (element_texts cs)
  elements_unbroken no_child = tt
  elements_unbroken (child name t more) = (canonical_unbroken t, elements_unbroken more)

  members_unbroken : (cs : Children) → AreUnbroken (texts_of (member_texts cs))
  members_unbroken no_child = tt
  members_unbroken (child None t more) = members_unbroken more
  members_unbroken (child (Some name) t more) =
      (both (string_text name.points) (0x3A ∷ canonical_text t) (string_unbroken name.points) (with_first 0x3A (canonical_text t) (omega arith) (canonical_unbroken t)), members_unbroken more)
