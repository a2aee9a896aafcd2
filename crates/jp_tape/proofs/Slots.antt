-- Names that spell the same share a slot, so only those that share one need be compared.
use Rattle.std.proofs.Common.{◌≡◌, ℕ, suc, ◌+◌, take, get_or-take, ◌*◌, ◌/◌, ◌^◌, ◌<◌, ◌≤◌, inl, inr, Bool, true, false, cond, ◌||◌, ◌==◌, List, [], ◌∷◌, length, get_or, sym, ◌∙◌, ap, ap₂, subst, refl, arith}
use Rattle.std.specs.Prelude.{IsTrue, All, min, max}
use Rattle.std.specs.List.{list_any, list_all, filter}
use Rattle.std.proofs.lemmas.Bool.{cases_Bool, cases_lt, eq-eqb}
use Rattle.std.proofs.lemmas.List.{get_or_default, length-take-le}
use Rattle.std.proofs.lemmas.Nat.{mod_below, div_below, mul-add-lt, shr_below}
use Rattle.std.proofs.lemmas.List.Sums.{AllPass-from_list_all}
use Rattle.std.proofs.lemmas.Slice.Eq.{bytes_eq-Decides}
use Rattle.jp_model.specs.Characters.{text_equal}
use Rattle.jp_model.specs.Json.Faults.{has_repeated}
use Rattle.jp_model.proofs.Reader.Lexical.{clash}
use Rattle.jp_strings.proofs.Runs.{plain_differ}
use Rattle.jp_tape.specs.declared.builder.kept.KeptName.{KeptName}
use Rattle.jp_tape.specs.Keys.{key_of, mixed, slot_of, slot_in, slot_count, shares_slot, AreHit, AreAlone, FallByText}
use Rattle.jp_tape.specs.Names.{bytes_of, spelled_name, spelled_names, IsKept, AreKept, DiffersFrom, AreApart}
use Rattle.jp_tape.proofs.Repeated.{text_is}

other_text : (a b : List ℕ) → (a ≡ b → ⊥) → text_equal a b ≡ false
other_text a b n =
    elim (cases_Bool (text_equal a b)) [ inl t ↦ absurd (n ((bytes_eq-Decides a b).0 t)) | inr f ↦ f ]

-- ---- names of which some are kept

-- a text that no name spells
none_spells : (line t : List ℕ) (xs : List KeptName) → ((k : ℕ) (n : KeptName) → k < length xs → t ≡ spelled_name line (get_or xs k n) → ⊥) → list_any (text_equal t) (spelled_names line xs) ≡ false
none_spells line t [] h = refl
none_spells line t (x ∷ xs) h = ap₂ (λ a b. a || b) (other_text t (spelled_name line x) (h 0 x (omega arith))) (none_spells line t xs (λ k n l. h (suc k) n (omega (arith, l))))

-- a text that only kept names spell
kept_spell : (line t : List ℕ) (p : KeptName → Bool) (xs : List KeptName) → ((k : ℕ) (n : KeptName) → k < length xs → t ≡ spelled_name line (get_or xs k n) → p (get_or xs k n) ≡ true) → list_any (text_equal t) (spelled_names line (filter p xs)) ≡ list_any (text_equal t) (spelled_names line xs)
kept_spell line t p [] h = refl
kept_spell line t p (x ∷ xs) h = go (p x) refl (kept_spell line t p xs (λ k n l. h (suc k) n (omega (arith, l))))
  where
    go : (b : Bool) → p x ≡ b → list_any (text_equal t) (spelled_names line (filter p xs)) ≡ list_any (text_equal t) (spelled_names line xs) → list_any (text_equal t) (spelled_names line (cond b (x ∷ filter p xs) (filter p xs))) ≡ list_any (text_equal t) (spelled_names line (x ∷ xs))
    go true e later = ap (λ b. text_equal t (spelled_name line x) || b) later
    go false e later = later ∙ sym (ap (λ b. b || list_any (text_equal t) (spelled_names line xs)) (other_text t (spelled_name line x) (λ same. clash (p x) (h 0 x (omega arith) same) e)))

-- where those that are equal are kept, those that are kept are repeated just where all are
abbrev AreEqualKept : List ℕ → (KeptName → Bool) → List KeptName → Type 0
AreEqualKept line p xs = (j k : ℕ) (n : KeptName) → j < k → k < length xs → spelled_name line (get_or xs j n) ≡ spelled_name line (get_or xs k n) → (p (get_or xs j n) ≡ true) × (p (get_or xs k n) ≡ true)

kept_repeat : (line : List ℕ) (p : KeptName → Bool) (xs : List KeptName) → AreEqualKept line p xs → has_repeated (spelled_names line (filter p xs)) ≡ has_repeated (spelled_names line xs)
kept_repeat line p [] h = refl
kept_repeat line p (x ∷ xs) h = go (p x) refl (kept_repeat line p xs (λ j k n l w e. h (suc j) (suc k) n (omega (arith, l)) (omega (arith, w)) e))
  where
    go : (b : Bool) → p x ≡ b → has_repeated (spelled_names line (filter p xs)) ≡ has_repeated (spelled_names line xs) → has_repeated (spelled_names line (cond b (x ∷ filter p xs) (filter p xs))) ≡ has_repeated (spelled_names line (x ∷ xs))
    go true e rest = ap₂ (λ a b. a || b) (kept_spell line (spelled_name line x) p xs (λ k n l same. (h 0 (suc k) n (omega arith) (omega (arith, l)) same).1)) rest
    go false e rest = rest ∙ sym (ap (λ b. b || has_repeated (spelled_names line xs)) (none_spells line (spelled_name line x) xs (λ k n l same. clash (p x) (h 0 (suc k) n (omega arith) (omega (arith, l)) same).0 e)))

-- ---- names that share a slot

pub shared_repeat : (line : List ℕ) (slot : KeptName → ℕ) (xs : List KeptName) (hits : List ℕ) → FallByText line xs slot → AreHit slot xs (length xs) hits → has_repeated (spelled_names line (filter (shares_slot slot hits) xs)) ≡ has_repeated (spelled_names line xs)
shared_repeat line slot xs hits f h =
    kept_repeat line (shares_slot slot hits) xs
    (λ j k n l w e.
    let one = f j k n (omega (arith, l, w)) w e in
    let two = eq-eqb _ _ (h.twice j k n l w one) in
    (ap (λ i. get_or hits i 0 == 2) one ∙ two, two))

none_shared : (p : KeptName → Bool) (xs : List KeptName) → ((k : ℕ) (n : KeptName) → k < length xs → p (get_or xs k n) ≡ false) → filter p xs ≡ []
none_shared p [] h = refl
none_shared p (x ∷ xs) h = ap (λ b. cond b (x ∷ filter p xs) (filter p xs)) (h 0 x (omega arith)) ∙ none_shared p xs (λ k n l. h (suc k) n (omega (arith, l)))

pub alone_differ : (line : List ℕ) (slot : KeptName → ℕ) (xs : List KeptName) (hits : List ℕ) → FallByText line xs slot → AreHit slot xs (length xs) hits → AreAlone slot xs (length xs) hits → false ≡ has_repeated (spelled_names line xs)
alone_differ line slot xs hits f h a =
    sym (ap (λ ys. has_repeated (spelled_names line ys)) (none_shared (shares_slot slot hits) xs a)) ∙ shared_repeat line slot xs hits f h

-- ---- which slots names fall on

-- plain names that spell the same have the same bytes
same_bytes : (line : List ℕ) (a b : KeptName) → IsKept line a → IsKept line b → IsTrue a.is_plain → IsTrue b.is_plain → spelled_name line a ≡ spelled_name line b → bytes_of line a ≡ bytes_of line b
same_bytes line a b k m p q e =
    elim (cases_Bool (text_equal (bytes_of line a) (bytes_of line b))) [
      | inl t ↦ (bytes_eq-Decides _ _).0 t
      | inr f ↦ absurd (clash _ ((bytes_eq-Decides _ _).1 e) (plain_differ (bytes_of line a) (bytes_of line b) (text_is (bytes_of line a) k.text) (text_is (bytes_of line b) m.text) (k.plain p) (m.plain q) (λ same. clash _ ((bytes_eq-Decides _ _).1 same) f)))
    ]

plain_fall : (line : List ℕ) (xs : List KeptName) (slots : ℕ) → AreKept line xs → All (λ (n : KeptName). IsTrue n.is_plain) xs → FallByText line xs (slot_in line slots)
plain_fall line xs slots m p j k n l w e = ap (slot_of slots) (same_bytes line (get_or xs j n) (get_or xs k n) (m j n l) (m k n w) (p j n l) (p k n w) e)

-- plain names of which no two have the same bytes
pub apart_differ : (line : List ℕ) (xs : List KeptName) → AreKept line xs → AreApart line xs (length xs) → false ≡ has_repeated (spelled_names line xs)
apart_differ line xs m a =
    sym (ap (λ ys. has_repeated (spelled_names line ys)) (none_shared (λ n. false) xs (λ k n l. refl)))
    ∙ kept_repeat line (λ n. false) xs
    (λ j k n l w e.
    let before : j < length xs = omega (arith, l, w) in
    absurd (a.apart j k n l w (same_bytes line (get_or xs j n) (get_or xs k n) (m j n before) (m k n w) (a.plain j n before) (a.plain k n w) e)))

-- one more name that stands for itself and differs from those before it
pub one_more_apart : (line : List ℕ) (names : List KeptName) (m : ℕ) (d : KeptName) → m < length names → AreApart line names m → (get_or names m d).is_plain ≡ true → DiffersFrom line (get_or names m d) (take m names) (length (take m names)) → AreApart line names (m + 1)
one_more_apart line names m d l a p f = record {
  plain = λ k n w.
      elim (cases_lt k m) [
        | inl lt ↦ a.plain k n lt
        | inr ge ↦
            (let here : k ≡ m = omega (arith, w, ge) in
            subst (λ i. IsTrue (get_or names i n).is_plain) (sym here) (subst (λ (x : KeptName). IsTrue x.is_plain) (get_or_default names m d n l) p))
      ];
  apart = λ j k n b w same.
      elim (cases_lt k m) [
        | inl lt ↦ a.apart j k n b lt same
        | inr ge ↦
            (let here : k ≡ m = omega (arith, w, ge) in
            let before : j < m = omega (arith, b, here) in
            let size = length-take-le m names (omega (arith, l)) in
            f j n (omega (arith, size, before)) (ap (bytes_of line) (get_or-take m names j n before) ∙ (same ∙ (ap (λ i. bytes_of line (get_or names i n)) here ∙ ap (bytes_of line) (get_or_default names m n d l)))))
      ];
}

mixed_below : (first middle last : ℕ) → mixed first middle last < 2 ^ 64
unfolding mixed
mixed_below first middle last = mod_below _ (2 ^ 64) (omega arith)

either_below : (b : Bool) (m n : ℕ) → m < 2 ^ 64 → n < 2 ^ 64 → cond b m n < 2 ^ 64
either_below true m n l k = l
either_below false m n l k = k

key_below : (name : List ℕ) → key_of name < 2 ^ 64
unfolding key_of
key_below name = either_below _ _ _ (mixed_below _ _ _) (mixed_below _ _ _)

slot_below : (slots : ℕ) (name : List ℕ) → 0 < slots → slot_of slots name < slots
unfolding slot_of
slot_below slots name l =
    let half = shr_below (key_of name) 32 32 (key_below name) in
    let m = mul-add-lt (key_of name / 2 ^ 32) slots 0 (2 ^ 32) half l in
    div_below (key_of name / 2 ^ 32 * slots) (2 ^ 32) slots (omega arith) (omega (arith, m))

one_falls : (line : List ℕ) (xs : List KeptName) → FallByText line xs (slot_in line 1)
one_falls line xs j k n l w e = let a = slot_below 1 (bytes_of line (get_or xs j n)) (omega arith) in let b = slot_below 1 (bytes_of line (get_or xs k n)) (omega arith) in omega (arith, a, b)

-- ---- how many slots there are

pub some_slots : (names : List KeptName) → 0 < slot_count names
some_slots names = go (list_all (λ (n : KeptName). n.is_plain) names)
  where
    go : (b : Bool) → 0 < cond b (max (16 * min (length names) (2 ^ 28)) 256) 1
    go true = omega arith
    go false = omega arith

pub few_slots : (names : List KeptName) → slot_count names ≤ 2 ^ 32
few_slots names = go (list_all (λ (n : KeptName). n.is_plain) names)
  where
    go : (b : Bool) → cond b (max (16 * min (length names) (2 ^ 28)) 256) 1 ≤ 2 ^ 32
    go true = omega arith
    go false = omega arith

pub fall_by_text : (line : List ℕ) (names : List KeptName) → AreKept line names → FallByText line names (slot_in line (slot_count names))
fall_by_text line names m = elim (cases_Bool (list_all (λ (n : KeptName). n.is_plain) names)) [
  | inl t ↦ plain_fall line names (slot_count names) m (λ k n l. (AllPass-from_list_all (λ (n : KeptName). n.is_plain) names t) k n l)
  | inr f ↦ subst (λ b. FallByText line names (slot_in line (cond b (max (16 * min (length names) (2 ^ 28)) 256) 1))) (sym f) (one_falls line names)
]
