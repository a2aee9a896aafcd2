-- Texts that are joined by commas, one after the other.
use Rattle.std.proofs.Common.{◌≡◌, ℕ, Bool, true, false, cond, List, [], ◌∷◌, ◌++◌, refl, sym, ◌∙◌, ap, append-nil, append_assoc}
use Rattle.std.specs.List.{join_with_byte}

-- a comma, but not before the first
abbrev pub comma : Bool → List ℕ
comma is_first = cond is_first [] (0x2C ∷ [])

-- the texts from one on, which may be the first
abbrev pub joined_from : Bool → List (List ℕ) → List ℕ
joined_from true texts = join_with_byte 0x2C texts
joined_from false [] = []
joined_from false (text ∷ more) = 0x2C ∷ (text ++ joined_from false more)

from_first : (text : List ℕ) (more : List (List ℕ)) → join_with_byte 0x2C (text ∷ more) ≡ text ++ joined_from false more
from_first text [] = sym (append-nil text)
from_first text (next ∷ more) = ap (λ (t : List ℕ). text ++ 0x2C ∷ t) (from_first next more)

one_more : (is_first : Bool) (text : List ℕ) (more : List (List ℕ)) → joined_from is_first (text ∷ more) ≡ comma is_first ++ (text ++ joined_from false more)
one_more true text more = from_first text more
one_more false text more = refl

-- one more was appended, after a comma where it is not the first
pub turn_joined : (is_first : Bool) (text : List ℕ) (more : List (List ℕ)) (old mid new all : List ℕ) → mid ≡ old ++ comma is_first → new ≡ mid ++ text → old ++ joined_from is_first (text ∷ more) ≡ all → new ++ joined_from false more ≡ all
turn_joined is_first text more old mid new all e f g =
    ap (λ (t : List ℕ). t ++ joined_from false more) (f ∙ ap (λ (t : List ℕ). t ++ text) e) ∙ (append_assoc (old ++ comma is_first) text (joined_from false more)
    ∙ (append_assoc old (comma is_first) (text ++ joined_from false more) ∙ (ap (λ (t : List ℕ). old ++ t) (sym (one_more is_first text more)) ∙ g)))

none_joined : (is_first : Bool) → joined_from is_first [] ≡ []
none_joined true = refl
none_joined false = refl

-- all were appended
pub all_joined : (is_first : Bool) (texts : List (List ℕ)) (text all : List ℕ) → texts ≡ [] → text ++ joined_from is_first texts ≡ all → text ≡ all
all_joined is_first texts text all e f = sym (append-nil text) ∙ (ap (λ (t : List ℕ). text ++ t) (sym (ap (joined_from is_first) e ∙ none_joined is_first)) ∙ f)

-- between brackets
pub between_brackets : (old text new joined : List ℕ) (front back : ℕ) → text ≡ (old ++ front ∷ []) ++ joined → new ≡ text ++ back ∷ [] → new ≡ old ++ front ∷ (joined ++ back ∷ [])
between_brackets old text new joined front back e f =
    f ∙ (ap (λ (t : List ℕ). t ++ back ∷ []) e ∙ (append_assoc (old ++ front ∷ []) joined (back ∷ []) ∙ append_assoc old (front ∷ []) (joined ++ back ∷ [])))
