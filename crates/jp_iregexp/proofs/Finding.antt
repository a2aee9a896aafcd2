-- Where a part of a text leads from the start to the end.
use Rattle.std.proofs.Common.{◌≡◌, ℕ, ◌+◌, ◌<◌, ◌⊎◌, inl, inr, List, [], ◌∷◌, ◌++◌, length, drop, slice_index, bit_or, refl, sym, ◌∙◌, ap, subst, append_assoc}
use Rattle.std.specs.Str.{chars}
use Rattle.jp_model.specs.Pattern.Language.{Occurs}
use Rattle.jp_iregexp.specs.States.{State, HasState, Leads, IsStep}
use Rattle.jp_iregexp.proofs.Sums.{holds_right, leads_left, leads_either}
use Rattle.jp_iregexp.proofs.Leading.{stepped}
use Rattle.jp_iregexp.proofs.AsciiSteps.{ascii_cut}

-- some front of the text leads to the end
pub record FrontLeads (states : List State) (set : ℕ) (text : List ℕ) : Type 0 where
  pub front : List ℕ
  pub rest : List ℕ
  pub is : text ≡ front ++ rest
  pub leads : Leads states set front

-- the text is asked up to this rest, and these states wait
pub record IsFinding (states : List State) (starts waiting : ℕ) (rest text : List ℕ) : Type 0 where
  pub before : List ℕ
  pub parted : text ≡ before ++ rest
  pub begun : (p : ℕ) → HasState starts p → HasState waiting p
  pub sound : FrontLeads states waiting rest → Occurs (Leads states starts) text
  pub complete : Occurs (Leads states starts) text → FrontLeads states waiting rest ⊎ Occurs (Leads states starts) rest

pub start_finding : (states : List State) (starts : ℕ) (text : List ℕ) → IsFinding states starts starts text text
start_finding states starts text = record {
  before = [];
  parted = refl;
  begun = λ p h. h;
  sound = λ f. record { before = []; inside = f.front; after = f.rest; is = f.is; member = f.leads };
  complete = λ o. inr o;
}

pub is_found : (states : List State) (starts waiting : ℕ) (rest text : List ℕ) → IsFinding states starts waiting rest text → HasState waiting 63 → Occurs (Leads states starts) text
is_found states starts waiting rest text s h = s.sound (record { front = []; rest = rest; is = refl; leads = h })

begins : (states : List State) (starts waiting : ℕ) (text : List ℕ) → ((p : ℕ) → HasState starts p → HasState waiting p) → Leads states starts text → Leads states waiting text
begins states starts waiting [] begun h = begun 63 h
begins states starts waiting (c ∷ text) begun h = record { number = h.number; state = h.state; is = h.is; waits = begun h.number h.waits; has = h.has; rest = h.rest }

-- a front that leads where there is no end yet leads on after the scalar
leads_on : (states : List State) (starts waiting next c : ℕ) (rest front behind : List ℕ) → (HasState waiting 63 → ⊥) → IsStep states waiting c next → c ∷ rest ≡ front ++ behind → Leads states waiting front → FrontLeads states (bit_or next starts) rest
leads_on states starts waiting next c rest [] behind not_yet step is h = absurd (not_yet h)
leads_on states starts waiting next c rest (d ∷ front) behind not_yet step is h =
    let same : c ≡ d = cc in
    let tail : rest ≡ front ++ behind = cc in
    record { front = front; rest = behind; is = tail; leads = leads_left states next starts front ((stepped states waiting next c front step).0 (subst (λ k. Leads states waiting (k ∷ front)) (sym same) h)) }

part_on : (states : List State) (starts waiting next c : ℕ) (rest : List ℕ) (begun : (p : ℕ) → HasState starts p → HasState waiting p) (not_yet : HasState waiting 63 → ⊥) → IsStep states waiting c next → (before inside after : List ℕ) → c ∷ rest ≡ before ++ (inside ++ after) → Leads states starts inside → FrontLeads states (bit_or next starts) rest ⊎ Occurs (Leads states starts) rest
part_on states starts waiting next c rest begun not_yet step [] inside after is h = inl (leads_on states starts waiting next c rest inside after not_yet step is (begins states starts waiting inside begun h))
part_on states starts waiting next c rest begun not_yet step (d ∷ before) inside after is h = inr (let tail : rest ≡ before ++ (inside ++ after) = cc in record { before = before; inside = inside; after = after; is = tail; member = h })

pub find_on : (states : List State) (starts waiting next c : ℕ) (rest text : List ℕ) → IsFinding states starts waiting (c ∷ rest) text → (HasState waiting 63 → ⊥) → IsStep states waiting c next → IsFinding states starts (bit_or next starts) rest text
find_on states starts waiting next c rest text s not_yet step = record {
  before = s.before ++ c ∷ [];
  parted = s.parted ∙ sym (append_assoc s.before (c ∷ []) rest);
  begun = λ p h. holds_right next starts p h;
  sound = λ f. elim (leads_either states next starts f.front f.leads) [
    | inl i ↦ s.sound (record { front = c ∷ f.front; rest = f.rest; is = ap (λ x. c ∷ x) f.is; leads = (stepped states waiting next c f.front step).1 i })
    | inr i ↦ record { before = s.before ++ c ∷ []; inside = f.front; after = f.rest; is = s.parted ∙ sym (append_assoc s.before (c ∷ []) rest) ∙ ap (λ x. (s.before ++ c ∷ []) ++ x) f.is; member = i }
  ];
  complete = λ o. elim (s.complete o) [
    | inl f ↦ inl (leads_on states starts waiting next c rest f.front f.rest not_yet step f.is f.leads)
    | inr p ↦ part_on states starts waiting next c rest s.begun not_yet step p.before p.inside p.after p.is p.member
  ];
}

at_last : (states : List State) (waiting : ℕ) (front rest : List ℕ) → [] ≡ front ++ rest → Leads states waiting front → HasState waiting 63
at_last states waiting [] rest is h = h
at_last states waiting (c ∷ front) rest is h = absurd (cc)

nothing_before : (before rest : List ℕ) → [] ≡ before ++ rest → [] ≡ rest
nothing_before [] rest is = is
nothing_before (c ∷ before) rest is = absurd (cc)

pub not_found : (states : List State) (starts waiting : ℕ) (text : List ℕ) → IsFinding states starts waiting [] text → Occurs (Leads states starts) text → HasState waiting 63
not_found states starts waiting text s o = elim (s.complete o) [
  | inl f ↦ at_last states waiting f.front f.rest f.is f.leads
  | inr p ↦ s.begun 63 (at_last states starts p.inside p.after (nothing_before p.before (p.inside ++ p.after) p.is) p.member)
]

-- one byte of an ASCII scalar more is asked
pub find_byte : (states : List State) (starts waiting next : ℕ) (text bytes : List ℕ) (i : ℕ) → bytes ≡ text → i < length bytes → slice_index bytes i < 128 → IsFinding states starts waiting (chars (drop i text)) (chars text) → (HasState waiting 63 → ⊥)
    → IsStep states waiting (slice_index bytes i) next → IsFinding states starts (bit_or next starts) (chars (drop (i + 1) text)) (chars text)
find_byte states starts waiting next text bytes i same inside few s not_yet step =
    find_on states starts waiting next (slice_index bytes i) (chars (drop (i + 1) text)) (chars text) (subst (λ r. IsFinding states starts waiting r (chars text)) (ascii_cut text bytes i same inside few) s) not_yet step
