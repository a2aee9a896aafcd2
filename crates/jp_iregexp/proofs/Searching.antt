-- Where a part of a text is a member, as the text is read once.
use Rattle.std.proofs.Common.{◌≡◌, ℕ, ◌⊎◌, ◌↔◌, inl, inr, List, [], ◌∷◌, ◌++◌, refl, sym, ◌∙◌, ap, subst, append_assoc}
use Rattle.jp_model.specs.Pattern.Language.{Occurs}

-- some front of the text is one of those that are waited for
pub record FrontWaits (Waits : List ℕ → Type 0) (text : List ℕ) : Type 0 where
  pub front : List ℕ
  pub rest : List ℕ
  pub is : text ≡ front ++ rest
  pub waits : Waits front

-- the text is read up to this rest, and these texts are waited for
pub record IsSearching (Member Waits : List ℕ → Type 0) (rest text : List ℕ) : Type 0 where
  pub before : List ℕ
  pub parted : text ≡ before ++ rest
  pub begun : (x : List ℕ) → Member x → Waits x
  pub sound : FrontWaits Waits rest → Occurs Member text
  pub complete : Occurs Member text → FrontWaits Waits rest ⊎ Occurs Member rest

pub search_start : (Member Waits : List ℕ → Type 0) (text : List ℕ) → ((x : List ℕ) → Waits x ↔ Member x) → IsSearching Member Waits text text
search_start Member Waits text same = record {
  before = [];
  parted = refl;
  begun = λ x m. (same x).1 m;
  sound = λ f. record { before = []; inside = f.front; after = f.rest; is = f.is; member = (same f.front).0 f.waits };
  complete = λ o. inr o;
}

-- the empty text is waited for
pub search_found : (Member Waits : List ℕ → Type 0) (rest text : List ℕ) → IsSearching Member Waits rest text → Waits [] → Occurs Member text
search_found Member Waits rest text s h = s.sound (record { front = []; rest = rest; is = refl; waits = h })

module _ (Member Waits Next : List ℕ → Type 0) (c : ℕ) (rest : List ℕ) (not_yet : Waits [] → ⊥) (next : (x : List ℕ) → Next x ↔ (Waits (c ∷ x) ⊎ Member x)) where
  waits_on : (front behind : List ℕ) → c ∷ rest ≡ front ++ behind → Waits front → FrontWaits Next rest
  waits_on [] behind is h = absurd (not_yet h)
  waits_on (d ∷ front) behind is h =
      let same : d ≡ c = cc in
      let tail : rest ≡ front ++ behind = cc in
      record { front = front; rest = behind; is = tail; waits = (next front).1 (inl (subst (λ k. Waits (k ∷ front)) same h)) }

  part_on : (begun : (x : List ℕ) → Member x → Waits x) (before inside after : List ℕ) → c ∷ rest ≡ before ++ (inside ++ after) → Member inside → FrontWaits Next rest ⊎ Occurs Member rest
  part_on begun [] inside after is m = inl (waits_on inside after is (begun inside m))
  part_on begun (d ∷ before) inside after is m = inr (let tail : rest ≡ before ++ (inside ++ after) = cc in record { before = before; inside = inside; after = after; is = tail; member = m })

  -- a scalar is read
  pub search_on : (text : List ℕ) → IsSearching Member Waits (c ∷ rest) text → IsSearching Member Next rest text
  search_on text s = record {
    before = s.before ++ c ∷ [];
    parted = s.parted ∙ sym (append_assoc s.before (c ∷ []) rest);
    begun = λ x m. (next x).1 (inr m);
    sound = λ f. elim ((next f.front).0 f.waits) [
      | inl i ↦ s.sound (record { front = c ∷ f.front; rest = f.rest; is = ap (λ x. c ∷ x) f.is; waits = i })
      | inr m ↦ record { before = s.before ++ c ∷ []; inside = f.front; after = f.rest; is = s.parted ∙ sym (append_assoc s.before (c ∷ []) rest) ∙ ap (λ x. (s.before ++ c ∷ []) ++ x) f.is; member = m }
    ];
    complete = λ o. elim (s.complete o) [
      | inl f ↦ inl (waits_on f.front f.rest f.is f.waits)
      | inr p ↦ part_on s.begun p.before p.inside p.after p.is p.member
    ];
  }

at_last : (Waits : List ℕ → Type 0) (front rest : List ℕ) → [] ≡ front ++ rest → Waits front → Waits []
at_last Waits [] rest is h = h
at_last Waits (c ∷ front) rest is h = absurd (cc)

nothing_before : (before rest : List ℕ) → [] ≡ before ++ rest → [] ≡ rest
nothing_before [] rest is = is
nothing_before (c ∷ before) rest is = absurd (cc)

-- nothing is left
pub search_end : (Member Waits : List ℕ → Type 0) (text : List ℕ) → IsSearching Member Waits [] text → Occurs Member text → Waits []
search_end Member Waits text s o = elim (s.complete o) [
  | inl f ↦ at_last Waits f.front f.rest f.is f.waits
  | inr p ↦ s.begun [] (at_last Member p.inside p.after (nothing_before p.before (p.inside ++ p.after) p.is) p.member)
]
