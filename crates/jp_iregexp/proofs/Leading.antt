-- Runs over a text.
use Rattle.std.proofs.Common.{◌≡◌, ℕ, zero, suc, ◌^◌, ◌<◌, ◌≤◌, ◌↔◌, Bool, List, [], ◌∷◌, ◌++◌, ◌+◌, length, drop, get_or, add-one, drop-cons, Some, arith, refl, sym, ◌∙◌, ap, subst, append-nil}
use Rattle.std.proofs.lemmas.Nat.Bits.{bit_at-zero}
use Rattle.std.proofs.lemmas.List.{length_push}
use Rattle.jp_iregexp.specs.States.{State, state_at, Leads, IsStep, through, IsLaidOut}
use Rattle.jp_iregexp.proofs.Sums.{enter, entered, only_one}

there : (states : List State) (set next c : ℕ) (text : List ℕ) → IsStep states set c next → Leads states set (c ∷ text) → Leads states next text
there states set next c [] s h = (s 63).1 h
there states set next c (d ∷ text) s h =
    let r = h.rest in
    record { number = r.number; state = r.state; is = r.is; waits = (s r.number).1 (record { number = h.number; state = h.state; is = h.is; waits = h.waits; has = h.has; rest = r.waits }); has = r.has; rest = r.rest }

back : (states : List State) (set next c : ℕ) (text : List ℕ) → IsStep states set c next → Leads states next text → Leads states set (c ∷ text)
back states set next c [] s h = (s 63).0 h
back states set next c (d ∷ text) s h =
    let p = (s h.number).0 h.waits in
    record { number = p.number; state = p.state; is = p.is; waits = p.waits; has = p.has; rest = record { number = h.number; state = h.state; is = h.is; waits = p.rest; has = h.has; rest = h.rest } }

-- a step leads on
pub stepped : (states : List State) (set next c : ℕ) (text : List ℕ) → IsStep states set c next → Leads states set (c ∷ text) ↔ Leads states next text
stepped states set next c text s = (there states set next c text s, back states set next c text s)

pub inside : (states : List State) (p : ℕ) (w : State) → state_at states p ≡ Some w → p < length states
inside [] p w is = absurd (cc)
inside (x ∷ states) zero w is = omega arith
inside (x ∷ states) (suc p) w is = (let l = inside states p w is in omega (arith, l))

at_end : (states : List State) (text : List ℕ) → length states ≤ 63 → Leads states (2 ^ 63) text → text ≡ []
at_end states [] few h = refl
at_end states (c ∷ text) few h =
    let e = only_one 63 h.number h.waits in
    let l = inside states h.number h.state h.is in
    absurd (omega (arith, e, l, few))

from_end : (states : List State) → Leads states (2 ^ 63) []
from_end states = omega arith

alone : (Member : List ℕ → Type 0) (text front rest : List ℕ) → text ≡ front ++ rest → rest ≡ [] → Member front → Member text
alone Member text front rest is none m = subst Member (sym (is ∙ ap (λ x. front ++ x) none ∙ append-nil front)) m

-- what is laid out in front of the end leads where the text is a member
pub whole : (states : List State) (Member : List ℕ → Type 0) (first : ℕ) (e : Bool) → length states ≤ 63 → IsLaidOut states Member (2 ^ 63) first e → (text : List ℕ) → Leads states (through e first (2 ^ 63)) text ↔ Member text
whole states Member first e few a text = (
  (λ h. let s = enter states Member (2 ^ 63) first e a text h in alone Member text s.front s.rest s.is (at_end states s.rest few s.second) s.first),
  (λ m. entered states Member (2 ^ 63) first e a text (record { front = text; rest = []; is = sym (append-nil text); first = m; second = from_end states })),
)

pub next_scalar : (text : List ℕ) (i c : ℕ) → i < length text → c ≡ get_or text i c → drop i text ≡ c ∷ drop (i + 1) text
next_scalar text i c inside e = rw add-one (drop-cons text i c inside ∙ ap (λ p. p ∷ drop (suc i) text) (sym e))

-- the same, where the scalars before are a list
pub scalar_behind : (text before : List ℕ) (c : ℕ) → length before < length text → c ≡ get_or text (length before) c → drop (length before) text ≡ c ∷ drop (length (before ++ c ∷ [])) text
scalar_behind text before c inside e = next_scalar text (length before) c inside e ∙ ap (λ n. c ∷ drop n text) (sym (length_push before c))

-- where no state waits the text leads nowhere
pub leads_nowhere : (states : List State) (text : List ℕ) → Leads states 0 text → ⊥
leads_nowhere states [] h = (let z = bit_at-zero 63 in omega (arith, z, h))
leads_nowhere states (c ∷ text) h = (let z = bit_at-zero h.number in let w = h.waits in omega (arith, z, w))

pub nothing_left : (text : List ℕ) (n : ℕ) → n ≡ length text → drop n text ≡ []
nothing_left [] zero e = refl
nothing_left [] (suc n) e = refl
nothing_left (c ∷ text) zero e = absurd (omega arith)
nothing_left (c ∷ text) (suc n) e = nothing_left text n (omega arith)
