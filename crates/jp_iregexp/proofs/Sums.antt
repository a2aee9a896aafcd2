-- How the states of parts make those of the whole.
use Rattle.std.proofs.Common.{◌≡◌, ℕ, zero, suc, ◌+◌, ◌^◌, ◌<◌, ◌≤◌, ◌⊎◌, inl, inr, Bool, true, false, ◌&&◌, ◌||◌, IsTrue, List, [], ◌∷◌, ◌++◌, length, Some, None, bit_or, arith, refl, sym, ◌∙◌, ap, subst, append_assoc, append-nil, length-append}
use Rattle.std.specs.Int.{bit_at}
use Rattle.std.proofs.lemmas.Nat.Bits.{bit_at_or, bit_at-lt, bit_at-pow_same, bit_at-pow_other}
use Rattle.jp_iregexp.proofs.Bits.{same_or_not}
use Rattle.jp_model.specs.Pattern.Tree.{CharClass}
use Rattle.jp_model.specs.Pattern.Classes.{in_class}
use Rattle.jp_model.specs.Pattern.Language.{IsOne, Splits, Repeats, RepeatsWithin}
use Rattle.jp_iregexp.specs.States.{State, HasState, state_at, Leads, SplitsBehind, through, IsLaidOut}

-- ---- sets

bit_or_not : (m : ℕ) → m < 2 → (m ≡ 1) ⊎ (m ≡ 0)
bit_or_not zero l = inr refl
bit_or_not (suc zero) l = inl refl
bit_or_not (suc (suc m)) l = absurd (omega arith)

pub holds_either : (a b p : ℕ) → HasState (bit_or a b) p → HasState a p ⊎ HasState b p
holds_either a b p h =
    elim (bit_or_not (bit_at a p) (bit_at-lt a p)) [
      | inl i ↦ inl i
      | inr i ↦ inr (omega (arith, i, h, bit_at_or a b p, bit_at-lt b p))
    ]

pub holds_left : (a b p : ℕ) → HasState a p → HasState (bit_or a b) p
holds_left a b p h = omega (arith, h, bit_at_or a b p, bit_at-lt b p)

pub holds_right : (a b p : ℕ) → HasState b p → HasState (bit_or a b) p
holds_right a b p h = omega (arith, h, bit_at_or a b p, bit_at-lt a p)

pub leads_left : (states : List State) (a b : ℕ) (text : List ℕ) → Leads states a text → Leads states (bit_or a b) text
leads_left states a b [] h = holds_left a b 63 h
leads_left states a b (c ∷ text) h = record { number = h.number; state = h.state; is = h.is; waits = holds_left a b h.number h.waits; has = h.has; rest = h.rest }

pub leads_right : (states : List State) (a b : ℕ) (text : List ℕ) → Leads states b text → Leads states (bit_or a b) text
leads_right states a b [] h = holds_right a b 63 h
leads_right states a b (c ∷ text) h = record { number = h.number; state = h.state; is = h.is; waits = holds_right a b h.number h.waits; has = h.has; rest = h.rest }

pub leads_either : (states : List State) (a b : ℕ) (text : List ℕ) → Leads states (bit_or a b) text → Leads states a text ⊎ Leads states b text
leads_either states a b [] h = holds_either a b 63 h
leads_either states a b (c ∷ text) h =
    elim (holds_either a b h.number h.waits) [
      | inl i ↦ inl (let t : Leads states a (c ∷ text) = record { number = h.number; state = h.state; is = h.is; waits = i; has = h.has; rest = h.rest } in t)
      | inr i ↦ inr (let t : Leads states b (c ∷ text) = record { number = h.number; state = h.state; is = h.is; waits = i; has = h.has; rest = h.rest } in t)
    ]

-- ---- the entry

to_splits : {First Second : List ℕ → Type 0} (c : ℕ) (text : List ℕ) → SplitsBehind First Second c text → Splits First Second (c ∷ text)
to_splits c text s = record { front = c ∷ s.front; rest = s.rest; is = ap (λ x. c ∷ x) s.is; first = s.first; second = s.second }

all_rest : {First Second : List ℕ → Type 0} (text : List ℕ) → First [] → Second text → Splits First Second text
all_rest text f s = record { front = []; rest = text; is = refl; first = f; second = s }

module _ (states : List State) (Member : List ℕ → Type 0) (behind first : ℕ) where
  pub enter : (e : Bool) → IsLaidOut states Member behind first e → (text : List ℕ) → Leads states (through e first behind) text → Splits Member (Leads states behind) text
  enter false a [] h = absurd (a.no_end h)
  enter false a (c ∷ text) h = to_splits c text (a.sound c text h)
  enter true a [] h = elim (holds_either first behind 63 h) [ inl i ↦ absurd (a.no_end i) | inr i ↦ all_rest [] (a.empty refl) i ]
  enter true a (c ∷ text) h =
      elim (leads_either states first behind (c ∷ text) h) [
        | inl i ↦ to_splits c text (a.sound c text i)
        | inr i ↦ all_rest (c ∷ text) (a.empty refl) i
      ]

  from_first : (e : Bool) (text : List ℕ) → Leads states first text → Leads states (through e first behind) text
  from_first false text h = h
  from_first true text h = leads_left states first behind text h

  from_behind : (e : Bool) (text : List ℕ) → e ≡ true → Leads states behind text → Leads states (through e first behind) text
  from_behind false text is h = absurd (cc)
  from_behind true text is h = leads_right states first behind text h

  entered_at : (e : Bool) → IsLaidOut states Member behind first e → (text front rest : List ℕ) → text ≡ front ++ rest → Member front → Leads states behind rest → Leads states (through e first behind) text
  entered_at e a text [] rest is f s = from_behind e text (a.nonempty f) (subst (Leads states behind) (sym is) s)
  entered_at e a text (c ∷ front) rest is f s =
      subst (Leads states (through e first behind)) (sym is) (from_first e (c ∷ (front ++ rest)) (a.complete c (front ++ rest) (record { front = front; rest = rest; is = refl; first = f; second = s })))

  pub entered : (e : Bool) → IsLaidOut states Member behind first e → (text : List ℕ) → Splits Member (Leads states behind) text → Leads states (through e first behind) text
  entered e a text s = entered_at e a text s.front s.rest s.is s.first s.second

-- ---- one state

pub only_one : (k p : ℕ) → HasState (2 ^ k) p → p ≡ k
only_one k p h = elim (same_or_not p k) [ inl e ↦ e | inr d ↦ absurd (let z = bit_at-pow_other k p d in omega (arith, z, h)) ]

pub some_same : {A : Type 0} {x y : A} → Some x ≡ Some y → x ≡ y
some_same {A} {x} {y} e = cc

-- the state of this number, and what waits after it
module _ (states : List State) (class : CharClass) (behind k : ℕ) (is : state_at states k ≡ Some (record { class = class; behind = behind })) where
  one_sound : (c : ℕ) (text : List ℕ) → Leads states (2 ^ k) (c ∷ text) → SplitsBehind (IsOne (λ c. IsTrue (in_class class c))) (Leads states behind) c text
  one_sound c text h =
      let number : h.number ≡ k = only_one k h.number h.waits in
      let w : h.state ≡ record { class = class; behind = behind } = some_same (sym h.is ∙ ap (state_at states) number ∙ is) in
      record {
        front = [];
        rest = text;
        is = refl;
        first = record { scalar = c; is = refl; passes = subst (λ (p : State). IsTrue (in_class p.class c)) w h.has };
        second = subst (λ (p : State). Leads states p.behind text) w h.rest;
      }

  one_complete : (c : ℕ) (text : List ℕ) → SplitsBehind (IsOne (λ c. IsTrue (in_class class c))) (Leads states behind) c text → Leads states (2 ^ k) (c ∷ text)
  one_complete c text s =
      let front : s.front ≡ [] = cc (s.first.is) in
      let scalar : s.first.scalar ≡ c = cc (s.first.is) in
      record {
        number = k;
        state = record { class = class; behind = behind };
        is = is;
        waits = bit_at-pow_same k;
        has = subst (λ d. IsTrue (in_class class d)) scalar s.first.passes;
        rest = subst (Leads states behind) (sym (s.is ∙ ap (λ x. x ++ s.rest) front)) s.second;
      }

  pub one : k < 63 → IsLaidOut states (IsOne (λ c. IsTrue (in_class class c))) behind (2 ^ k) false
  one few = record {
    sound = one_sound;
    complete = one_complete;
    no_end = λ h. (let e = only_one k 63 h in omega (arith, e));
    empty = λ h. absurd (cc);
    nonempty = λ h. absurd (let e = h.is in cc);
  }

-- ---- no state

-- ---- the same set

pub same : (states : List State) (Member Other : List ℕ → Type 0) (behind first : ℕ) (e : Bool) → ((text : List ℕ) → Member text → Other text) → ((text : List ℕ) → Other text → Member text)
    → IsLaidOut states Member behind first e → IsLaidOut states Other behind first e
same states Member Other behind first e to from a = record {
  sound = λ c text h. (let s = a.sound c text h in record { front = s.front; rest = s.rest; is = s.is; first = to (c ∷ s.front) s.first; second = s.second });
  complete = λ c text s. a.complete c text (record { front = s.front; rest = s.rest; is = s.is; first = from (c ∷ s.front) s.first; second = s.second });
  no_end = a.no_end;
  empty = λ h. to [] (a.empty h);
  nonempty = λ h. a.nonempty (from [] h);
}

-- ---- one or the other

or_left : (d e : Bool) → d ≡ true → (d || e) ≡ true
or_left true e is = refl
or_left false e is = absurd (cc)

or_right : (d e : Bool) → e ≡ true → (d || e) ≡ true
or_right true e is = refl
or_right false e is = is

or_either : (d e : Bool) → (d || e) ≡ true → (d ≡ true) ⊎ (e ≡ true)
or_either true e is = inl refl
or_either false e is = inr is

behind_map : {First Other Second : List ℕ → Type 0} (c : ℕ) (text : List ℕ) → ((x : List ℕ) → First x → Other x) → SplitsBehind First Second c text → SplitsBehind Other Second c text
behind_map c text f s = record { front = s.front; rest = s.rest; is = s.is; first = f (c ∷ s.front) s.first; second = s.second }

module _ (states : List State) (First Second : List ℕ → Type 0) (behind f g : ℕ) (d e : Bool) (a : IsLaidOut states First behind f d) (b : IsLaidOut states Second behind g e) where
  either_complete : (c : ℕ) (text : List ℕ) → SplitsBehind (λ x. First x ⊎ Second x) (Leads states behind) c text → Leads states (bit_or f g) (c ∷ text)
  either_complete c text s =
      elim s.first [
        | inl i ↦ leads_left states f g (c ∷ text) (a.complete c text (record { front = s.front; rest = s.rest; is = s.is; first = i; second = s.second }))
        | inr i ↦ leads_right states f g (c ∷ text) (b.complete c text (record { front = s.front; rest = s.rest; is = s.is; first = i; second = s.second }))
      ]

  pub either : IsLaidOut states (λ x. First x ⊎ Second x) behind (bit_or f g) (d || e)
  either = record {
    sound = λ c text h. elim (leads_either states f g (c ∷ text) h) [
      | inl i ↦ behind_map c text (λ x m. inl m) (a.sound c text i)
      | inr i ↦ behind_map c text (λ x m. inr m) (b.sound c text i)
    ];
    complete = either_complete;
    no_end = λ h. elim (holds_either f g 63 h) [ inl i ↦ a.no_end i | inr i ↦ b.no_end i ];
    empty = λ h. elim (or_either d e h) [ inl i ↦ inl (a.empty i) | inr i ↦ inr (b.empty i) ];
    nonempty = λ h. elim h [ inl i ↦ or_left d e (a.nonempty i) | inr i ↦ or_right d e (b.nonempty i) ];
  }

-- ---- one and then the other

and_both : (d e : Bool) → d ≡ true → e ≡ true → (d && e) ≡ true
and_both true e is also = also
and_both false e is also = absurd (cc)

and_left : (d e : Bool) → (d && e) ≡ true → d ≡ true
and_left true e is = refl
and_left false e is = absurd (cc)

and_right : (d e : Bool) → (d && e) ≡ true → e ≡ true
and_right true e is = is
and_right false e is = absurd (cc)

both_empty : (First Second : List ℕ → Type 0) (front rest : List ℕ) → [] ≡ front ++ rest → First front → Second rest → First [] × Second []
both_empty First Second [] rest is f s = (f, subst Second (sym is) s)
both_empty First Second (c ∷ front) rest is f s = absurd (cc)

module _ (states : List State) (First Second : List ℕ → Type 0) (behind f g : ℕ) (d e : Bool) (a : IsLaidOut states First (through e g behind) f d) (b : IsLaidOut states Second behind g e) where
  abbrev Behind : List ℕ → Type 0
  Behind = Leads states behind

  join : (c : ℕ) (text : List ℕ) → SplitsBehind First (Leads states (through e g behind)) c text → SplitsBehind (Splits First Second) Behind c text
  join c text s =
      let t = enter states Second behind g e b s.rest s.second in
      record {
        front = s.front ++ t.front;
        rest = t.rest;
        is = s.is ∙ ap (λ x. s.front ++ x) t.is ∙ sym (append_assoc s.front t.front t.rest);
        first = record { front = c ∷ s.front; rest = t.front; is = refl; first = s.first; second = t.first };
        second = t.second;
      }

  skip : (c : ℕ) (text : List ℕ) → First [] → SplitsBehind Second Behind c text → SplitsBehind (Splits First Second) Behind c text
  skip c text none s = record { front = s.front; rest = s.rest; is = s.is; first = record { front = []; rest = c ∷ s.front; is = refl; first = none; second = s.first }; second = s.second }

  pub then_sound : (c : ℕ) (text : List ℕ) (k : Bool) → d ≡ k → Leads states (through k f g) (c ∷ text) → SplitsBehind (Splits First Second) Behind c text
  then_sound c text false is h = join c text (a.sound c text h)
  then_sound c text true is h =
      elim (leads_either states f g (c ∷ text) h) [
        | inl i ↦ join c text (a.sound c text i)
        | inr i ↦ skip c text (a.empty is) (b.sound c text i)
      ]

  split : (c : ℕ) (text inside rest front back : List ℕ) → text ≡ inside ++ rest → c ∷ inside ≡ front ++ back → First front → Second back → Behind rest → Leads states (through d f g) (c ∷ text)
  split c text inside rest [] back is parts m n h =
      from_behind states First g f d (c ∷ text) (a.nonempty m)
      (b.complete c text (record { front = inside; rest = rest; is = is; first = subst Second (sym parts) n; second = h }))
  split c text inside rest (x ∷ front) back is parts m n h =
      let head : x ≡ c = cc (parts) in
      let tail : inside ≡ front ++ back = cc (parts) in
      from_first states First g f d (c ∷ text)
      (a.complete c text (record {
        front = front;
        rest = back ++ rest;
        is = is ∙ ap (λ y. y ++ rest) tail ∙ append_assoc front back rest;
        first = subst (λ y. First (y ∷ front)) head m;
        second = entered states Second behind g e b (back ++ rest) (record { front = back; rest = rest; is = refl; first = n; second = h });
      }))

  pub then_complete : (c : ℕ) (text : List ℕ) → SplitsBehind (Splits First Second) Behind c text → Leads states (through d f g) (c ∷ text)
  then_complete c text s = split c text s.front s.rest s.first.front s.first.rest s.is s.first.is s.first.first s.first.second s.second

through_no_end : (k : Bool) (f g : ℕ) → (HasState f 63 → ⊥) → (HasState g 63 → ⊥) → HasState (through k f g) 63 → ⊥
through_no_end false f g a b h = a h
through_no_end true f g a b h = elim (holds_either f g 63 h) [ inl i ↦ a i | inr i ↦ b i ]

pub chained : (states : List State) (First Second : List ℕ → Type 0) (behind f g : ℕ) (d e : Bool) → IsLaidOut states First (through e g behind) f d → IsLaidOut states Second behind g e
    → IsLaidOut states (Splits First Second) behind (through d f g) (d && e)
chained states First Second behind f g d e a b = record {
  sound = λ c text h. then_sound states First Second behind f g d e a b c text d refl h;
  complete = λ c text s. then_complete states First Second behind f g d e a b c text s;
  no_end = through_no_end d f g a.no_end b.no_end;
  empty = λ h. record { front = []; rest = []; is = refl; first = a.empty (and_left d e h); second = b.empty (and_right d e h) };
  nonempty = λ s. (let p = both_empty First Second s.front s.rest s.is s.first s.second in and_both d e (a.nonempty p.0) (b.nonempty p.1));
}

-- ---- any number

module _ (states : List State) (Member : List ℕ → Type 0) (behind first : ℕ) (e : Bool) (a : IsLaidOut states Member (bit_or behind first) first e) where
  abbrev Rest : List ℕ → Type 0
  Rest = Leads states behind

  abbrev Many : List ℕ → Type 0
  Many = RepeatsWithin Member 0 None

  last_one : (c : ℕ) (text : List ℕ) (s : SplitsBehind Member (Leads states (bit_or behind first)) c text) → Rest s.rest → SplitsBehind Many Rest c text
  last_one c text s h = record {
    front = s.front;
    rest = s.rest;
    is = s.is;
    first = record { count = 1; enough = omega arith; few = tt; repeats = record { front = c ∷ s.front; rest = []; is = sym (append-nil (c ∷ s.front)); first = s.first; second = refl } };
    second = h;
  }

  and_more : (c : ℕ) (text front rest : List ℕ) (x : ℕ) (others : List ℕ) → text ≡ front ++ rest → Member (c ∷ front) → rest ≡ x ∷ others → SplitsBehind Many Rest x others → SplitsBehind Many Rest c text
  and_more c text front rest x others is m e s = record {
    front = front ++ (x ∷ s.front);
    rest = s.rest;
    is = is ∙ ap (λ y. front ++ y) (e ∙ ap (λ y. x ∷ y) s.is) ∙ sym (append_assoc front (x ∷ s.front) s.rest);
    first = record { count = suc s.first.count; enough = omega arith; few = tt; repeats = record { front = c ∷ front; rest = x ∷ s.front; is = refl; first = m; second = s.first.repeats } };
    second = s.second;
  }

  any_on : (n : ℕ) (c : ℕ) (text front rest : List ℕ) → text ≡ front ++ rest → length text ≤ n → Member (c ∷ front) → Leads states first rest → SplitsBehind Many Rest c text
  any_on n c text front [] is short m h = absurd (a.no_end h)
  any_on zero c text front (x ∷ others) is short m h = absurd (let l : length text ≡ length front + suc (length others) = ap length is ∙ length-append front (x ∷ others) in omega (arith, l, short))
  any_on (suc n) c text front (x ∷ others) is short m h =
      let l : length text ≡ length front + suc (length others) = ap length is ∙ length-append front (x ∷ others) in
      let s = a.sound x others h in
      and_more c text front (x ∷ others) x others is m refl
      (elim (leads_either states behind first s.rest s.second) [
        | inl i ↦ last_one x others s i
        | inr i ↦ any_on n x others s.front s.rest s.is (omega (arith, l, short)) s.first i
      ])

  pub any_sound : (c : ℕ) (text : List ℕ) → Leads states first (c ∷ text) → SplitsBehind Many Rest c text
  any_sound c text h =
      let s = a.sound c text h in
      elim (leads_either states behind first s.rest s.second) [
        | inl i ↦ last_one c text s i
        | inr i ↦ any_on (length text) c text s.front s.rest s.is (omega arith) s.first i
      ]

  abbrev LeadBy : ℕ → Type 0
  LeadBy count = (c : ℕ) (inside rest : List ℕ) → Repeats Member count (c ∷ inside) → Rest rest → Leads states first (c ∷ (inside ++ rest))

  any_rest : (count : ℕ) → LeadBy count → (back rest : List ℕ) → Repeats Member count back → Rest rest → Leads states (bit_or behind first) (back ++ rest)
  any_rest count by [] rest n h = leads_left states behind first rest h
  any_rest count by (x ∷ back) rest n h = leads_right states behind first (x ∷ (back ++ rest)) (by x back rest n h)

  any_turn : (count : ℕ) → LeadBy count → (c : ℕ) (inside rest front back : List ℕ) → c ∷ inside ≡ front ++ back → Member front → Repeats Member count back → Rest rest → Leads states first (c ∷ (inside ++ rest))
  any_turn count by c inside rest [] back parts m n h = by c inside rest (subst (Repeats Member count) (sym parts) n) h
  any_turn count by c inside rest (x ∷ front) back parts m n h =
      let head : x ≡ c = cc (parts) in
      let tail : inside ≡ front ++ back = cc (parts) in
      a.complete c (inside ++ rest) (record {
        front = front;
        rest = back ++ rest;
        is = ap (λ y. y ++ rest) tail ∙ append_assoc front back rest;
        first = subst (λ y. Member (y ∷ front)) head m;
        second = any_rest count by back rest n h;
      })

  pub any_complete : (count : ℕ) → LeadBy count
  any_complete zero = λ c inside rest m h. absurd (cc)
  any_complete (suc count) = λ c inside rest m h. any_turn count (any_complete count) c inside rest m.front m.rest m.is m.first m.second h

pub any : (states : List State) (Member : List ℕ → Type 0) (behind first : ℕ) (e : Bool) → IsLaidOut states Member (bit_or behind first) first e → IsLaidOut states (RepeatsWithin Member 0 None) behind first true
any states Member behind first e a = record {
  sound = λ c text h. any_sound states Member behind first e a c text h;
  complete = λ c text s. subst (λ x. Leads states first (c ∷ x)) (sym s.is) (any_complete states Member behind first e a s.first.count c s.front s.rest s.first.repeats s.second);
  no_end = a.no_end;
  empty = λ h. record { count = 0; enough = omega arith; few = tt; repeats = refl };
  nonempty = λ h. refl;
}

-- ---- once or more

first_of_none : (Member : List ℕ → Type 0) (front rest : List ℕ) → [] ≡ front ++ rest → Member front → Member []
first_of_none Member [] rest is m = m
first_of_none Member (c ∷ front) rest is m = absurd (cc)

pub some_of_none : (Member : List ℕ → Type 0) (count : ℕ) → 1 ≤ count → Repeats Member count [] → Member []
some_of_none Member zero l r = absurd (omega arith)
some_of_none Member (suc count) l r = first_of_none Member r.front r.rest r.is r.first

not_none : (Member : List ℕ → Type 0) (count c : ℕ) (text : List ℕ) → Repeats Member count (c ∷ text) → 1 ≤ count
not_none Member zero c text r = absurd (cc)
not_none Member (suc count) c text r = omega arith

pub once_or_more : (states : List State) (Member : List ℕ → Type 0) (behind first : ℕ) (e : Bool) → IsLaidOut states Member (bit_or behind first) first e → IsLaidOut states (RepeatsWithin Member 1 None) behind first e
once_or_more states Member behind first e a = (let b = any states Member behind first e a in record {
  sound = λ c text h. (let s = b.sound c text h in let m = s.first in record { front = s.front; rest = s.rest; is = s.is; first = record { count = m.count; enough = not_none Member m.count c s.front m.repeats; few = tt; repeats = m.repeats }; second = s.second });
  complete = λ c text s. b.complete c text (record { front = s.front; rest = s.rest; is = s.is; first = record { count = s.first.count; enough = omega arith; few = tt; repeats = s.first.repeats }; second = s.second });
  no_end = a.no_end;
  empty = λ h. record { count = 1; enough = omega arith; few = tt; repeats = record { front = []; rest = []; is = refl; first = a.empty h; second = refl } };
  nonempty = λ m. a.nonempty (some_of_none Member m.count m.enough m.repeats);
})
