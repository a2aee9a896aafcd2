-- How states that are put in front of others lead.
use Rattle.std.proofs.Common.{◌≡◌, ℕ, zero, suc, ◌+◌, ◌-◌, ◌<◌, ◌≤◌, ◌⊎◌, ◌↔◌, inl, inr, Bool, true, false, IsTrue, if◌then◌else◌, List, [], ◌∷◌, ◌++◌, length, set, Some, None, arith, refl, sym, ◌∙◌, ap, subst, append_assoc, append-nil, length-append, length-set}
use Rattle.std.specs.List.{Contains}
use Rattle.std.proofs.lemmas.List.Elements.{Contains-push, Contains-push_cases, Contains-append_left}
use Rattle.jp_model.specs.Pattern.Classes.{in_class}
use Rattle.jp_model.specs.Pattern.Language.{IsOne, Splits, Repeats, RepeatsWithin}
use Rattle.jp_iregexp.specs.declared.graph.State.{State}
use Rattle.jp_iregexp.specs.declared.graph.State.TheVariants.{Scalar}
use Rattle.jp_iregexp.specs.declared.class.Class.{Class}
use Rattle.jp_iregexp.specs.Graphs.{node_at, free_of, behind_of, Frees, Reads, Goes, LeadsIn, LeadsFrom, SomeLeadsIn, SplitsIn, IsEntry, AreMerged, AgreeFrom, Extends, IsFan, AddsEntry, AddsEntries, Merges}
use Rattle.jp_iregexp.specs.Nodes.{class_of}

-- ---- states by their number

pub node_last : (old : List State) (w : State) (k : ℕ) → k ≡ length old → node_at (old ++ w ∷ []) k ≡ Some w
node_last [] w zero e = refl
node_last [] w (suc k) e = absurd (omega arith)
node_last (v ∷ old) w zero e = absurd (omega arith)
node_last (v ∷ old) w (suc k) e = node_last old w k (omega arith)

pub node_kept : (old more : List State) (s : ℕ) (w : State) → node_at old s ≡ Some w → node_at (old ++ more) s ≡ Some w
node_kept [] more s w is = absurd (cc)
node_kept (v ∷ old) more zero w is = is
node_kept (v ∷ old) more (suc s) w is = node_kept old more s w is

pub node_inside : (states : List State) (s : ℕ) (w : State) → node_at states s ≡ Some w → s < length states
node_inside [] s w is = absurd (cc)
node_inside (v ∷ states) zero w is = omega arith
node_inside (v ∷ states) (suc s) w is = (let l = node_inside states s w is in omega (arith, l))

pub extends_none : (old : List State) → Extends old old
extends_none old = record { longer = omega arith; kept = λ s w l is. is }

pub extends_on : (old mid new : List State) → Extends old mid → Extends mid new → Extends old new
extends_on old mid new a b = record { longer = (let x = a.longer in let y = b.longer in omega (arith, x, y)); kept = λ s w l is. b.kept s w l (a.kept s w l is) }

pub extends_push : (old new : List State) (w : State) → new ≡ old ++ w ∷ [] → Extends old new
extends_push old new w is = record {
  longer = (let l : length new ≡ length old + 1 = ap length is ∙ length-append old (w ∷ []) in omega (arith, l));
  kept = λ s v l at. subst (λ x. node_at x s ≡ Some v) (sym is) (node_kept old (w ∷ []) s v at);
}

-- what agrees with the longer states agrees with those before
agree_before : (old mid new all : List State) → Extends mid new → AgreeFrom (length old) new all → AgreeFrom (length old) mid all
agree_before old mid new all e a = λ s w l is. a s w l (e.kept s w (omega arith) is)

agree_later : (old mid new all : List State) → Extends old mid → AgreeFrom (length old) new all → AgreeFrom (length mid) new all
agree_later old mid new all e a = λ s w l is. (let x = e.longer in a s w (omega (arith, x, l)) is)

-- ---- a step

pub goes : (states : List State) (n s : ℕ) (w : State) (text : List ℕ) → node_at states s ≡ Some w → LeadsIn states (suc n) s text → Frees w (λ t. LeadsIn states n t text) ⊎ Reads w (λ t rest. LeadsIn states n t rest) text
goes states n s w text at h = subst (λ o. Goes o (λ t rest. LeadsIn states n t rest) text) at h

pub goes_free : (states : List State) (s t : ℕ) (w : State) (text : List ℕ) → node_at states s ≡ Some w → Contains (free_of w) t → LeadsFrom states t text → LeadsFrom states s text
goes_free states s t w text at among h = record {
  steps = suc h.steps;
  run = subst (λ o. Goes o (λ t rest. LeadsIn states h.steps t rest) text) (sym at) (inl (let f : Frees w (λ t. LeadsIn states h.steps t text) = record { target = t; among = among; rest = h.run } in f));
}

pub goes_read : (states : List State) (s c t : ℕ) (w : State) (rest : List ℕ) → node_at states s ≡ Some w → behind_of w c ≡ Some t → LeadsFrom states t rest → LeadsFrom states s (c ∷ rest)
goes_read states s c t w rest at to h = record {
  steps = suc h.steps;
  run = subst (λ o. Goes o (λ t rest. LeadsIn states h.steps t rest) (c ∷ rest)) (sym at) (inr (let r : Reads w (λ t rest. LeadsIn states h.steps t rest) (c ∷ rest) = record { scalar = c; behind = rest; is = refl; next = t; to = to; rest = h.run } in r));
}

-- ---- lists of two

pub none_in : (t : ℕ) → Contains [] t → ⊥
none_in t h = (let l = h.1 in omega (arith, l))

pub one_in : (a : ℕ) → Contains (a ∷ []) a
one_in a = (0, omega arith, refl)

pub only_in : (a t : ℕ) → Contains (a ∷ []) t → a ≡ t
only_in a t h = elim (Contains-push_cases [] a t h) [ inl i ↦ absurd (none_in t i) | inr e ↦ e ]

pub first_in : (a b : ℕ) → Contains (a ∷ b ∷ []) a
first_in a b = (0, omega arith, refl)

pub second_in : (a b : ℕ) → Contains (a ∷ b ∷ []) b
second_in a b = (1, omega arith, refl)

pub two_in : (a b t : ℕ) → Contains (a ∷ b ∷ []) t → (a ≡ t) ⊎ (b ≡ t)
two_in a b t h = elim (Contains-push_cases (a ∷ []) b t h) [ inl i ↦ inl (only_in a t i) | inr e ↦ inr e ]

-- ---- parts

pub entry_none : (old : List State) (next : ℕ) → AddsEntry old old (λ x. x ≡ []) next next
entry_none old next = record {
  extends = extends_none old;
  laid = λ all some agree. record {
    sound = λ n text h. record { front = []; rest = text; is = refl; first = refl; steps = n; few = omega arith; second = h };
    complete = λ text s. subst (LeadsFrom all next) (sym (s.is ∙ ap (λ x. x ++ s.rest) s.first)) s.second;
  };
}

pub entry_same : (old new : List State) (Member Other : List ℕ → Type 0) (next entry : ℕ) → ((x : List ℕ) → Member x → Other x) → ((x : List ℕ) → Other x → Member x) → AddsEntry old new Member next entry → AddsEntry old new Other next entry
entry_same old new Member Other next entry to from a = record {
  extends = a.extends;
  laid = λ all some agree. (let l = a.laid all some agree in record {
    sound = λ n text h. (let s = l.sound n text h in record { front = s.front; rest = s.rest; is = s.is; first = to s.front s.first; steps = s.steps; few = s.few; second = s.second });
    complete = λ text s. l.complete text (record { front = s.front; rest = s.rest; is = s.is; first = from s.front s.first; second = s.second });
  });
}

-- first the one part and then the other, which was there before
pub entry_then : (old mid new : List State) (First Second : List ℕ → Type 0) (next at entry : ℕ) → AddsEntry old mid Second next at → AddsEntry mid new First at entry → AddsEntry old new (Splits First Second) next entry
entry_then old mid new First Second next at entry b a = record {
  extends = extends_on old mid new b.extends a.extends;
  laid = λ all some agree.
      (let more = b.extends.longer in
      let k = a.laid all (omega (arith, some, more)) (agree_later old mid new all b.extends agree) in
      let l = b.laid all some (agree_before old mid new all a.extends agree) in record {
        sound = λ n text h.
            (let s = k.sound n text h in
            let r = l.sound s.steps s.rest s.second in
            let x = s.few in
            let y = r.few in record {
              front = s.front ++ r.front;
              rest = r.rest;
              is = s.is ∙ ap (λ x. s.front ++ x) r.is ∙ sym (append_assoc s.front r.front r.rest);
              first = record { front = s.front; rest = r.front; is = refl; first = s.first; second = r.first };
              steps = r.steps;
              few = omega (arith, x, y);
              second = r.second;
            });
        complete = λ text s.
            (let f = s.first in
            let behind = l.complete (f.rest ++ s.rest) (record { front = f.rest; rest = s.rest; is = refl; first = f.second; second = s.second }) in
            k.complete text (record { front = f.front; rest = f.rest ++ s.rest; is = s.is ∙ ap (λ x. x ++ s.rest) f.is ∙ append_assoc f.front f.rest s.rest; first = f.first; second = behind }));
      });
}

-- ---- a scalar

pub when_some : (b : Bool) (x y : ℕ) → (if b then Some x else None) ≡ Some y → (b ≡ true) × (x ≡ y)
when_some true x y e = (refl, cc)
when_some false x y e = absurd (cc)

pub when_true : (b : Bool) (x : ℕ) → b ≡ true → (if b then Some x else None) ≡ Some x
when_true b x e = ap (λ (v : Bool). if v then Some x else None) e

scalar_entry : (all : List State) (class : Class) (next k : ℕ) → 0 < k → node_at all k ≡ Some (Scalar class next) → IsEntry all (IsOne (λ c. IsTrue (in_class (class_of class) c))) next k
scalar_entry all class next k some at = record {
  sound = sound;
  complete = λ text s.
      (let one = s.first in
      subst (LeadsFrom all k) (sym (s.is ∙ ap (λ x. x ++ s.rest) one.is))
      (goes_read all k one.scalar next (Scalar class next) s.rest at (when_true (in_class (class_of class) one.scalar) next one.passes) s.second));
}
  where
    sound : (n : ℕ) (text : List ℕ) → LeadsIn all n k text → SplitsIn all (IsOne (λ c. IsTrue (in_class (class_of class) c))) next n text
    sound zero text h = absurd (let e = h.0 in omega (arith, e, some))
    sound (suc n) text h = elim (goes all n k (Scalar class next) text at h) [
      | inl f ↦ absurd (none_in f.target f.among)
      | inr r ↦ (let t = when_some (in_class (class_of class) r.scalar) next r.next r.to in record {
        front = r.scalar ∷ [];
        rest = r.behind;
        is = r.is;
        first = record { scalar = r.scalar; is = refl; passes = t.0 };
        steps = n;
        few = omega arith;
        second = subst (λ t. LeadsIn all n t r.behind) (sym t.1) r.rest;
      })
    ]

pub entry_scalar : (old new : List State) (class : Class) (next k : ℕ) → k ≡ length old → new ≡ old ++ Scalar class next ∷ [] → AddsEntry old new (IsOne (λ c. IsTrue (in_class (class_of class) c))) next k
entry_scalar old new class next k len is = record {
  extends = extends_push old new (Scalar class next) is;
  laid = λ all some agree.
      scalar_entry all class next k (omega (arith, some, len))
      (agree k (Scalar class next) (omega (arith, len)) (subst (λ x. node_at x k ≡ Some (Scalar class next)) (sym is) (node_last old (Scalar class next) k len)));
}

-- ---- a fan

pub fan_merged : (all : List State) (w : State) (k : ℕ) → 0 < k → node_at all k ≡ Some w → ((c : ℕ) → behind_of w c ≡ None) → AreMerged all (free_of w) k
fan_merged all w k some at none = record {
  sound = sound;
  complete = λ text s. goes_free all k s.number w text at s.among s.leads;
}
  where
    sound : (n : ℕ) (text : List ℕ) → LeadsIn all n k text → SomeLeadsIn all (free_of w) n text
    sound zero text h = absurd (let e = h.0 in omega (arith, e, some))
    sound (suc n) text h = elim (goes all n k w text at h) [
      | inl f ↦ record { number = f.target; among = f.among; steps = n; few = omega arith; run = f.rest }
      | inr r ↦ absurd (let e : None ≡ Some r.next = sym (none r.scalar) ∙ r.to in cc)
    ]

-- a fan is added
pub merges_fan : (base : ℕ) (old new : List State) (w : State) (branches : List ℕ) (k : ℕ) → base ≤ length old → k ≡ length old → new ≡ old ++ w ∷ [] → IsFan w branches → Merges base old new branches k
merges_fan base old new w branches k low len is fan = record {
  extends = extends_push old new w is;
  laid = λ all some agree.
      subst (λ b. AreMerged all b k) fan.free
      (fan_merged all w k (omega (arith, some, len, low)) (agree k w (omega (arith, len, low)) (subst (λ x. node_at x k ≡ Some w) (sym is) (node_last old w k len))) fan.behind);
}

-- ---- branches

pub entries_none : (old : List State) (next : ℕ) → AddsEntries old old (λ x. ⊥) next []
entries_none old next = record {
  extends = extends_none old;
  laid = λ all some agree. record {
    sound = λ n text entry among h. absurd (none_in entry among);
    complete = λ text s. absurd s.first;
  };
}

pub entries_more : (old mid new : List State) (First Second : List ℕ → Type 0) (next entry : ℕ) (entries : List ℕ) → AddsEntries old mid First next entries → AddsEntry mid new Second next entry → AddsEntries old new (λ x. First x ⊎ Second x) next (entries ++ entry ∷ [])
entries_more old mid new First Second next entry entries a b = record {
  extends = extends_on old mid new a.extends b.extends;
  laid = λ all some agree.
      (let more = a.extends.longer in
      let k = a.laid all some (agree_before old mid new all b.extends agree) in
      let l = b.laid all (omega (arith, some, more)) (agree_later old mid new all a.extends agree) in record {
        sound = λ n text e among h. elim (Contains-push_cases entries entry e among) [
          | inl i ↦ (let s = k.sound n text e i h in record { front = s.front; rest = s.rest; is = s.is; first = inl s.first; steps = s.steps; few = s.few; second = s.second })
          | inr same ↦ (let s = l.sound n text (subst (λ x. LeadsIn all n x text) (sym same) h) in record { front = s.front; rest = s.rest; is = s.is; first = inr s.first; steps = s.steps; few = s.few; second = s.second })
        ];
        complete = λ text s. elim s.first [
          | inl i ↦ (let f = k.complete text (record { front = s.front; rest = s.rest; is = s.is; first = i; second = s.second }) in record { number = f.number; among = Contains-append_left entries (entry ∷ []) f.number f.among; leads = f.leads })
          | inr i ↦ record { number = entry; among = Contains-push entries entry; leads = l.complete text (record { front = s.front; rest = s.rest; is = s.is; first = i; second = s.second }) }
        ];
      });
}

pub entries_same : (old new : List State) (Member Other : List ℕ → Type 0) (next : ℕ) (entries : List ℕ) → ((x : List ℕ) → Member x → Other x) → ((x : List ℕ) → Other x → Member x) → AddsEntries old new Member next entries → AddsEntries old new Other next entries
entries_same old new Member Other next entries to from a = record {
  extends = a.extends;
  laid = λ all some agree. (let l = a.laid all some agree in record {
    sound = λ n text e among h. (let s = l.sound n text e among h in record { front = s.front; rest = s.rest; is = s.is; first = to s.front s.first; steps = s.steps; few = s.few; second = s.second });
    complete = λ text s. l.complete text (record { front = s.front; rest = s.rest; is = s.is; first = from s.front s.first; second = s.second });
  });
}

-- the branches as one entry
pub entry_merged : (old mid new : List State) (Member : List ℕ → Type 0) (next entry : ℕ) (branches : List ℕ) → AddsEntries old mid Member next branches → Merges (length old) mid new branches entry → AddsEntry old new Member next entry
entry_merged old mid new Member next entry branches a m = record {
  extends = extends_on old mid new a.extends m.extends;
  laid = λ all some agree.
      (let more = a.extends.longer in
      let l = a.laid all some (agree_before old mid new all m.extends agree) in
      let k = m.laid all some agree in record {
        sound = λ n text h.
            (let b = k.sound n text h in
            let s = l.sound b.steps text b.number b.among b.run in
            let x = b.few in
            let y = s.few in record { front = s.front; rest = s.rest; is = s.is; first = s.first; steps = s.steps; few = omega (arith, x, y); second = s.second });
        complete = λ text s. k.complete text (l.complete text s);
      });
}

-- ---- turns

-- one part or nothing
pub entry_optional : (old mid new : List State) (Member : List ℕ → Type 0) (w : State) (next entry k : ℕ) → AddsEntry old mid Member next entry → k ≡ length mid → new ≡ mid ++ w ∷ [] → IsFan w (entry ∷ next ∷ []) → AddsEntry old new (λ x. Member x ⊎ (x ≡ [])) next k
entry_optional old mid new Member w next entry k a len is fan = record {
  extends = extends_on old mid new a.extends more;
  laid = λ all some agree.
      (let longer = a.extends.longer in
      let l = a.laid all some (agree_before old mid new all more agree) in
      let at = agree k w (omega (arith, len, longer)) (subst (λ x. node_at x k ≡ Some w) (sym is) (node_last mid w k len)) in
      let f = subst (λ b. AreMerged all b k) fan.free (fan_merged all w k (omega (arith, some, longer, len)) at fan.behind) in record {
        sound = λ n text h.
            (let b = f.sound n text h in
            let x = b.few in
            elim (two_in entry next b.number b.among) [
              | inl e ↦ (let s = l.sound b.steps text (subst (λ t. LeadsIn all b.steps t text) (sym e) b.run) in let y = s.few in record { front = s.front; rest = s.rest; is = s.is; first = inl s.first; steps = s.steps; few = omega (arith, x, y); second = s.second })
              | inr e ↦ record { front = []; rest = text; is = refl; first = inr refl; steps = b.steps; few = x; second = subst (λ t. LeadsIn all b.steps t text) (sym e) b.run }
            ]);
        complete = λ text s. elim s.first [
          | inl i ↦ f.complete text (record { number = entry; among = first_in entry next; leads = l.complete text (record { front = s.front; rest = s.rest; is = s.is; first = i; second = s.second }) })
          | inr e ↦ f.complete text (record { number = next; among = second_in entry next; leads = subst (LeadsFrom all next) (sym (s.is ∙ ap (λ x. x ++ s.rest) e)) s.second })
        ];
      });
}
  where
    more : Extends mid new
    more = extends_push mid new w is

-- any number of turns: a state that leads to one more turn, after which it comes again, or to what is next
module _ (all : List State) (Member : List ℕ → Type 0) (w : State) (next turns entry : ℕ) (some : 0 < turns) (at : node_at all turns ≡ Some w) (free : free_of w ≡ entry ∷ next ∷ []) (none : (c : ℕ) → behind_of w c ≡ None) (body : IsEntry all Member turns entry) where
  one_more : (n : ℕ) (text : List ℕ) (s : SplitsIn all Member turns n text) → SplitsIn all (RepeatsWithin Member 0 None) next s.steps s.rest → SplitsIn all (RepeatsWithin Member 1 None) next n text
  one_more n text s r =
      let x = s.few in
      let y = r.few in record {
        front = s.front ++ r.front;
        rest = r.rest;
        is = s.is ∙ ap (λ x. s.front ++ x) r.is ∙ sym (append_assoc s.front r.front r.rest);
        first = record { count = suc r.first.count; enough = omega arith; few = tt; repeats = record { front = s.front; rest = r.front; is = refl; first = s.first; second = r.first.repeats } };
        steps = r.steps;
        few = omega (arith, x, y);
        second = r.second;
      }

  fewer : (n m : ℕ) (text : List ℕ) → n ≤ m → SplitsIn all (RepeatsWithin Member 1 None) next n text → SplitsIn all (RepeatsWithin Member 0 None) next m text
  fewer n m text l s = (let x = s.few in record { front = s.front; rest = s.rest; is = s.is; first = record { count = s.first.count; enough = omega arith; few = tt; repeats = s.first.repeats }; steps = s.steps; few = omega (arith, x, l); second = s.second })

  none_more : (n m : ℕ) (text : List ℕ) → n ≤ m → LeadsIn all n next text → SplitsIn all (RepeatsWithin Member 0 None) next m text
  none_more n m text l h = record { front = []; rest = text; is = refl; first = record { count = 0; enough = omega arith; few = tt; repeats = refl }; steps = n; few = l; second = h }

  turns_sound : (most n : ℕ) (text : List ℕ) → n ≤ most → LeadsIn all n turns text → SplitsIn all (RepeatsWithin Member 0 None) next n text
  turns_sound most zero text l h = absurd (let e = h.0 in omega (arith, e, some))
  turns_sound zero (suc n) text l h = absurd (omega arith)
  turns_sound (suc most) (suc n) text l h = elim (goes all n turns w text at h) [
    | inl f ↦ elim (two_in entry next f.target (subst (λ ts. Contains ts f.target) free f.among)) [
      | inl e ↦ (let s = body.sound n text (subst (λ t. LeadsIn all n t text) (sym e) f.rest) in let x = s.few in fewer n (suc n) text (omega arith) (one_more n text s (turns_sound most s.steps s.rest (omega (arith, x, l)) s.second)))
      | inr e ↦ none_more n (suc n) text (omega arith) (subst (λ t. LeadsIn all n t text) (sym e) f.rest)
    ]
    | inr r ↦ absurd (let e : None ≡ Some r.next = sym (none r.scalar) ∙ r.to in cc)
  ]

  turns_complete : (count : ℕ) (front rest : List ℕ) → Repeats Member count front → LeadsFrom all next rest → LeadsFrom all turns (front ++ rest)
  turns_complete zero front rest r h =
      goes_free all turns next w (front ++ rest) at (subst (λ ts. Contains ts next) (sym free) (second_in entry next)) (subst (λ x. LeadsFrom all next (x ++ rest)) (sym r) h)
  turns_complete (suc count) front rest r h =
      let behind = turns_complete count r.rest rest r.second h in
      let is : front ++ rest ≡ r.front ++ (r.rest ++ rest) = ap (λ x. x ++ rest) r.is ∙ append_assoc r.front r.rest rest in
      goes_free all turns entry w (front ++ rest) at (subst (λ ts. Contains ts entry) (sym free) (first_in entry next))
      (body.complete (front ++ rest) (record { front = r.front; rest = r.rest ++ rest; is = is; first = r.first; second = behind }))

  some_complete : (count : ℕ) (front rest : List ℕ) → 1 ≤ count → Repeats Member count front → LeadsFrom all next rest → LeadsFrom all entry (front ++ rest)
  some_complete zero front rest l r h = absurd (omega arith)
  some_complete (suc count) front rest l r h =
      let behind = turns_complete count r.rest rest r.second h in
      let is : front ++ rest ≡ r.front ++ (r.rest ++ rest) = ap (λ x. x ++ rest) r.is ∙ append_assoc r.front r.rest rest in
      body.complete (front ++ rest) (record { front = r.front; rest = r.rest ++ rest; is = is; first = r.first; second = behind })

  any_turns : IsEntry all (RepeatsWithin Member 0 None) next turns
  any_turns = record {
    sound = λ n text h. turns_sound n n text (omega arith) h;
    complete = λ text s. subst (LeadsFrom all turns) (sym s.is) (turns_complete s.first.count s.front s.rest s.first.repeats s.second);
  }

  some_turns : IsEntry all (RepeatsWithin Member 1 None) next entry
  some_turns = record {
    sound = λ n text h. (let s = body.sound n text h in one_more n text s (turns_sound s.steps s.steps s.rest (omega arith) s.second));
    complete = λ text s. subst (LeadsFrom all entry) (sym s.is) (some_complete s.first.count s.front s.rest s.first.enough s.first.repeats s.second);
  }

-- the state that was first is told where it leads
node_set : (states : List State) (k s : ℕ) (w v : State) → (s ≡ k → ⊥) → node_at states s ≡ Some v → node_at (set states k w) s ≡ Some v
node_set [] k s w v other is = absurd (cc)
node_set (x ∷ states) zero zero w v other is = absurd (other refl)
node_set (x ∷ states) zero (suc s) w v other is = is
node_set (x ∷ states) (suc k) zero w v other is = is
node_set (x ∷ states) (suc k) (suc s) w v other is = node_set states k s w v (λ e. other (ap suc e)) is

node_there : (states : List State) (k : ℕ) (w : State) → k < length states → node_at (set states k w) k ≡ Some w
node_there [] k w l = absurd (omega arith)
node_there (x ∷ states) zero w l = refl
node_there (x ∷ states) (suc k) w l = node_there states k w (omega arith)

module _ (old mid new all : List State) (Member : List ℕ → Type 0) (first w : State) (next turns entry : ℕ) (len : turns ≡ length old) (mid_is : mid ≡ old ++ first ∷ []) (body : AddsEntry mid new Member turns entry) (free : free_of w ≡ entry ∷ next ∷ []) (none : (c : ℕ) → behind_of w c ≡ None) where
  mid_length : length mid ≡ length old + 1
  mid_length = ap length mid_is ∙ length-append old (first ∷ [])

  extends_star : Extends old (set new turns w)
  extends_star = record {
    longer = (let x = body.extends.longer in let y = length-set new turns w in omega (arith, x, y, mid_length));
    kept = λ s v l is. (let inside = node_inside old s v is in
        node_set new turns s w v (λ e. omega (arith, e, len, inside))
        (body.extends.kept s v l (subst (λ x. node_at x s ≡ Some v) (sym mid_is) (node_kept old (first ∷ []) s v is))));
  }

  star_body : 0 < length old → AgreeFrom (length old) (set new turns w) all → IsEntry all Member turns entry
  star_body some agree = body.laid all (omega (arith, some, mid_length)) (λ s v l is. agree s v (omega (arith, l, mid_length)) (node_set new turns s w v (λ e. omega (arith, e, len, l, mid_length)) is))

  star_state : AgreeFrom (length old) (set new turns w) all → node_at all turns ≡ Some w
  star_state agree = (let x = body.extends.longer in agree turns w (omega (arith, len)) (node_there new turns w (omega (arith, len, x, mid_length))))

  star_any : 0 < length old → AgreeFrom (length old) (set new turns w) all → IsEntry all (RepeatsWithin Member 0 None) next turns
  star_any some agree = any_turns all Member w next turns entry (omega (arith, some, len)) (star_state agree) free none (star_body some agree)

  star_some : 0 < length old → AgreeFrom (length old) (set new turns w) all → IsEntry all (RepeatsWithin Member 1 None) next entry
  star_some some agree = some_turns all Member w next turns entry (omega (arith, some, len)) (star_state agree) free none (star_body some agree)

-- any number of turns, or once at least
pub entry_star : (old mid new : List State) (Member : List ℕ → Type 0) (first w : State) (next turns entry least : ℕ) → turns ≡ length old → mid ≡ old ++ first ∷ [] → AddsEntry mid new Member turns entry → IsFan w (entry ∷ next ∷ []) → least ≡ 0
    → AddsEntry old (set new turns w) (RepeatsWithin Member (least - (least - 1)) None) next turns
entry_star old mid new Member first w next turns entry least len mid_is body fan is =
    let none : least - (least - 1) ≡ 0 = omega (arith, is) in
    subst (λ m. AddsEntry old (set new turns w) (RepeatsWithin Member m None) next turns) (sym none) (record {
      extends = extends_star old mid new old Member first w next turns entry len mid_is body fan.free fan.behind;
      laid = λ all some agree. star_any old mid new all Member first w next turns entry len mid_is body fan.free fan.behind some agree;
    })

pub entry_plus : (old mid new : List State) (Member : List ℕ → Type 0) (first w : State) (next turns entry least : ℕ) → turns ≡ length old → mid ≡ old ++ first ∷ [] → AddsEntry mid new Member turns entry → IsFan w (entry ∷ next ∷ []) → 1 ≤ least
    → AddsEntry old (set new turns w) (RepeatsWithin Member (least - (least - 1)) None) next entry
entry_plus old mid new Member first w next turns entry least len mid_is body fan some_turns =
    let one : least - (least - 1) ≡ 1 = omega (arith, some_turns) in
    subst (λ m. AddsEntry old (set new turns w) (RepeatsWithin Member m None) next entry) (sym one) (record {
      extends = extends_star old mid new old Member first w next turns entry len mid_is body fan.free fan.behind;
      laid = λ all some agree. star_some old mid new all Member first w next turns entry len mid_is body fan.free fan.behind some agree;
    })

-- ---- the whole

-- the end is where nothing is left
at_end : (states : List State) (w : State) (n : ℕ) (text : List ℕ) → node_at states 0 ≡ Some w → IsFan w [] → LeadsIn states n 0 text → text ≡ []
at_end states w zero text at fan h = h.1
at_end states w (suc n) text at fan h = elim (goes states n 0 w text at h) [
  | inl f ↦ absurd (none_in f.target (subst (λ ts. Contains ts f.target) fan.free f.among))
  | inr r ↦ absurd (let e : None ≡ Some r.next = sym (fan.behind r.scalar) ∙ r.to in cc)
]

pub spelled : (old mid new : List State) (Member : List ℕ → Type 0) (w : State) (next entry : ℕ) → old ≡ [] → mid ≡ old ++ w ∷ [] → next ≡ length old → IsFan w [] → AddsEntry mid new Member next entry → (text : List ℕ) → LeadsFrom new entry text ↔ Member text
spelled old mid new Member w next entry none is len fan a text =
    let first : next ≡ 0 = len ∙ ap length none in
    let one : mid ≡ w ∷ [] = is ∙ ap (λ x. x ++ w ∷ []) none in
    let some : 0 < length mid = (let l = ap length one in omega (arith, l)) in
    let at : node_at new 0 ≡ Some w = a.extends.kept 0 w (omega arith) (ap (λ x. node_at x 0) one) in
    let l = a.laid new some (λ s v low at. at) in (
      (λ h. let s = l.sound h.steps text h.run in
          let rest = at_end new w s.steps s.rest at fan (subst (λ t. LeadsIn new s.steps t s.rest) first s.second) in
          subst Member (sym (s.is ∙ ap (λ x. s.front ++ x) rest ∙ append-nil s.front)) s.first),
      (λ m. l.complete text (record { front = text; rest = []; is = sym (append-nil text); first = m; second = record { steps = 0; run = (first, refl) } })),
    )
