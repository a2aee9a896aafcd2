-- Branches that are merged after their first scalars.
use Rattle.std.proofs.Common.{◌≡◌, ℕ, zero, suc, ◌+◌, ◌<◌, ◌≤◌, inl, inr, true, List, [], ◌∷◌, ◌++◌, length, get_or, Option, Some, None, arith, refl, sym, ◌∙◌, ap, subst, length-append}
use Rattle.std.specs.List.{Contains}
use Rattle.std.proofs.lemmas.Bool.{eqb-true, eq-eqb}
use Rattle.std.proofs.lemmas.List.Elements.{Contains-push, Contains-push_cases, Contains-append_left}
use Rattle.jp_model.specs.Pattern.Classes.{in_class}
use Rattle.jp_iregexp.specs.declared.branches.First.{First}
use Rattle.jp_iregexp.specs.declared.graph.State.{State}
use Rattle.jp_iregexp.specs.declared.graph.State.TheVariants.{Scalar}
use Rattle.jp_iregexp.specs.Branches.{IsFirst, SomeFirst, BeginsAs, AreTold, IsRow, LeadsAsRow, AddsNext, FirstLeadsIn, LeadsAsFirsts, AddsNexts}
use Rattle.jp_iregexp.specs.Graphs.{node_at, free_of, behind_of, IsFan, Reads, Goes, LeadsIn, LeadsFrom, SomeLeads, SomeLeadsIn, AgreeFrom, Extends, Merges}
use Rattle.jp_iregexp.specs.Nodes.{class_of}
use Rattle.jp_iregexp.proofs.Bits.{below_or_not, same_or_not}
use Rattle.jp_iregexp.proofs.Sums.{some_same}
use Rattle.jp_iregexp.proofs.Entering.{node_last, extends_none, extends_on, extends_push, goes, goes_free, goes_read, when_some, when_true}

-- nothing is in an empty list
pub nothing_in : {X : Type 0} (x : X) → Contains [] x → ⊥
nothing_in x h = (let l = h.1 in omega (arith, l))

-- ---- told apart

some_first_more : (states : List State) (base : ℕ) (branches : List ℕ) (branch : ℕ) (first : First) → SomeFirst states base branches first → SomeFirst states base (branches ++ branch ∷ []) first
some_first_more states base branches branch first s = record { branch = s.branch; among = Contains-append_left branches (branch ∷ []) s.branch s.among; begins = s.begins }

pub told_first : (states : List State) (base : ℕ) (branches : List ℕ) (firsts more : List First) (others : List ℕ) (branch : ℕ) (first : First) → more ≡ firsts ++ first ∷ [] → IsFirst states base branch first → AreTold states base branches firsts others → AreTold states base (branches ++ branch ∷ []) more others
told_first states base branches firsts more others branch first is begins a = record {
  firsts_sound = λ f h. elim (Contains-push_cases firsts first f (subst (λ fs. Contains fs f) is h)) [
    | inl i ↦ some_first_more states base branches branch f (a.firsts_sound f i)
    | inr e ↦ subst (SomeFirst states base (branches ++ branch ∷ [])) e (let s : SomeFirst states base (branches ++ branch ∷ []) first = record { branch = branch; among = Contains-push branches branch; begins = begins } in s)
  ];
  others_sound = λ b h. Contains-append_left branches (branch ∷ []) b (a.others_sound b h);
  complete = λ b h. elim (Contains-push_cases branches branch b h) [
    | inl i ↦ elim (a.complete b i) [
      | inl k ↦ inl k
      | inr k ↦ inr (let s : BeginsAs states base more b = record { first = k.first; among = subst (λ fs. Contains fs k.first) (sym is) (Contains-append_left firsts (first ∷ []) k.first k.among); begins = k.begins } in s)
    ]
    | inr e ↦ inr (subst (BeginsAs states base more) e (let s : BeginsAs states base more branch = record { first = first; among = subst (λ fs. Contains fs first) (sym is) (Contains-push firsts first); begins = begins } in s))
  ];
}

pub told_other : (states : List State) (base : ℕ) (branches : List ℕ) (firsts : List First) (others more : List ℕ) (branch : ℕ) → more ≡ others ++ branch ∷ [] → AreTold states base branches firsts others → AreTold states base (branches ++ branch ∷ []) firsts more
told_other states base branches firsts others more branch is a = record {
  firsts_sound = λ f h. some_first_more states base branches branch f (a.firsts_sound f h);
  others_sound = λ b h. elim (Contains-push_cases others branch b (subst (λ x. Contains x b) is h)) [
    | inl i ↦ Contains-append_left branches (branch ∷ []) b (a.others_sound b i)
    | inr e ↦ subst (Contains (branches ++ branch ∷ [])) e (Contains-push branches branch)
  ];
  complete = λ b h. elim (Contains-push_cases branches branch b h) [
    | inl i ↦ elim (a.complete b i) [ inl k ↦ inl (subst (λ x. Contains x b) (sym is) (Contains-append_left others (branch ∷ []) b k)) | inr k ↦ inr k ]
    | inr e ↦ inl (subst (λ x. Contains x b) (sym is) (subst (Contains (others ++ branch ∷ [])) e (Contains-push others branch)))
  ];
}

-- ---- rows

pub row_none : (code : ℕ) → IsRow [] code []
row_none code = record { sound = λ t h. absurd (nothing_in t h); complete = λ f h e. absurd (nothing_in f h) }

pub row_take : (firsts : List First) (code : ℕ) (row more : List ℕ) (first : First) → first.scalar ≡ code → more ≡ row ++ first.next ∷ [] → IsRow firsts code row → IsRow (firsts ++ first ∷ []) code more
row_take firsts code row more first same is a = record {
  sound = λ t h. elim (Contains-push_cases row first.next t (subst (λ x. Contains x t) is h)) [
    | inl i ↦ Contains-append_left firsts (first ∷ []) _ (a.sound t i)
    | inr e ↦ subst (Contains (firsts ++ first ∷ [])) (λ i. record { scalar = same i; next = e i }) (Contains-push firsts first)
  ];
  complete = λ f h e. subst (λ x. Contains x f.next) (sym is) (elim (Contains-push_cases firsts first f h) [
    | inl i ↦ Contains-append_left row (first.next ∷ []) f.next (a.complete f i e)
    | inr k ↦ subst (Contains (row ++ first.next ∷ [])) (ap (λ (g : First). g.next) k) (Contains-push row first.next)
  ]);
}

pub row_skip : (firsts : List First) (code : ℕ) (row : List ℕ) (first : First) → (first.scalar ≡ code → ⊥) → IsRow firsts code row → IsRow (firsts ++ first ∷ []) code row
row_skip firsts code row first other a = record {
  sound = λ t h. Contains-append_left firsts (first ∷ []) _ (a.sound t h);
  complete = λ f h e. elim (Contains-push_cases firsts first f h) [
    | inl i ↦ a.complete f i e
    | inr k ↦ absurd (other (ap (λ (g : First). g.scalar) k ∙ e))
  ];
}

-- ---- what a row leads to

pub next_some : (base : ℕ) (old new : List State) (row : List ℕ) (entry : ℕ) → Merges base old new row entry → AddsNext base old new row (Some entry)
next_some base old new row entry m = record {
  extends = m.extends;
  laid = λ all some agree. (let a = m.laid all some agree in record {
    sound = λ k n text is h. a.sound n text (subst (λ t. LeadsIn all n t text) (sym (some_same is)) h);
    complete = λ text s. record { number = entry; is = refl; leads = a.complete text s };
  });
}

pub nexts_none : (base : ℕ) (old : List State) (firsts : List First) (nexts : List (Option ℕ)) → nexts ≡ [] → AddsNexts base old old firsts nexts 0
nexts_none base old firsts nexts none = record { extends = extends_none old; size = ap length none; laid = λ all some agree c l. absurd (omega arith) }

agree_mid : (base : ℕ) (mid new all : List State) → Extends mid new → AgreeFrom base new all → AgreeFrom base mid all
agree_mid base mid new all e a = λ s w l is. a s w l (e.kept s w (omega arith) is)

pub nexts_more : (base : ℕ) (old mid new : List State) (firsts : List First) (nexts more : List (Option ℕ)) (row : List ℕ) (code : ℕ) (found : Option ℕ) → more ≡ nexts ++ found ∷ [] → IsRow firsts code row → AddsNexts base old mid firsts nexts code → AddsNext base mid new row found → AddsNexts base old new firsts more (code + 1)
nexts_more base old mid new firsts nexts more row code found is r a b = record {
  extends = extends_on old mid new a.extends b.extends;
  size = ap length is ∙ length-append nexts (found ∷ []) ∙ ap (λ n. n + 1) a.size;
  laid = λ all some agree c l. elim (same_or_not c code) [
    | inl e ↦ subst (LeadsAsFirsts all firsts c) (sym (ap (λ x. get_or x c None) is ∙ last nexts found c (e ∙ sym a.size))) (here all c e (b.laid all some agree))
    | inr d ↦ subst (LeadsAsFirsts all firsts c) (sym (ap (λ x. get_or x c None) is ∙ front nexts found c (let z = a.size in omega (arith, l, d, z)))) (a.laid all some (agree_mid base mid new all b.extends agree) c (omega (arith, l, d)))
  ];
}
  where
    last : (xs : List (Option ℕ)) (x : Option ℕ) (i : ℕ) → i ≡ length xs → get_or (xs ++ x ∷ []) i None ≡ x
    last [] x zero e = refl
    last [] x (suc i) e = absurd (omega arith)
    last (y ∷ xs) x zero e = absurd (omega arith)
    last (y ∷ xs) x (suc i) e = last xs x i (omega arith)

    front : (xs : List (Option ℕ)) (x : Option ℕ) (i : ℕ) → i < length xs → get_or (xs ++ x ∷ []) i None ≡ get_or xs i None
    front [] x i l = absurd (omega arith)
    front (y ∷ xs) x zero l = refl
    front (y ∷ xs) x (suc i) l = front xs x i (omega arith)

    here : (all : List State) (c : ℕ) → c ≡ code → LeadsAsRow all row found → LeadsAsFirsts all firsts c found
    here all c e k = record {
      sound = λ k' n text is h. (let s = k.sound k' n text is h in record { next = s.number; among = subst (λ d. Contains firsts (record { scalar = d; next = s.number })) (sym e) (r.sound s.number s.among); steps = s.steps; few = s.few; run = s.run });
      complete = λ first text among same h. k.complete text (record { number = first.next; among = r.complete first among (same ∙ e); leads = h });
    }

-- ---- the switch

beyond : (xs : List (Option ℕ)) (i : ℕ) → length xs ≤ i → get_or xs i None ≡ None
beyond [] i l = refl
beyond (x ∷ xs) zero l = absurd (omega arith)
beyond (x ∷ xs) (suc i) l = beyond xs i (omega arith)

module _ (base : ℕ) (old mid late new all : List State) (branches others : List ℕ) (firsts : List First) (nexts : List (Option ℕ)) (v w : State) (k j : ℕ) (some : 0 < base) (low : base ≤ length old) (told : AreTold old base branches firsts others) (adds : AddsNexts base old mid firsts nexts 128)
    (k_is : k ≡ length mid) (late_is : late ≡ mid ++ v ∷ []) (free : free_of v ≡ []) (behind : (c : ℕ) → behind_of v c ≡ get_or nexts c None) (j_is : j ≡ length late) (new_is : new ≡ late ++ w ∷ []) (fan : IsFan w (others ++ k ∷ [])) (agree : AgreeFrom base new all) where
  from_mid : Extends mid new
  from_mid = extends_on mid late new (extends_push mid late v late_is) (extends_push late new w new_is)

  above : 0 < k
  above = (let x = adds.extends.longer in omega (arith, some, low, x, k_is))

  late_size : length late ≡ length mid + 1
  late_size = ap length late_is ∙ length-append mid (v ∷ [])

  at_k : node_at all k ≡ Some v
  at_k = (let x = adds.extends.longer in agree k v (omega (arith, low, x, k_is)) ((extends_push late new w new_is).kept k v (omega arith) (subst (λ x. node_at x k ≡ Some v) (sym late_is) (node_last mid v k k_is))))

  at_j : node_at all j ≡ Some w
  at_j = (let x = adds.extends.longer in agree j w (omega (arith, low, x, j_is, late_size)) (subst (λ x. node_at x j ≡ Some w) (sym new_is) (node_last late w j j_is)))

  at_branch : (b : ℕ) (first : First) (i : IsFirst old base b first) → node_at all b ≡ Some (Scalar i.class first.next)
  at_branch b first i = agree b (Scalar i.class first.next) i.from (from_mid.kept b _ (omega arith) (adds.extends.kept b _ (omega arith) i.is))

  rows : (c : ℕ) → c < 128 → LeadsAsFirsts all firsts c (get_or nexts c None)
  rows = adds.laid all some (agree_mid base mid new all from_mid agree)

  ascii_only : (c next : ℕ) → get_or nexts c None ≡ Some next → c < 128
  ascii_only c next is = elim (below_or_not c 128) [
    | inl l ↦ l
    | inr l ↦ absurd (let e : None ≡ Some next = sym (beyond nexts c (let z = adds.size in omega (arith, z, l))) ∙ is in cc)
  ]

  by_first : (n c : ℕ) (rest : List ℕ) → FirstLeadsIn all firsts c n rest → SomeLeadsIn all branches (suc n) (c ∷ rest)
  by_first n c rest f =
      let first : First = record { scalar = c; next = f.next } in
      let s = told.firsts_sound first f.among in
      let i = s.begins in
      let few = f.few in
      let takes : in_class (class_of i.class) c ≡ true = i.only c ∙ eq-eqb c c refl in
      let r : Reads (Scalar i.class f.next) (λ t x. LeadsIn all f.steps t x) (c ∷ rest) = record { scalar = c; behind = rest; is = refl; next = f.next; to = when_true (in_class (class_of i.class) c) f.next takes; rest = f.run } in
      record { number = s.branch; among = s.among; steps = suc f.steps; few = omega (arith, few); run = subst (λ o. Goes o (λ t x. LeadsIn all f.steps t x) (c ∷ rest)) (sym (at_branch s.branch first i)) (inr r) }

  by_switch : (n : ℕ) (text : List ℕ) → LeadsIn all n k text → SomeLeadsIn all branches n text
  by_switch zero text h = absurd (let e = h.0 in omega (arith, e, above))
  by_switch (suc n) text h = elim (goes all n k v text at_k h) [
    | inl f ↦ absurd (nothing_in f.target (subst (λ ts. Contains ts f.target) free f.among))
    | inr r ↦ (let to = sym (behind r.scalar) ∙ r.to in
        subst (SomeLeadsIn all branches (suc n)) (sym r.is) (by_first n r.scalar r.behind ((rows r.scalar (ascii_only r.scalar r.next to)).sound r.next n r.behind to r.rest)))
  ]

  switch_sound : (n : ℕ) (text : List ℕ) → LeadsIn all n j text → SomeLeadsIn all branches n text
  switch_sound zero text h = absurd (let e = h.0 in let x = above in omega (arith, e, x, k_is, j_is, late_size))
  switch_sound (suc n) text h = elim (goes all n j w text at_j h) [
    | inl f ↦ elim (Contains-push_cases others k f.target (subst (λ ts. Contains ts f.target) fan.free f.among)) [
      | inl i ↦ record { number = f.target; among = told.others_sound f.target i; steps = n; few = omega arith; run = f.rest }
      | inr e ↦ (let s = by_switch n text (subst (λ t. LeadsIn all n t text) (sym e) f.rest) in let few = s.few in record { number = s.number; among = s.among; steps = s.steps; few = omega (arith, few); run = s.run })
    ]
    | inr r ↦ absurd (let e : None ≡ Some r.next = sym (fan.behind r.scalar) ∙ r.to in cc)
  ]

  to_switch : (text : List ℕ) → LeadsFrom all k text → LeadsFrom all j text
  to_switch text h = goes_free all j k w text at_j (subst (λ ts. Contains ts k) (sym fan.free) (Contains-push others k)) h

  first_complete : (b : ℕ) (first : First) → Contains firsts first → IsFirst old base b first → (n : ℕ) (text : List ℕ) → LeadsIn all n b text → LeadsFrom all j text
  first_complete b first among i zero text h = absurd (let e = h.0 in let l = i.from in omega (arith, e, l, some))
  first_complete b first among i (suc n) text h = elim (goes all n b (Scalar i.class first.next) text (at_branch b first i) h) [
    | inl f ↦ absurd (nothing_in f.target f.among)
    | inr r ↦ (let t = when_some (in_class (class_of i.class) r.scalar) first.next r.next r.to in
        let same : r.scalar ≡ first.scalar = eqb-true r.scalar first.scalar (sym (i.only r.scalar) ∙ t.0) in
        let after : LeadsFrom all first.next r.behind = record { steps = n; run = subst (λ x. LeadsIn all n x r.behind) (sym t.1) r.rest } in
        let found = (rows first.scalar i.ascii).complete first r.behind among refl after in
        to_switch text (subst (LeadsFrom all k) (sym r.is)
        (goes_read all k r.scalar found.number v r.behind at_k (behind r.scalar ∙ ap (λ c. get_or nexts c None) same ∙ found.is) found.leads)))
  ]

  switch_complete : (text : List ℕ) → SomeLeads all branches text → LeadsFrom all j text
  switch_complete text s = elim (told.complete s.number s.among) [
    | inl i ↦ goes_free all j s.number w text at_j (subst (λ ts. Contains ts s.number) (sym fan.free) (Contains-append_left others (k ∷ []) s.number i)) s.leads
    | inr f ↦ first_complete s.number f.first f.among f.begins s.leads.steps text s.leads.run
  ]

pub merges_switch : (base : ℕ) (old mid late new : List State) (branches others : List ℕ) (firsts : List First) (nexts : List (Option ℕ)) (v w : State) (k j : ℕ) → base ≤ length old → AreTold old base branches firsts others → AddsNexts base old mid firsts nexts 128
    → k ≡ length mid → late ≡ mid ++ v ∷ [] → free_of v ≡ [] → ((c : ℕ) → behind_of v c ≡ get_or nexts c None) → j ≡ length late → new ≡ late ++ w ∷ [] → IsFan w (others ++ k ∷ []) → Merges base old new branches j
merges_switch base old mid late new branches others firsts nexts v w k j low told adds k_is late_is free behind j_is new_is fan = record {
  extends = extends_on old mid new adds.extends (extends_on mid late new (extends_push mid late v late_is) (extends_push late new w new_is));
  laid = λ all some agree. record {
    sound = switch_sound base old mid late new all branches others firsts nexts v w k j some low told adds k_is late_is free behind j_is new_is fan agree;
    complete = switch_complete base old mid late new all branches others firsts nexts v w k j some low told adds k_is late_is free behind j_is new_is fan agree;
  };
}
