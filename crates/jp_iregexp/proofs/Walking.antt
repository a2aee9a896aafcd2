-- Runs of a text through a graph.
use Rattle.std.proofs.Common.{◌≡◌, ℕ, zero, suc, ◌+◌, ◌<◌, ◌≤◌, ◌⊎◌, ◌↔◌, inl, inr, List, [], ◌∷◌, length, get_or, slice_index, slice_index_or, Option, Some, None, arith, refl, sym, ◌∙◌, ap, subst}
use Rattle.std.specs.List.{Contains}
use Rattle.jp_iregexp.specs.declared.graph.State.{State}
use Rattle.jp_iregexp.specs.declared.waiting.Waiting.{Waiting}
use Rattle.jp_iregexp.specs.Graphs.{node_at, free_of, behind_of, Frees, Reads, Goes, LeadsIn, LeadsFrom, SomeLeads}
use Rattle.jp_iregexp.specs.Waiting.{IsMarked, Adds, FreeTo, ReadsTo, Closes, IsReady, SomeReads, AreBehind}
use Rattle.jp_iregexp.proofs.Bits.{same_or_not}
use Rattle.jp_iregexp.proofs.Sums.{some_same}
use Rattle.jp_iregexp.proofs.Entering.{goes_free, goes_read, node_inside, none_in, one_in, only_in}

-- ---- a step, opened

pub record Opened (states : List State) (n s : ℕ) (text : List ℕ) : Type 0 where
  pub state : State
  pub is : node_at states s ≡ Some state
  pub goes : Frees state (λ t. LeadsIn states n t text) ⊎ Reads state (λ t rest. LeadsIn states n t rest) text

pub opened : (states : List State) (n s : ℕ) (text : List ℕ) → LeadsIn states (suc n) s text → Opened states n s text
opened states n s text h = open_at (node_at states s) refl h
  where
    open_at : (o : Option State) → node_at states s ≡ o → Goes o (λ t rest. LeadsIn states n t rest) text → Opened states n s text
    open_at None is h = absurd h
    open_at (Some w) is h = record { state = w; is = is; goes = h }

pub leads_inside : (states : List State) (n s : ℕ) (text : List ℕ) → 0 < length states → LeadsIn states n s text → s < length states
leads_inside states zero s text some h = (let e = h.0 in omega (arith, e, some))
leads_inside states (suc n) s text some h = (let o = opened states n s text h in node_inside states s o.state o.is)

-- ---- a state by its number

pub node_here : (states : List State) (k : ℕ) (w : State) → k < length states → w ≡ get_or states k w → node_at states k ≡ Some w
node_here [] k w l is = absurd (omega arith)
node_here (v ∷ states) zero w l is = ap Some (sym is)
node_here (v ∷ states) (suc k) w l is = node_here states k w (omega arith) is

no_node : (states : List State) (k : ℕ) (w : State) → length states ≤ k → node_at states k ≡ Some w → ⊥
no_node states k w out is = (let l = node_inside states k w is in omega (arith, l, out))

same_node : (states : List State) (k : ℕ) (v w : State) → node_at states k ≡ Some v → node_at states k ≡ Some w → v ≡ w
same_node states k v w a b = some_same (sym a ∙ b)

pub free_some : (states : List State) (k : ℕ) (w : State) (targets : List ℕ) → k < length states → w ≡ get_or states k w → targets ≡ free_of w → (t : ℕ) → Contains targets t ↔ FreeTo states k t
free_some states k w targets l here is t = (
  (λ h. record { state = w; is = node_here states k w l here; among = subst (λ ts. Contains ts t) is h }),
  (λ f. subst (λ ts. Contains ts t) (sym is) (subst (λ v. Contains (free_of v) t) (same_node states k f.state w f.is (node_here states k w l here)) f.among)),
)

pub free_none : (states : List State) (k : ℕ) → length states ≤ k → (t : ℕ) → Contains [] t ↔ FreeTo states k t
free_none states k out t = ((λ h. absurd (none_in t h)), (λ f. absurd (no_node states k f.state out f.is)))

pub behind_some : (states : List State) (k c : ℕ) (w : State) (result : Option ℕ) → k < length states → w ≡ get_or states k w → result ≡ behind_of w c → (t : ℕ) → (result ≡ Some t) ↔ ReadsTo states c k t
behind_some states k c w result l here is t = (
  (λ h. record { state = w; is = node_here states k w l here; to = sym is ∙ h }),
  (λ r. is ∙ ap (λ v. behind_of v c) (sym (same_node states k r.state w r.is (node_here states k w l here))) ∙ r.to),
)

pub behind_none : (states : List State) (k c : ℕ) → length states ≤ k → (t : ℕ) → (None ≡ Some t) ↔ ReadsTo states c k t
behind_none states k c out t = ((λ h. absurd (cc)), (λ r. absurd (no_node states k r.state out r.is)))

-- ---- what closed lists read

pub record ReadsOn (states : List State) (list : List ℕ) (c : ℕ) (rest : List ℕ) : Type 0 where
  pub target : ℕ
  pub reads : SomeReads states list c target
  pub leads : LeadsFrom states target rest

module _ (states : List State) (list : List ℕ) (some : 0 < length states) (closed : (s t : ℕ) → Contains list s → FreeTo states s t → t < length states → Contains list t) where
  read_on : (n s c : ℕ) (rest : List ℕ) → Contains list s → LeadsIn states n s (c ∷ rest) → ReadsOn states list c rest
  read_on zero s c rest among h = absurd (let e = h.1 in cc)
  read_on (suc n) s c rest among h = (let o = opened states n s (c ∷ rest) h in elim o.goes [
    | inl f ↦ read_on n f.target c rest (closed s f.target among (record { state = o.state; is = o.is; among = f.among }) (leads_inside states n f.target (c ∷ rest) some f.rest)) f.rest
    | inr r ↦ (let same : r.scalar ≡ c = (let e = r.is in cc) in
        let tail : r.behind ≡ rest = (let e = r.is in cc) in record {
          target = r.next;
          reads = record { from = s; among = among; reads = record { state = o.state; is = o.is; to = subst (λ d. behind_of o.state d ≡ Some r.next) same r.to } };
          leads = record { steps = n; run = subst (λ x. LeadsIn states n r.next x) tail r.rest };
        })
  ])

  ends : (n s : ℕ) → Contains list s → LeadsIn states n s [] → Contains list 0
  ends zero s among h = subst (Contains list) h.0 among
  ends (suc n) s among h = (let o = opened states n s [] h in elim o.goes [
    | inl f ↦ ends n f.target (closed s f.target among (record { state = o.state; is = o.is; among = f.among }) (leads_inside states n f.target [] some f.rest)) f.rest
    | inr r ↦ absurd (let e = r.is in cc)
  ])

  -- the end is there if nothing is left
  at_end : SomeLeads states list [] ↔ Contains list 0
  at_end = (
    (λ h. ends h.leads.steps h.number h.among h.leads.run),
    (λ h. record { number = 0; among = h; leads = record { steps = 0; run = (refl, refl) } }),
  )

  -- a scalar is read
  reads : (c : ℕ) (rest : List ℕ) (next : Waiting) → AreBehind states list c next → SomeLeads states list (c ∷ rest) ↔ SomeLeads states next.list.items rest
  reads c rest next b = (
    (λ h. let r = read_on h.leads.steps h.number c rest h.among h.leads.run in record {
      number = r.target;
      among = b.complete r.target r.reads (leads_inside states r.leads.steps r.target rest some r.leads.run);
      leads = r.leads;
    }),
    (λ h. let r = b.sound h.number h.among in record { number = r.from; among = r.among; leads = goes_read states r.from c h.number r.reads.state rest r.reads.is r.reads.to h.leads }),
  )

-- what is added without a scalar leads nowhere else
pub closes : (states : List State) (old new : Waiting) (text : List ℕ) → Closes states old new → SomeLeads states old.list.items text ↔ SomeLeads states new.list.items text
closes states old new text k = ((λ h. record { number = h.number; among = k.kept h.number h.among; leads = h.leads }), k.sound text)

-- ---- the closing

-- what the first states of the list lead to was added
pub record IsClosing (states : List State) (old now : Waiting) (turn : ℕ) : Type 0 where
  pub marked : IsMarked now
  pub size : length now.has.items ≡ length old.has.items
  pub within : turn ≤ length now.list.items
  pub kept : (s : ℕ) → Contains old.list.items s → Contains now.list.items s
  pub sound : (text : List ℕ) → SomeLeads states now.list.items text → SomeLeads states old.list.items text
  pub done : (i t : ℕ) → i < turn → FreeTo states (slice_index now.list.items i) t → t < length states → Contains now.list.items t

pub closing_start : (states : List State) (old : Waiting) → IsMarked old → IsClosing states old old 0
closing_start states old marked = record { marked = marked; size = refl; within = omega arith; kept = λ s h. h; sound = λ text h. h; done = λ i t l f out. absurd (omega arith) }

contains_at : (xs : List ℕ) (i : ℕ) → i < length xs → Contains xs (slice_index xs i)
contains_at xs i l = (i, l, same_default xs i l)
  where
    same_default : (xs : List ℕ) (i : ℕ) → i < length xs → slice_index_or xs i (slice_index xs i) ≡ slice_index xs i
    same_default [] i l = absurd (omega arith)
    same_default (x ∷ xs) zero l = refl
    same_default (x ∷ xs) (suc i) l = same_default xs i (omega arith)

at_index : (xs : List ℕ) (i d : ℕ) → i < length xs → slice_index_or xs i d ≡ slice_index xs i
at_index [] i d l = absurd (omega arith)
at_index (x ∷ xs) zero d l = refl
at_index (x ∷ xs) (suc i) d l = at_index xs i d (omega arith)

pub closing_step : (states : List State) (old now new : Waiting) (turn number : ℕ) (targets : List ℕ) → turn < length now.list.items → number ≡ slice_index now.list.items turn → length old.has.items ≡ length states
    → ((t : ℕ) → Contains targets t ↔ FreeTo states number t) → Adds targets now new → IsClosing states old now turn → IsClosing states old new (turn + 1)
closing_step states old now new turn number targets inside is sized free a k =
    let x = a.longer in
    record {
      marked = a.marked;
      size = a.size ∙ k.size;
      within = omega (arith, x, inside);
      kept = λ s h. a.kept s (k.kept s h);
      sound = λ text h. k.sound text (before text h);
      done = λ i t l f out. elim (below_or_last i turn l) [
        | inl less ↦ a.kept t (k.done i t less (subst (λ s. FreeTo states s t) (a.before i (omega (arith, less, inside))) f) out)
        | inr e ↦ a.all t ((free t).1 (subst (λ s. FreeTo states s t) (ap (slice_index new.list.items) e ∙ a.before turn inside ∙ sym is) f)) (let y = k.size in omega (arith, y, sized, out))
      ];
    }
  where
    below_or_last : (i turn : ℕ) → i < turn + 1 → (i < turn) ⊎ (i ≡ turn)
    below_or_last i turn l = elim (same_or_not i turn) [ inl e ↦ inr e | inr d ↦ inl (omega (arith, d, l)) ]

    here : Contains now.list.items number
    here = subst (Contains now.list.items) (sym is) (contains_at now.list.items turn inside)

    before : (text : List ℕ) → SomeLeads states new.list.items text → SomeLeads states now.list.items text
    before text h = elim (a.only h.number h.among) [
      | inl i ↦ record { number = h.number; among = i; leads = h.leads }
      | inr i ↦ (let f = (free h.number).0 i in record { number = number; among = here; leads = goes_free states number h.number f.state text f.is f.among h.leads })
    ]

pub closing_end : (states : List State) (old now : Waiting) (turn : ℕ) → length now.list.items ≤ turn → IsClosing states old now turn → Closes states old now
closing_end states old now turn all k = record {
  marked = k.marked;
  size = k.size;
  kept = k.kept;
  sound = k.sound;
  closed = λ s t h f out. k.done h.0 t (let l = h.1 in omega (arith, l, all)) (subst (λ s. FreeTo states s t) (sym h.2 ∙ at_index now.list.items h.0 s h.1) f) out;
}

-- ---- the reading

-- those to which the first states of the list lead by the scalar
pub record IsReading (states : List State) (list : List ℕ) (c : ℕ) (next : Waiting) (turn : ℕ) : Type 0 where
  pub marked : IsMarked next
  pub size : length next.has.items ≡ length states
  pub sound : (t : ℕ) → Contains next.list.items t → SomeReads states list c t
  pub complete : (i t : ℕ) → i < turn → ReadsTo states c (slice_index list i) t → t < length states → Contains next.list.items t

pub reading_start : (states : List State) (list : List ℕ) (c : ℕ) (next : Waiting) → IsMarked next → next.list.items ≡ [] → length next.has.items ≡ length states → IsReading states list c next 0
reading_start states list c next marked none size = record { marked = marked; size = size; sound = λ t h. absurd (none_in t (subst (λ l. Contains l t) none h)); complete = λ i t l r out. absurd (omega arith) }

pub reading_step : (states : List State) (list : List ℕ) (c : ℕ) (now new : Waiting) (turn number target : ℕ) → turn < length list → number ≡ slice_index list turn → ((t : ℕ) → (Some target ≡ Some t) ↔ ReadsTo states c number t)
    → Adds (target ∷ []) now new → IsReading states list c now turn → IsReading states list c new (turn + 1)
reading_step states list c now new turn number target inside is reads a k = record {
  marked = a.marked;
  size = a.size ∙ k.size;
  sound = λ t h. elim (a.only t h) [
    | inl i ↦ k.sound t i
    | inr i ↦ record { from = number; among = subst (Contains list) (sym is) (contains_at list turn inside); reads = (reads t).0 (ap Some (only_in target t i)) }
  ];
  complete = λ i t l r out. elim (same_or_not i turn) [
    | inl e ↦ a.all t (subst (Contains (target ∷ [])) (let same = (reads t).1 (subst (λ s. ReadsTo states c s t) (ap (slice_index list) e ∙ sym is) r) in cc) (one_in target)) (let y = k.size in omega (arith, y, out))
    | inr d ↦ a.kept t (k.complete i t (omega (arith, d, l)) r out)
  ];
}

pub reading_skip : (states : List State) (list : List ℕ) (c : ℕ) (now : Waiting) (turn number : ℕ) → number ≡ slice_index list turn → ((t : ℕ) → ReadsTo states c number t → ⊥) → IsReading states list c now turn → IsReading states list c now (turn + 1)
reading_skip states list c now turn number is none k = record {
  marked = k.marked;
  size = k.size;
  sound = k.sound;
  complete = λ i t l r out. elim (same_or_not i turn) [
    | inl e ↦ absurd (none t (subst (λ s. ReadsTo states c s t) (ap (slice_index list) e ∙ sym is) r))
    | inr d ↦ k.complete i t (omega (arith, d, l)) r out
  ];
}

pub reading_end : (states : List State) (list : List ℕ) (c : ℕ) (next : Waiting) (turn : ℕ) → length list ≤ turn → IsReading states list c next turn → AreBehind states list c next
reading_end states list c next turn all k = record {
  marked = k.marked;
  size = k.size;
  sound = k.sound;
  complete = λ t r out. (let h = r.among in k.complete h.0 t (let l = h.1 in omega (arith, l, all)) (subst (λ s. ReadsTo states c s t) (sym h.2 ∙ at_index list h.0 r.from h.1) r.reads) out);
}

-- ---- the start

pub started : (states : List State) (start : ℕ) (new first closed : Waiting) → 0 < length states → new.list.items ≡ [] → length new.has.items ≡ length states → Adds (start ∷ []) new first → Closes states first closed → (text : List ℕ) → SomeLeads states closed.list.items text ↔ LeadsFrom states start text
started states start new first closed some none size a k text = (
  (λ h. let f = (closes states first closed text k).1 h in
      elim (a.only f.number f.among) [
        | inl i ↦ absurd (none_in f.number (subst (λ l. Contains l f.number) none i))
        | inr i ↦ subst (λ s. LeadsFrom states s text) (sym (only_in start f.number i)) f.leads
      ]),
  (λ h. (closes states first closed text k).0 (record { number = start; among = a.all start (one_in start) (let l = leads_inside states h.steps start text some h.run in omega (arith, l, size)); leads = h })),
)

-- the start was added once more
pub added : (states : List State) (start : ℕ) (old new : Waiting) → 0 < length states → length old.has.items ≡ length states → Adds (start ∷ []) old new → (text : List ℕ) → SomeLeads states new.list.items text ↔ (SomeLeads states old.list.items text ⊎ LeadsFrom states start text)
added states start old new some size a text = (
  (λ h. elim (a.only h.number h.among) [
    | inl i ↦ inl (let l : SomeLeads states old.list.items text = record { number = h.number; among = i; leads = h.leads } in l)
    | inr i ↦ inr (subst (λ s. LeadsFrom states s text) (sym (only_in start h.number i)) h.leads)
  ]),
  (λ h. elim h [
    | inl i ↦ record { number = i.number; among = a.kept i.number i.among; leads = i.leads }
    | inr i ↦ record { number = start; among = a.all start (one_in start) (let l = leads_inside states i.steps start text some i.run in omega (arith, l, size)); leads = i }
  ]),
)

pub nothing : (xs : List ℕ) → length xs ≡ 0 → xs ≡ []
nothing [] e = refl
nothing (x ∷ xs) e = absurd (omega (arith, e))

-- nothing waits
pub none_leads : (states : List State) (list text : List ℕ) → list ≡ [] → SomeLeads states list text → ⊥
none_leads states list text none h = none_in h.number (subst (λ l. Contains l h.number) none h.among)

-- ---- from scalar to scalar

pub read_scalar : (states : List State) (waiting read : Waiting) (c : ℕ) (rest : List ℕ) → 0 < length states → IsReady states waiting → AreBehind states waiting.list.items c read → SomeLeads states waiting.list.items (c ∷ rest) ↔ SomeLeads states read.list.items rest
read_scalar states waiting read c rest some ready b = reads states waiting.list.items some ready.closed c rest read b

pub read_closed : (states : List State) (waiting read closed : Waiting) (c : ℕ) (rest : List ℕ) → 0 < length states → IsReady states waiting → AreBehind states waiting.list.items c read → Closes states read closed → SomeLeads states waiting.list.items (c ∷ rest) ↔ SomeLeads states closed.list.items rest
read_closed states waiting read closed c rest some ready b k = (
  (λ h. (closes states read closed rest k).0 ((reads states waiting.list.items some ready.closed c rest read b).0 h)),
  (λ h. (reads states waiting.list.items some ready.closed c rest read b).1 ((closes states read closed rest k).1 h)),
)

pub ready_closed : (states : List State) (old closed : Waiting) → length old.has.items ≡ length states → Closes states old closed → IsReady states closed
ready_closed states old closed size k = record { marked = k.marked; size = k.size ∙ size; closed = k.closed }

-- where the start is added to what is read
pub read_again : (states : List State) (start : ℕ) (waiting read more closed : Waiting) (c : ℕ) → 0 < length states → IsReady states waiting → AreBehind states waiting.list.items c read → Adds (start ∷ []) read more → Closes states more closed → (rest : List ℕ) → SomeLeads states closed.list.items rest ↔ (SomeLeads states waiting.list.items (c ∷ rest) ⊎ LeadsFrom states start rest)
read_again states start waiting read more closed c some ready b a k rest = (
  (λ h. elim ((added states start read more some b.size a rest).0 ((closes states more closed rest k).1 h)) [
    | inl i ↦ inl ((reads states waiting.list.items some ready.closed c rest read b).1 i)
    | inr i ↦ inr i
  ]),
  (λ h. (closes states more closed rest k).0 ((added states start read more some b.size a rest).1 (elim h [
    | inl i ↦ inl ((reads states waiting.list.items some ready.closed c rest read b).0 i)
    | inr i ↦ inr i
  ]))),
)

-- the end is there if nothing is left
pub ready_end : (states : List State) (waiting : Waiting) → 0 < length states → IsReady states waiting → SomeLeads states waiting.list.items [] ↔ Contains waiting.list.items 0
ready_end states waiting some ready = at_end states waiting.list.items some ready.closed
