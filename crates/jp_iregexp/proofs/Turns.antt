-- The loops of the matcher: what is reached so far, and what is left to do.
use Rattle.std.proofs.Common.{◌≡◌, ℕ, zero, suc, ◌+◌, ◌-◌, ◌<◌, ◌≤◌, ◌⊎◌, inl, inr, List, [], ◌∷◌, length, drop, arith, sym, subst, Some}
use Rattle.jp_iregexp.specs.declared.node.Node.{Node}
use Rattle.jp_iregexp.specs.Nodes.{tree_of, sequence_list, choice_list}
use Rattle.jp_iregexp.specs.declared.positions.PositionSet.{PositionSet}
use Rattle.jp_iregexp.specs.Positions.{Has, IsClosed, IsSetOver, Reach, ReachFrom, AreEnds}
use Rattle.jp_model.specs.Pattern.Language.{Language, Splits, Repeats, RepeatsWithin}
use Rattle.jp_iregexp.proofs.Reaching.{ends_nothing, ends_then, ends_same, AreSame, same_over, same_starts, same_ends, Fronts, ends_repeats_closed, ends_within_closed, ends_up_to_one, one_more, one_fewer, within_join, within_split, reach_map}

-- whatever the rest of the work reaches from here is what the whole reaches from the starts
pub record Continues (Rest Whole : List ℕ → Type 0) (text : List ℕ) (starts reached : PositionSet) : Type 0 where
  pub over : IsSetOver (length text) reached
  pub rest : (out : PositionSet) → AreEnds Rest text reached out → AreEnds Whole text starts out

pub continue_start : (Whole : List ℕ → Type 0) (text : List ℕ) (starts reached : PositionSet) → IsSetOver (length text) starts → AreSame reached starts → Continues Whole Whole text starts reached
continue_start Whole text starts reached over e = record {
  over = same_over (length text) starts reached e over;
  rest = λ out a. same_starts text starts reached out e a;
}

pub continue_step : (First After Rest Whole : List ℕ → Type 0) (text : List ℕ) (starts reached next : PositionSet) → Continues Rest Whole text starts reached → AreEnds First text reached next → ((x : List ℕ) → Splits First After x → Rest x) → ((x : List ℕ) → Rest x → Splits First After x) → Continues After Whole text starts next
continue_step First After Rest Whole text starts reached next c a to from = record {
  over = a.over;
  rest = λ out b. c.rest out (ends_same text reached out to (λ x l r. from x r) (ends_then text reached next out a b));
}

-- ---- a sequence

pub sequence_step : (parts : List Node) (i : ℕ) (part : Node) (Whole : List ℕ → Type 0) (text : List ℕ) (starts reached next : PositionSet) → drop i parts ≡ part ∷ drop (i + 1) parts → Continues (Language (sequence_list (drop i parts))) Whole text starts reached → AreEnds (Language (tree_of part)) text reached next → Continues (Language (sequence_list (drop (i + 1) parts))) Whole text starts next
sequence_step parts i part Whole text starts reached next e c a =
    continue_step (Language (tree_of part)) (Language (sequence_list (drop (i + 1) parts))) (Language (sequence_list (drop i parts))) Whole text starts reached next c a
    (λ x s. subst (λ ps. Language (sequence_list ps) x) (sym e) s)
    (λ x s. subst (λ ps. Language (sequence_list ps) x) e s)

pub sequence_end : (parts : List Node) (i : ℕ) (Whole : List ℕ → Type 0) (text : List ℕ) (starts reached : PositionSet) → drop i parts ≡ [] → Continues (Language (sequence_list (drop i parts))) Whole text starts reached → AreEnds Whole text starts reached
sequence_end parts i Whole text starts reached e c =
    c.rest reached (subst (λ ps. AreEnds (Language (sequence_list ps)) text reached reached) (sym e) (ends_nothing text reached c.over))

-- ---- a choice

-- the set has the ends of the parts that were tried, and the rest are parts too
pub record Gathers (rest parts : List Node) (text : List ℕ) (starts all : PositionSet) : Type 0 where
  pub over : IsSetOver (length text) all
  pub sound : (q : ℕ) → Has all q → ReachFrom (Language (choice_list parts)) text starts q
  pub complete : (p q : ℕ) → Has starts p → Reach (Language (choice_list parts)) text p q → Has all q ⊎ Reach (Language (choice_list rest)) text p q
  pub inside : (x : List ℕ) → Language (choice_list rest) x → Language (choice_list parts) x

first_or_rest : (part : Node) (rest : List Node) (text : List ℕ) (p q : ℕ) → Reach (Language (choice_list (part ∷ rest))) text p q → Reach (Language (tree_of part)) text p q ⊎ Reach (Language (choice_list rest)) text p q
first_or_rest part rest text p q r =
    elim r.member [
      | inl a ↦ inl (let t : Reach (Language (tree_of part)) text p q = record { inside = r.inside; ordered = r.ordered; within = r.within; is = r.is; member = a } in t)
      | inr b ↦ inr (let t : Reach (Language (choice_list rest)) text p q = record { inside = r.inside; ordered = r.ordered; within = r.within; is = r.is; member = b } in t)
    ]

gather_next : (part : Node) (rest parts : List Node) (text : List ℕ) (starts all next more : PositionSet) → Gathers (part ∷ rest) parts text starts all → AreEnds (Language (tree_of part)) text starts next → ((q : ℕ) → Has all q → Has more q) → ((q : ℕ) → Has next q → Has more q) → ((q : ℕ) → Has more q → Has all q ⊎ Has next q) → Gathers rest parts text starts more
gather_next part rest parts text starts all next more g a old added new = record {
  over = record { within = λ q h. elim (new q h) [ inl i ↦ g.over.within q i | inr i ↦ a.over.within q i ] };
  sound = λ q h.
      elim (new q h) [
        | inl i ↦ g.sound q i
        | inr i ↦ (let s = a.sound q i in let t : ReachFrom (Language (choice_list parts)) text starts q = record { start = s.start; has = s.has; reach = reach_map (λ x m. g.inside x (inl m)) text s.start q s.reach } in t)
      ];
  complete = λ p q h r.
      elim (g.complete p q h r) [
        | inl i ↦ inl (old q i)
        | inr r' ↦ elim (first_or_rest part rest text p q r') [ inl f ↦ inl (added q (a.complete p q h f)) | inr f ↦ inr f ]
      ];
  inside = λ x m. g.inside x (inr m);
}

pub gather_step : (parts : List Node) (i : ℕ) (part : Node) (text : List ℕ) (starts all next more : PositionSet) → drop i parts ≡ part ∷ drop (i + 1) parts → Gathers (drop i parts) parts text starts all → AreEnds (Language (tree_of part)) text starts next → ((q : ℕ) → Has all q → Has more q) → ((q : ℕ) → Has next q → Has more q) → ((q : ℕ) → Has more q → Has all q ⊎ Has next q) → Gathers (drop (i + 1) parts) parts text starts more
gather_step parts i part text starts all next more e g a old added new =
    gather_next part (drop (i + 1) parts) parts text starts all next more (subst (λ ps. Gathers ps parts text starts all) e g) a old added new

gather_done : (parts : List Node) (text : List ℕ) (starts all : PositionSet) → Gathers [] parts text starts all → AreEnds (Language (choice_list parts)) text starts all
gather_done parts text starts all g = record {
  over = g.over;
  sound = g.sound;
  complete = λ p q h r. elim (g.complete p q h r) [ inl i ↦ i | inr r' ↦ absurd r'.member ];
}

pub gather_end : (parts : List Node) (i : ℕ) (text : List ℕ) (starts all : PositionSet) → drop i parts ≡ [] → Gathers (drop i parts) parts text starts all → AreEnds (Language (choice_list parts)) text starts all
gather_end parts i text starts all e g = gather_done parts text starts all (subst (λ ps. Gathers ps parts text starts all) e g)

-- ---- exactly `count` turns

module _ (Member Whole : List ℕ → Type 0) (text : List ℕ) (starts reached next : PositionSet) where
  pub exact_step : (count turn : ℕ) → turn < count → Continues (Repeats Member (count - turn)) Whole text starts reached → AreEnds Member text reached next → Continues (Repeats Member (count - (turn + 1))) Whole text starts next
  exact_step count turn l c a =
      let e : count - turn ≡ suc (count - (turn + 1)) = omega arith in
      continue_step Member (Repeats Member (count - (turn + 1))) (Repeats Member (count - turn)) Whole text starts reached next c a
      (λ x s. subst (λ k. Repeats Member k x) (sym e) s)
      (λ x s. subst (λ k. Repeats Member k x) e s)

  pub exact_exit : (count turn : ℕ) → Continues (Repeats Member (count - turn)) Whole text starts reached → AreEnds Member text reached next → AreSame next reached → AreEnds Whole text starts next
  exact_exit count turn c a e =
      let back : AreSame reached next = λ p. ((e p).1, (e p).0) in
      same_ends text starts reached next e (c.rest reached (ends_repeats_closed text reached (same_ends text reached next reached back a) (count - turn)))

  pub exact_end : (count turn : ℕ) → count ≤ turn → Continues (Repeats Member (count - turn)) Whole text starts reached → AreEnds Whole text starts reached
  exact_end count turn l c =
      let e : count - turn ≡ 0 = omega arith in
      c.rest reached (subst (λ k. AreEnds (Repeats Member k) text reached reached) (sym e) (ends_nothing text reached c.over))

  -- ---- up to `most` turns

  pub further_step : (frontier both : PositionSet) (most turn : ℕ) → turn < most → Continues (RepeatsWithin Member 0 (Some (most - turn))) Whole text starts reached → Fronts Member text reached frontier → AreEnds Member text frontier next → ((q : ℕ) → Has next q → Has both q) → ((q : ℕ) → Has reached q → Has both q) → ((q : ℕ) → Has both q → Has next q ⊎ Has reached q) → Continues (RepeatsWithin Member 0 (Some (most - (turn + 1)))) Whole text starts both
  further_step frontier both most turn l c f a left right either =
      let e : most - turn ≡ suc (most - (turn + 1)) = omega arith in
      continue_step (RepeatsWithin Member 0 (Some 1)) (RepeatsWithin Member 0 (Some (most - (turn + 1)))) (RepeatsWithin Member 0 (Some (most - turn))) Whole text starts reached both c
      (ends_up_to_one text reached frontier next both c.over f a left right either)
      (λ x s. subst (λ k. RepeatsWithin Member 0 (Some k) x) (sym e) (one_more (most - (turn + 1)) x s))
      (λ x s. one_fewer (most - (turn + 1)) x (subst (λ k. RepeatsWithin Member 0 (Some k) x) e s))

  -- no turn leaves what is reached
  pub further_exit : (most turn : ℕ) → Continues (RepeatsWithin Member 0 (Some (most - turn))) Whole text starts reached → IsClosed Member text reached → AreEnds Whole text starts reached
  further_exit most turn c closed = c.rest reached (ends_within_closed text reached (most - turn) c.over closed)

  pub further_end : (most turn : ℕ) → most ≤ turn → Continues (RepeatsWithin Member 0 (Some (most - turn))) Whole text starts reached → AreEnds Whole text starts reached
  further_end most turn l c =
      let e : most - turn ≡ 0 = omega arith in
      c.rest reached (subst (λ k. AreEnds (RepeatsWithin Member 0 (Some k)) text reached reached) (sym e) (ends_same text reached reached (λ x n. record { count = 0; enough = omega arith; few = omega arith; repeats = n }) (λ x _ w. none w.count x w.few w.repeats) (ends_nothing text reached c.over)))
    where
      none : (count : ℕ) (x : List ℕ) → count ≤ 0 → Repeats Member count x → x ≡ []
      none zero x k r = r
      none (suc n) x k r = absurd (omega arith)

-- ---- the frontier

-- at first it is all that is reached
pub front_start : (Member : List ℕ → Type 0) (text : List ℕ) (starts reached frontier : PositionSet) → AreSame reached starts → AreSame frontier starts → Fronts Member text reached frontier
front_start Member text starts reached frontier all front = record {
  inside = λ p h. (all p).1 ((front p).0 h);
  closed = λ p q h r. inl ((front p).1 ((all p).0 h));
}

-- then it is what was added
pub front_step : (Member : List ℕ → Type 0) (text : List ℕ) (reached frontier next fresh both : PositionSet) → Fronts Member text reached frontier → AreEnds Member text frontier next → ((q : ℕ) → Has next q → Has fresh q ⊎ Has reached q) → ((q : ℕ) → Has fresh q → Has both q) → ((q : ℕ) → Has reached q → Has both q) → ((q : ℕ) → Has both q → Has reached q ⊎ Has fresh q) → Fronts Member text both fresh
front_step Member text reached frontier next fresh both f a split added old new = record {
  inside = added;
  closed = λ p q h r. elim (new p h) [
    | inr i ↦ inl i
    | inl i ↦ elim (f.closed p q i r) [
      | inr k ↦ inr (old q k)
      | inl k ↦ elim (split q (a.complete p q k r)) [ inl n ↦ inr (added q n) | inr n ↦ inr (old q n) ]
    ]
  ];
}

-- ---- the least number, and then further ones

pub times_some : (Member : List ℕ → Type 0) (least further : ℕ) (text : List ℕ) (starts reached ends : PositionSet) → AreEnds (Repeats Member least) text starts reached → AreEnds (RepeatsWithin Member 0 (Some further)) text reached ends → AreEnds (RepeatsWithin Member least (Some (least + further))) text starts ends
times_some Member least further text starts reached ends a b =
    let whole : least + further - least ≡ further = omega arith in
    ends_same text starts ends (within_join least (Some (least + further)) (omega arith)) (λ x _ r. within_split least (Some (least + further)) x r)
    (ends_then text starts reached ends a (subst (λ n. AreEnds (RepeatsWithin Member 0 (Some n)) text reached ends) (sym whole) b))

pub exact_start : (Member : List ℕ → Type 0) (count : ℕ) (text : List ℕ) (starts reached : PositionSet) → IsSetOver (length text) starts → AreSame reached starts → Continues (Repeats Member (count - 0)) (Repeats Member count) text starts reached
exact_start Member count text starts reached over e =
    let same : count ≡ count - 0 = omega arith in
    subst (λ k. Continues (Repeats Member k) (Repeats Member count) text starts reached) same (continue_start (Repeats Member count) text starts reached over e)

pub further_start : (Member : List ℕ → Type 0) (most : ℕ) (text : List ℕ) (starts reached : PositionSet) → IsSetOver (length text) starts → AreSame reached starts → Continues (RepeatsWithin Member 0 (Some (most - 0))) (RepeatsWithin Member 0 (Some most)) text starts reached
further_start Member most text starts reached over e =
    let same : most ≡ most - 0 = omega arith in
    subst (λ k. Continues (RepeatsWithin Member 0 (Some k)) (RepeatsWithin Member 0 (Some most)) text starts reached) same (continue_start (RepeatsWithin Member 0 (Some most)) text starts reached over e)
