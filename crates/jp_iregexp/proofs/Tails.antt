-- A tail of a set, word by word, and sets that no turn leaves.
use Rattle.std.proofs.Common.{◌≡◌, ℕ, ◌+◌, ◌-◌, ◌/◌, ◌%◌, ◌^◌, ◌<◌, ◌≤◌, inl, inr, List, [], get_or, Option, None, Bool, true, false, w64, arith, sym, ◌∙◌, ap, subst}
use Rattle.std.specs.Int.{bit_at, trailing_zeros}
use Rattle.std.proofs.lemmas.Nat.Bits.{bit_at-zero, bit_at-trailing_zeros}
use Rattle.std.proofs.lemmas.Option.{none-some}
use Rattle.jp_model.specs.Pattern.Language.{Language}
use Rattle.jp_model.specs.Pattern.Tree.{empty}
use Rattle.jp_iregexp.specs.declared.node.Node.{Node}
use Rattle.jp_iregexp.specs.declared.positions.PositionSet.{PositionSet}
use Rattle.jp_iregexp.specs.Kept.{IsAdded}
use Rattle.jp_iregexp.specs.Nodes.{tree_of}
use Rattle.jp_iregexp.specs.Positions.{Has, AreEnds, IsClosed, IsTail}
use Rattle.jp_iregexp.specs.Tables.{AreAlike, AreClosed, IsNumber, IsTailOfKept, bodies_of}
use Rattle.jp_iregexp.proofs.Bits.{BitOf, same_or_not, below_or_not, next_or_below, word_bit, bit_of_word, words_in}
use Rattle.jp_iregexp.proofs.Moves.{down}
use Rattle.jp_iregexp.proofs.Reaching.{AreSame, Fronts, reach_map}

-- ---- the lowest bit of a word

pub none_of_zero : (own i : ℕ) → own ≡ 0 → bit_at own i ≡ 1 → ⊥
none_of_zero own i e h = (let n = bit_at-zero i in let z : bit_at 0 i ≡ 1 = subst (λ x. bit_at x i ≡ 1) e h in absurd (omega (arith, n, z)))

pub low_above : (own i : ℕ) → own < 2 ^ 64 → bit_at own i ≡ 1 → trailing_zeros w64 own ≤ i
low_above own i small h = elim (same_or_not own 0) [
  | inl e ↦ absurd (none_of_zero own i e h)
  | inr d ↦ elim (below_or_not i (trailing_zeros w64 own)) [
    | inl l ↦ (let none = (bit_at-trailing_zeros w64 own (omega (arith, d)) small).2 i l in absurd (omega (arith, none, h)))
    | inr l ↦ l
  ]
]

pub low_none : (own i : ℕ) → own < 2 ^ 64 → 64 ≤ trailing_zeros w64 own → bit_at own i ≡ 1 → ⊥
low_none own i small far h = elim (same_or_not own 0) [
  | inl e ↦ none_of_zero own i e h
  | inr d ↦ (let l : trailing_zeros w64 own < 64 = (bit_at-trailing_zeros w64 own (omega (arith, d)) small).0 in absurd (omega (arith, l, far)))
]

-- ---- a tail

-- the words below w are those of a tail, which begins in one of them if it has begun
pub record TailBelow (one all : ℕ → ℕ) (w : ℕ) (begun : Bool) : Type 0 where
  pub inside : (q : ℕ) → q / 64 < w → BitOf one q → BitOf all q
  pub rest : (p q : ℕ) → q / 64 < w → BitOf one p → BitOf all q → p ≤ q → BitOf one q
  pub none : begun ≡ false → (q : ℕ) → q / 64 < w → BitOf one q → ⊥

pub tail_start : (one all : ℕ → ℕ) (w : ℕ) (begun : Bool) → ((q : ℕ) → q / 64 < w → BitOf one q → ⊥) → TailBelow one all w begun
tail_start one all w begun none = record {
  inside = λ q l h. absurd (none q l h);
  rest = λ p q l h k o. absurd (none p (omega (arith, l, o)) h);
  none = λ e q l h. none q l h;
}

module _ (one all : ℕ → ℕ) (w own : ℕ) (begun : Bool) (is : one w ≡ own) (t : TailBelow one all w begun) where
  -- a word without bits, before the tail begins
  pub tail_skip : begun ≡ false → ((i : ℕ) → bit_at own i ≡ 1 → ⊥) → TailBelow one all (w + 1) begun
  tail_skip e none = tail_start one all (w + 1) begun (λ q l h. elim (next_or_below (q / 64) w l) [ inl k ↦ t.none e q k h | inr d ↦ none (q % 64) (word_bit one w own q is d h) ])

  module _ (low other : ℕ) (there : all w ≡ other) (same : own / 2 ^ low ≡ other / 2 ^ low) (above : (i : ℕ) → bit_at own i ≡ 1 → low ≤ i) (before : (q : ℕ) → q / 64 < w → BitOf one q → low ≡ 0) where
    bit_over : (i : ℕ) → low ≤ i → bit_at own i ≡ bit_at other i
    bit_over i l =
        let e : i - low + low ≡ i = omega (arith, l) in
        ap (bit_at own) (sym e) ∙ sym (down own low (i - low)) ∙ ap (λ n. bit_at n (i - low)) same ∙ down other low (i - low) ∙ ap (bit_at other) e

    -- a word that has the same bits from the lowest one on
    pub tail_step : TailBelow one all (w + 1) true
    tail_step = record {
      inside = λ q l h. elim (next_or_below (q / 64) w l) [
        | inl k ↦ t.inside q k h
        | inr e ↦ (let bit = word_bit one w own q is e h in bit_of_word all w other q there e (sym (bit_over (q % 64) (above (q % 64) bit)) ∙ bit))
      ];
      rest = λ p q l h m o. elim (next_or_below (q / 64) w l) [
        | inl k ↦ t.rest p q k h m o
        | inr e ↦
            (let bit = word_bit all w other q there e m in
            let far : low ≤ q % 64 = elim (next_or_below (p / 64) w (omega (arith, o, e))) [
              | inl k ↦ (let z = before p k h in omega (arith, z))
              | inr d ↦ (let a = above (p % 64) (word_bit one w own p is d h) in omega (arith, a, o, d, e))
            ] in
            bit_of_word one w own q is e (bit_over (q % 64) far ∙ bit))
      ];
      none = λ e. absurd (cc);
    }

pub tail_end : (one all : PositionSet) (w : ℕ) (begun : Bool) → TailBelow (words_in one) (words_in all) w begun → ((q : ℕ) → w ≤ q / 64 → Has one q → ⊥) → ((q : ℕ) → w ≤ q / 64 → Has all q → ⊥) → IsTail one all
tail_end one all w begun t far past = record {
  inside = λ p h. elim (below_or_not (p / 64) w) [ inl l ↦ t.inside p l h | inr l ↦ absurd (far p l h) ];
  rest = λ p q h k o. elim (below_or_not (q / 64) w) [ inl l ↦ t.rest p q l h k o | inr l ↦ absurd (past q l k) ];
}

-- ---- sets that no turn leaves

closed_tail : (Member : List ℕ → Type 0) (text : List ℕ) (tail whole : PositionSet) → IsTail tail whole → IsClosed Member text whole → IsClosed Member text tail
closed_tail Member text tail whole t c p q h r = t.rest p q h (c p q (t.inside p h) r) r.ordered

pub closed_alike : (First Second : List ℕ → Type 0) (text : List ℕ) (set : PositionSet) → AreAlike First Second → IsClosed First text set → IsClosed Second text set
closed_alike First Second text set a c p q h r = c p q h (reach_map a.from text p q r)

pub closed_same : (Member : List ℕ → Type 0) (text : List ℕ) (set copy : PositionSet) → AreSame copy set → IsClosed Member text set → IsClosed Member text copy
closed_same Member text set copy e c p q h r = (e q).1 (c p q ((e p).0 h) r)

-- nothing new follows the frontier
pub front_left : (Member : List ℕ → Type 0) (text : List ℕ) (reached frontier next : PositionSet) → Fronts Member text reached frontier → AreEnds Member text frontier next → ((q : ℕ) → Has next q → Has reached q) → IsClosed Member text reached
front_left Member text reached frontier next f a left p q h r = elim (f.closed p q h r) [ inl i ↦ left q (a.complete p q i r) | inr i ↦ i ]

-- no turn leaves the frontier
front_stays : (Member : List ℕ → Type 0) (text : List ℕ) (reached frontier : PositionSet) → Fronts Member text reached frontier → IsClosed Member text frontier → IsClosed Member text reached
front_stays Member text reached frontier f c p q h r = elim (f.closed p q h r) [ inl i ↦ f.inside q (c p q i r) | inr i ↦ i ]

-- ---- the sets that are kept

pub no_sets : (text : List ℕ) (root : Node) (sets : List (Option PositionSet)) → sets ≡ [] → AreClosed text root sets
no_sets text root sets e number set is = absurd (none-some set (ap (λ l. get_or l number None) (sym e) ∙ is))

pub more_closed : (text : List ℕ) (root : Node) (old new : List (Option PositionSet)) (number : ℕ) (set : PositionSet) → IsClosed (Language (get_or (bodies_of root) number empty)) text set → IsAdded number set old new → AreClosed text root old → AreClosed text root new
more_closed text root old new number set c kept are n other is =
    elim (kept n other is) [
      | inl e ↦ subst (λ i. IsClosed (Language (get_or (bodies_of root) i empty)) text other) (sym e.0) (subst (IsClosed (Language (get_or (bodies_of root) number empty)) text) (sym e.1) c)
      | inr e ↦ are n other e
    ]

-- what is closed under a body is so under the one with its number
pub closed_numbered : (text : List ℕ) (root body : Node) (number : ℕ) (set : PositionSet) → IsNumber (bodies_of root) body number → IsClosed (Language (tree_of body)) text set → IsClosed (Language (get_or (bodies_of root) number empty)) text set
closed_numbered text root body number set alike c = closed_alike (Language (tree_of body)) (Language (get_or (bodies_of root) number empty)) text set (record { to = alike.from; from = alike.to }) c

-- the frontier is a tail of a set that is kept
pub kept_stays : (text : List ℕ) (root body : Node) (number : ℕ) (sets : List (Option PositionSet)) (reached frontier : PositionSet) → IsNumber (bodies_of root) body number → AreClosed text root sets → IsTailOfKept sets number frontier → Fronts (Language (tree_of body)) text reached frontier → IsClosed (Language (tree_of body)) text reached
kept_stays text root body number sets reached frontier alike are k f =
    let whole = closed_alike (Language (get_or (bodies_of root) number empty)) (Language (tree_of body)) text k.whole alike (are number k.whole k.kept) in
    front_stays (Language (tree_of body)) text reached frontier f (closed_tail (Language (tree_of body)) text frontier k.whole k.tail whole)
