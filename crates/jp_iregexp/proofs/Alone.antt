-- Where single scalars are in a text, and a step by that.
use Rattle.std.proofs.Common.{◌≡◌, ℕ, ◌+◌, ◌-◌, ◌<◌, ◌≤◌, ◌⊎◌, ◌↔◌, inl, inr, List, [], length, get_or, Option, None, arith, sym, ◌∙◌, ap, subst}
use Rattle.std.proofs.lemmas.Option.{none-some}
use Rattle.jp_model.specs.Pattern.Language.{IsOne}
use Rattle.jp_iregexp.specs.declared.positions.PositionSet.{PositionSet}
use Rattle.jp_iregexp.specs.Kept.{IsAdded}
use Rattle.jp_iregexp.specs.Places.{AreAfterEach, IsAfterEach}
use Rattle.jp_iregexp.specs.Positions.{Has, Reach, AreEnds}
use Rattle.jp_iregexp.proofs.Bits.{below_or_not}
use Rattle.jp_iregexp.proofs.Reaching.{one_reach, one_only}

-- ---- one scalar

-- the positions after each such scalar, up to n
pub record AfterBelow (text : List ℕ) (scalar n : ℕ) (set : PositionSet) : Type 0 where
  pub sound : (q : ℕ) → Has set q → 0 < q × q ≤ n × get_or text (q - 1) 0 ≡ scalar
  pub complete : (q : ℕ) → 0 < q → q ≤ n → get_or text (q - 1) 0 ≡ scalar → Has set q

pub after_none : (text : List ℕ) (scalar : ℕ) (set : PositionSet) → ((q : ℕ) → ¬ (Has set q)) → AfterBelow text scalar 0 set
after_none text scalar set none = record { sound = λ q h. absurd (none q h); complete = λ q some l. absurd (omega (arith, some, l)) }

pub after_insert : (text : List ℕ) (scalar n : ℕ) (set more : PositionSet) → AfterBelow text scalar n set → get_or text n 0 ≡ scalar → Has more (n + 1) → ((q : ℕ) → Has set q → Has more q) → ((q : ℕ) → Has more q → (q ≡ n + 1) ⊎ Has set q) → AfterBelow text scalar (n + 1) more
after_insert text scalar n set more b is same old new = record {
  sound = λ q h. elim (new q h) [
    | inl e ↦ (let before : n ≡ q - 1 = omega (arith, e) in (omega (arith, e), omega (arith, e), subst (λ k. get_or text k 0 ≡ scalar) before is))
    | inr o ↦ (let s = b.sound q o in let l = s.1 in (s.0, omega (arith, l), s.2))
  ];
  complete = λ q some l here. elim (below_or_not n q) [
    | inl k ↦ (let e : n + 1 ≡ q = omega (arith, k, l) in subst (Has more) e same)
    | inr k ↦ old q (b.complete q some k here)
  ];
}

pub after_skip : (text : List ℕ) (scalar n : ℕ) (set : PositionSet) → AfterBelow text scalar n set → (get_or text n 0 ≡ scalar → ⊥) → AfterBelow text scalar (n + 1) set
after_skip text scalar n set b not = record {
  sound = λ q h. (let s = b.sound q h in let l = s.1 in (s.0, omega (arith, l), s.2));
  complete = λ q some l here. elim (below_or_not n q) [
    | inl k ↦ (let e : q - 1 ≡ n = omega (arith, k, l) in absurd (not (subst (λ i. get_or text i 0 ≡ scalar) e here)))
    | inr k ↦ b.complete q some k here
  ];
}

pub after_all : (text : List ℕ) (scalar n : ℕ) (set : PositionSet) → n ≡ length text → AfterBelow text scalar n set → IsAfterEach text scalar set
after_all text scalar n set e b q = (
  (λ h. let s = b.sound q h in (s.0, subst (λ k. q ≤ k) e s.1, s.2)),
  (λ m. b.complete q m.0 (subst (λ k. q ≤ k) (sym e) m.1) m.2),
)

-- ---- the rows

pub no_rows : (text : List ℕ) (rows : List (Option PositionSet)) → rows ≡ [] → AreAfterEach text rows
no_rows text rows e scalar set is = absurd (none-some set (ap (λ l. get_or l scalar None) (sym e) ∙ is))

pub rows_more : (text : List ℕ) (rows more : List (Option PositionSet)) (row : PositionSet) (n : ℕ) → AreAfterEach text rows → IsAdded n row rows more → IsAfterEach text n row → AreAfterEach text more
rows_more text rows more row n a added here scalar set is =
    elim (added scalar set is) [
      | inl e ↦ subst (λ i. IsAfterEach text i set) (sym e.0) (subst (IsAfterEach text n) (sym e.1) here)
      | inr e ↦ a scalar set e
    ]

-- ---- a step

-- one scalar of a class in which it is alone
pub alone_ends : (P : ℕ → Type 0) (scalar : ℕ) → ((s : ℕ) → P s → s ≡ scalar) → P scalar → (text : List ℕ) (starts after out : PositionSet) → IsAfterEach text scalar after → ((q : ℕ) → Has out q ↔ (1 ≤ q × Has starts (q - 1) × Has after q)) → AreEnds (IsOne P) text starts out
alone_ends P scalar only passes text starts after out are moved = record {
  over = record { within = λ q h. ((are q).0 ((moved q).0 h).2).1 };
  sound = λ q h.
      (let m = (moved q).0 h in
      let a = (are q).0 m.2 in
      let some = m.0 in
      let within = a.1 in
      let next : q - 1 + 1 ≡ q = omega (arith, some) in
      record { start = q - 1; has = m.1; reach = subst (λ k. Reach (IsOne P) text (q - 1) k) next (one_reach P text (q - 1) (omega (arith, some, within)) (subst P (sym a.2) passes)) });
  complete = λ p q h r.
      (let o = one_only P text p q r in
      let next = o.next in
      let inside = o.inside in
      let before : p ≡ q - 1 = omega (arith, next) in
      (moved q).1 (omega (arith, next), subst (Has starts) before h, (are q).1 (omega (arith, next), omega (arith, next, inside), ap (λ k. get_or text k 0) (sym before) ∙ only (get_or text p 0) o.passes)));
}
