-- What the ends that are reached say of the whole text.
use Rattle.std.proofs.Common.{◌≡◌, ◌↔◌, Bool, true, false, ℕ, zero, suc, ◌+◌, ◌≤◌, List, [], ◌∷◌, ◌++◌, length, drop, take, arith, refl, sym, ◌∙◌, ap, subst, append_assoc, append-nil, length-append}
use Rattle.jp_iregexp.specs.declared.positions.PositionSet.{PositionSet}
use Rattle.jp_iregexp.specs.Positions.{Has, AreEnds}
use Rattle.jp_model.specs.Pattern.Language.{Occurs}
use Rattle.jp_iregexp.proofs.Reaching.{drop_front}

drop_whole : (text : List ℕ) → drop (length text) text ≡ []
drop_whole [] = refl
drop_whole (c ∷ text) = drop_whole text

take_drop : (p : ℕ) (text : List ℕ) → text ≡ take p text ++ drop p text
take_drop zero text = refl
take_drop (suc p) [] = refl
take_drop (suc p) (c ∷ text) = ap (λ x. c ∷ x) (take_drop p text)

-- only position 0 is a start
pub whole_sound : (Member : List ℕ → Type 0) (text : List ℕ) (starts ends : PositionSet) → ((q : ℕ) → Has starts q → q ≡ 0) → AreEnds Member text starts ends → Has ends (length text) → Member text
whole_sound Member text starts ends only a h =
    let s = a.sound (length text) h in
    let r = s.reach in
    let zero_start : s.start ≡ 0 = only s.start s.has in
    let front : drop 0 text ≡ drop s.start text = ap (λ p. drop p text) (sym zero_start) in
    let e : text ≡ r.inside = front ∙ r.is ∙ ap (λ x. r.inside ++ x) (drop_whole text) ∙ append-nil r.inside in
    subst Member (sym e) r.member

pub whole_complete : (Member : List ℕ → Type 0) (text : List ℕ) (starts ends : PositionSet) → Has starts 0 → AreEnds Member text starts ends → Member text → Has ends (length text)
whole_complete Member text starts ends has a m =
    a.complete 0 (length text) has (record { inside = text; ordered = omega arith; within = omega arith; is = sym (append-nil text) ∙ ap (λ x. text ++ x) (sym (drop_whole text)); member = m })

pub some_sound : (Member : List ℕ → Type 0) (text : List ℕ) (starts ends : PositionSet) (q : ℕ) → AreEnds Member text starts ends → Has ends q → Occurs Member text
some_sound Member text starts ends q a h =
    let s = a.sound q h in
    let r = s.reach in
    record { before = take s.start text; inside = r.inside; after = drop q text; is = take_drop s.start text ∙ ap (λ x. take s.start text ++ x) r.is; member = r.member }

-- the position where the part ends
pub record EndsAt (text : List ℕ) (ends : PositionSet) : Type 0 where
  pub position : ℕ
  pub within : position ≤ length text
  pub has : Has ends position

pub some_complete : (Member : List ℕ → Type 0) (text : List ℕ) (starts ends : PositionSet) → ((q : ℕ) → q ≤ length text → Has starts q) → AreEnds Member text starts ends → Occurs Member text → EndsAt text ends
some_complete Member text starts ends all a o =
    let q = length (o.before ++ o.inside) in
    let twice : text ≡ (o.before ++ o.inside) ++ o.after = o.is ∙ sym (append_assoc o.before o.inside o.after) in
    let from_p : drop (length o.before) text ≡ o.inside ++ o.after = ap (λ x. drop (length o.before) x) o.is ∙ drop_front o.before (o.inside ++ o.after) in
    let from_q : drop q text ≡ o.after = ap (λ x. drop q x) twice ∙ drop_front (o.before ++ o.inside) o.after in
    let fronts : q ≡ length o.before + length o.inside = length-append o.before o.inside in
    let lengths : length text ≡ q + length o.after = ap length twice ∙ length-append (o.before ++ o.inside) o.after in
    record {
      position = q;
      within = omega arith;
      has = a.complete (length o.before) q (all (length o.before) (omega arith)) (record { inside = o.inside; ordered = omega arith; within = omega arith; is = from_p ∙ ap (λ x. o.inside ++ x) (sym from_q); member = o.member });
    }

-- two tests of one thing
pub same_test : (a b : Bool) (P : Type 0) → (a ≡ true) ↔ P → (b ≡ true) ↔ P → a ≡ b
same_test true b P p q = sym (q.1 (p.0 refl))
same_test false true P p q = p.1 (q.0 refl)
same_test false false P p q = refl
