-- What stands in a list stays at its front.
use Rattle.std.proofs.Common.{◌≡◌, ◌≤◌, ◌<◌, ◌+◌, ◌-◌, ℕ, zero, suc, get_or, Result, Ok, Err, List, [], ◌∷◌, ◌++◌, length, take, drop, map, true, false, Bool, sym, ◌∙◌, ap, subst, refl, arith, append_assoc, append-nil, length-append, Option}
use Rattle.std.specs.Prelude.{OnOk, slice_get}
use Rattle.std.proofs.lemmas.List.{drop_at, get_or-drop, take_all}
use Rattle.std.proofs.lemmas.List.Elements.{All-nil, All-append}
use Rattle.jp_children.specs.Found.{AreOf}
use Rattle.jp_model.specs.Meaning.Nodes.{Node}
use Rattle.jp_nodes.specs.declared.cursor.Cursor.{Cursor}
use Rattle.jp_nodes.specs.Cursors.{line_of, node_of}
use Rattle.jp_eval.specs.Answers.{IsAnswer, slots_in}
use Rattle.jp_eval.specs.Found.{Adds, IsRange, between}
use Rattle.jp_eval.specs.Frames.{AreKept}
use Rattle.jp_eval.specs.Programs.{Meant}
use Rattle.jp_eval.specs.Tallies.{IsKnown, IsKnownAs, is_listed}
use Rattle.jp_eval.specs.declared.frame.Answer.{Answer}
use Rattle.jp_eval.specs.declared.frame.Answer.TheVariants as answers
use Rattle.jp_eval.specs.declared.frame.Run.{Run}
use Rattle.jp_eval.specs.declared.sums.Known.{Known}
use Rattle.jp_eval.specs.declared.sums.Known.TheVariants as knowns

pub adds_none : (line : List ℕ) (old new : List Cursor) → new ≡ old → Adds line old new
adds_none line old new e = record { others = []; is = e ∙ sym (append-nil old); of_line = All-nil (λ c. line_of c ≡ line) }

pub adds_more : {line : List ℕ} {old mid new : List Cursor} → Adds line old mid → Adds line mid new → Adds line old new
adds_more {line} {old} {mid} {new} a b = record {
  others = a.others ++ b.others;
  is = b.is ∙ (ap (λ l. l ++ b.others) a.is ∙ append_assoc old a.others b.others);
  of_line = All-append (λ c. line_of c ≡ line) a.others b.others a.of_line b.of_line;
}

-- ---- ranges

-- where a list grows, its first `k` stay, and those after them stay in front of what was added
drop_before : {A : Type 0} (k : ℕ) (xs ys : List A) → k ≤ length xs → drop k (xs ++ ys) ≡ drop k xs ++ ys
drop_before zero xs ys h = refl
drop_before (suc k) [] ys h = absurd (omega (arith, h))
drop_before (suc k) (x ∷ xs) ys h = drop_before k xs ys (omega (arith, h))

take_before : {A : Type 0} (k : ℕ) (xs ys : List A) → k ≤ length xs → take k (xs ++ ys) ≡ take k xs
take_before zero xs ys h = refl
take_before (suc k) [] ys h = absurd (omega (arith, h))
take_before (suc k) (x ∷ xs) ys h = ap (λ l. x ∷ l) (take_before k xs ys (omega (arith, h)))

length_dropped : {A : Type 0} (k : ℕ) (xs : List A) → length (drop k xs) ≡ length xs - k
length_dropped zero xs = omega arith
length_dropped (suc k) [] = omega arith
length_dropped (suc k) (x ∷ xs) = let e = length_dropped k xs in omega (arith, e)

pub between_grown : (start end : ℕ) (old others : List Cursor) → start ≤ end → end ≤ length old → between start end (old ++ others) ≡ between start end old
between_grown start end old others o h =
    let size = length_dropped start old in
    ap (take (end - start)) (drop_before start old others (omega (arith, o, h))) ∙ take_before (end - start) (drop start old) others (omega (arith, size, o, h))

range_grown : (line : List ℕ) (old others : List Cursor) (start end : ℕ) (selected : List Node) → IsRange line old start end selected → IsRange line (old ++ others) start end selected
range_grown line old others start end selected r =
    let same = between_grown start end old others r.order r.within in
    let size = length-append old others in
    let within = r.within in
    record {
      within = omega (arith, size, within);
      order = r.order;
      nodes = ap (map node_of) same ∙ r.nodes;
      of_line = subst (λ (l : List Cursor). AreOf line l) (sym same) r.of_line;
    }

known_grown : (line : List ℕ) (old others : List Cursor) (most : ℕ) (selected : List Node) (known : Known) → IsKnown line old most selected known → IsKnown line (old ++ others) most selected known
known_grown line old others most selected known = by (is_listed most) known
  where
    by : (b : Bool) (k : Known) → IsKnownAs b line old most selected k → IsKnownAs b line (old ++ others) most selected k
    by true (knowns.Listed start end) h = range_grown line old others start end selected h
    by true (knowns.Counted sum) h = h
    by false (knowns.Listed start end) h = h
    by false (knowns.Counted sum) h = h

answer_grown : (run : Run) (old others : List Cursor) (meant : Option Meant) (answer : Answer) → IsAnswer run old meant answer → IsAnswer run (old ++ others) meant answer
answer_grown run old others meant (answers.Holds is) h = h
answer_grown run old others meant (answers.Value side) h = h
answer_grown run old others meant (answers.Pattern read) h = h
answer_grown run old others meant (answers.Sums sums) h = λ c known l e. known_grown (line_of run.root.now) old others sums.most _ known (h c known l e)

-- what was kept stays right as the list grows
pub kept_grown : (run : Run) (old new : List Cursor) (kept : List (Option Answer)) (line : List ℕ) → Adds line old new → AreKept run old kept → AreKept run new kept
kept_grown run old new kept line a h position answer is =
    let meant : Option Meant = slice_get (slots_in run) position in
    subst (λ (l : List Cursor). IsAnswer run l meant answer) (sym a.is) (answer_grown run old a.others meant answer (h position answer is))

-- ---- copies

take_taken : {A : Type 0} (k m : ℕ) (xs : List A) → k ≤ m → take k (take m xs) ≡ take k xs
take_taken zero m xs h = refl
take_taken (suc k) zero xs h = absurd (omega (arith, h))
take_taken (suc k) (suc m) [] h = refl
take_taken (suc k) (suc m) (x ∷ xs) h = ap (λ l. x ∷ l) (take_taken k m xs (omega (arith, h)))

take_next : {A : Type 0} (k : ℕ) (xs : List A) (x : A) → k < length xs → x ≡ get_or xs k x → take (suc k) xs ≡ take k xs ++ x ∷ []
take_next k [] x h e = absurd (omega (arith, h))
take_next zero (y ∷ xs) x h e = ap (λ z. z ∷ []) (sym e)
take_next (suc k) (y ∷ xs) x h e = ap (λ l. y ∷ l) (take_next k xs x (omega (arith, h)) e)

get_before : {A : Type 0} (xs ys : List A) (k : ℕ) (x : A) → k < length xs → get_or (xs ++ ys) k x ≡ get_or xs k x
get_before [] ys k x h = absurd (omega (arith, h))
get_before (y ∷ xs) ys zero x h = refl
get_before (y ∷ xs) ys (suc k) x h = get_before xs ys k x (omega (arith, h))

-- one more of a part is put after the list
pub next_copied : (old now : List Cursor) (start end position : ℕ) (c : Cursor) → start ≤ position → position < end → end ≤ length old → now ≡ old ++ take (position - start) (between start end old)
    → c ≡ get_or now position c → now ++ c ∷ [] ≡ old ++ take (position + 1 - start) (between start end old)
next_copied old now start end position c low high within is at =
    let k : ℕ = position - start in
    let size = length_dropped start old in
    let there : c ≡ get_or (drop start old) k c =
    at ∙ (ap (λ (l : List Cursor). get_or l position c) is ∙ (get_before old (take k (between start end old)) position c (omega (arith, high, within))
    ∙ sym (get_or-drop start old k c ∙ ap (λ (i : ℕ). get_or old i c) (let e : start + (position - start) ≡ position = omega (arith, low) in e)))) in
    let next : position + 1 - start ≡ suc k = omega (arith, low) in
    ap (λ (l : List Cursor). l ++ c ∷ []) is
    ∙ (append_assoc old (take k (between start end old)) (c ∷ [])
    ∙ ap (λ (l : List Cursor). old ++ l)
    (ap (λ (l : List Cursor). l ++ c ∷ []) (take_taken k (end - start) (drop start old) (omega (arith, low, high)))
    ∙ (sym (take_next k (drop start old) c (omega (arith, size, low, high, within)) there)
    ∙ (sym (take_taken (suc k) (end - start) (drop start old) (omega (arith, low, high)))
    ∙ ap (λ (i : ℕ). take i (between start end old)) (sym next)))))

-- ---- what is known

pub listed_is : (line : List ℕ) (found : List Cursor) (most : ℕ) (selected : List Node) (known : Known) (start end : ℕ) → known ≡ knowns.Listed start end → IsKnown line found most selected known → (is_listed most ≡ true) × IsRange line found start end selected
listed_is line found most selected known start end is h = by (is_listed most) refl (subst (λ (k : Known). IsKnown line found most selected k) is h)
  where
    by : (b : Bool) → is_listed most ≡ b → IsKnownAs b line found most selected (knowns.Listed start end) → (is_listed most ≡ true) × IsRange line found start end selected
    by true e h = (e, h)
    by false e h = absurd h

pub on_ok_so : {A E P Q : Type 0} (r : Result A E) → (P → Q) → OnOk r P → OnOk r Q
on_ok_so (Ok x) f h = f h
on_ok_so (Err e) f h = tt

-- ---- what was listed

cancelled : (old others : List Cursor) (selected : List Node) → map node_of (old ++ others) ≡ map node_of old ++ selected → map node_of others ≡ selected
cancelled [] others selected e = e
cancelled (c ∷ old) others selected e = cancelled old others selected (ap (drop 1) e)

pub range_behind : (line : List ℕ) (old new : List Cursor) (selected : List Node) (start end : ℕ) → Adds line old new → map node_of new ≡ map node_of old ++ selected → start ≡ length old → end ≡ length new → IsRange line new start end selected
range_behind line old new selected start end a e s l =
    let size = ap length a.is in
    let sum = length-append old a.others in
    let part : between start end new ≡ a.others = ap (λ (xs : List Cursor). take (end - start) (drop start xs)) a.is ∙ (ap (take (end - start)) (drop_at old a.others start (sym s)) ∙ take_all (end - start) a.others (omega (arith, s, l, size, sum))) in
    record {
      within = omega (arith, l);
      order = omega (arith, s, l, size, sum);
      nodes = ap (map node_of) part ∙ cancelled old a.others selected (sym (ap (map node_of) a.is) ∙ e);
      of_line = subst (λ (xs : List Cursor). AreOf line xs) (sym part) a.of_line;
    }

pub listed_known : (line : List ℕ) (found : List Cursor) (most : ℕ) (selected : List Node) (start end : ℕ) → is_listed most ≡ true → IsRange line found start end selected → IsKnown line found most selected (knowns.Listed start end)
listed_known line found most selected start end l r = by (is_listed most) l
  where
    by : (b : Bool) → b ≡ true → IsKnownAs b line found most selected (knowns.Listed start end)
    by true e = r
    by false e = absurd (cc)
