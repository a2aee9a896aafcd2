-- Turns of turns: a part that is taken from none or from one time on, in turns, is taken as often as both make together.
use Rattle.std.proofs.Common.{◌≡◌, ℕ, zero, suc, ◌+◌, ◌-◌, ◌*◌, ◌^◌, ◌<◌, ◌≤◌, ◌⊎◌, inl, inr, List, [], ◌∷◌, ◌++◌, length, get_or, Option, Some, None, arith, refl, sym, ◌∙◌, ap, subst, length-append, append-nil, Global, Vec}
use Rattle.jp_iregexp.specs.declared.node.Node.{Node, Sequence, Choice}
use Rattle.jp_iregexp.specs.declared.positions.PositionSet.{PositionSet}
use Rattle.jp_iregexp.specs.Nodes.{most_of, turns_of, tree_of, sequence_list, choice_list}
use Rattle.jp_iregexp.specs.Positions.{AreEnds}
use Rattle.jp_iregexp.specs.Tables.{AreAlike, IsLength, IsTable, IsNumber, Numbered, NumberedList}
use Rattle.jp_model.specs.Pattern.Language.{Language, AtMost, Splits, Repeats, RepeatsWithin}
use Rattle.jp_model.specs.Pattern.Tree.{Pattern, empty, followed_by, never, either_of}
use Rattle.jp_iregexp.proofs.Bits.{below_or_not}
use Rattle.jp_iregexp.proofs.Keeping.{from_Sequence, from_Choice}
use Rattle.jp_iregexp.proofs.Parts.{tree_of_Sequence, tree_of_Choice}
use Rattle.jp_iregexp.proofs.Reaching.{ends_same, reach_map, repeats_join, repeats_split, within_join, within_split, cut}

-- ---- products

suc_times : (d m : ℕ) → suc d * m ≡ m + d * m
suc_times d m = omega arith

grows : (d m : ℕ) → 1 ≤ m → d ≤ d * m
grows zero m l = omega arith
grows (suc d) m l = (let g = grows d m l in let s = suc_times d m in omega (arith, g, s))

rises : (c d m : ℕ) → c ≤ d → c * m ≤ d * m
rises zero d m l = omega arith
rises (suc c) zero m l = absurd (omega arith)
rises (suc c) (suc d) m l = (let r = rises c d m (omega arith) in let s = suc_times c m in let t = suc_times d m in omega (arith, r, s, t))

-- ---- the members that turns have together

record Together (Member : List ℕ → Type 0) (least : ℕ) (most : Option ℕ) (turns : ℕ) (x : List ℕ) : Type 0 where
  pub count : ℕ
  pub enough : turns * least ≤ count
  pub few : (m : ℕ) → most ≡ Some m → count ≤ turns * m
  pub none : turns ≡ 0 → count ≡ 0
  pub repeats : Repeats Member count x

together : (Member : List ℕ → Type 0) (least : ℕ) (most : Option ℕ) (turns : ℕ) (x : List ℕ) → Repeats (RepeatsWithin Member least most) turns x → Together Member least most turns x
together Member least most zero x r = record { count = 0; enough = omega arith; few = λ m e. omega arith; none = λ e. refl; repeats = r }
together Member least most (suc turns) x r =
    let w = r.first in
    let t = together Member least most turns r.rest r.second in
    let one = w.enough in
    let others = t.enough in
    let product = suc_times turns least in
    record {
      count = w.count + t.count;
      enough = omega (arith, one, others, product);
      few = λ m e. (let f : w.count ≤ m = subst (AtMost w.count) e w.few in let g = t.few m e in let p = suc_times turns m in omega (arith, f, g, p));
      none = λ e. absurd (omega (arith, e));
      repeats = repeats_join Member w.count t.count (w.count + t.count) refl x (record { front = r.front; rest = r.rest; is = r.is; first = w.repeats; second = t.repeats });
    }

-- ---- a number of members in turns

-- how many of them the first turn has
record Share (least most turns enough count : ℕ) : Type 0 where
  pub size : ℕ
  pub enough_first : least ≤ size
  pub few_first : size ≤ most
  pub within : size ≤ count
  pub enough_left : (enough - 1) * least ≤ count - size
  pub few_left : count - size ≤ turns * most

share : (least most turns enough count : ℕ) → least ≤ 1 → least ≤ most → enough ≤ suc turns → enough * least ≤ count → count ≤ suc turns * most → least ≤ count → Share least most turns enough count
share zero most turns enough count one bounds within lower upper some =
    let product = suc_times turns most in
    elim (below_or_not most count) [
      | inl l ↦ record { size = most; enough_first = omega arith; few_first = omega arith; within = omega (arith, l); enough_left = omega arith; few_left = omega (arith, upper, product) }
      | inr l ↦ record { size = count; enough_first = omega arith; few_first = l; within = omega arith; enough_left = omega arith; few_left = omega arith }
    ]
share (suc zero) most turns enough count one bounds within lower upper some =
    let product = suc_times turns most in
    let each = grows turns most bounds in
    elim (below_or_not most (count - (enough - 1))) [
      | inl l ↦ record { size = most; enough_first = bounds; few_first = omega arith; within = omega (arith, l); enough_left = omega (arith, l); few_left = omega (arith, upper, product) }
      | inr l ↦ record { size = count - (enough - 1); enough_first = omega (arith, lower, some); few_first = l; within = omega arith; enough_left = omega (arith, lower); few_left = omega (arith, lower, within, each) }
    ]
share (suc (suc n)) most turns enough count one bounds within lower upper some = absurd (omega (arith, one))

apart : (Member : List ℕ → Type 0) (least most : ℕ) (bound : Option ℕ) → least ≤ 1 → least ≤ most → ((k : ℕ) → k ≤ most → AtMost k bound)
    → (turns enough count : ℕ) → enough ≤ turns → enough * least ≤ count → count ≤ turns * most → (x : List ℕ) → Repeats Member count x → RepeatsWithin (RepeatsWithin Member least bound) enough (Some turns) x
apart Member least most bound one bounds fits zero enough count within lower upper x r =
    let none : count ≡ 0 = omega (arith, upper) in
    record { count = 0; enough = within; few = omega arith; repeats = subst (λ k. Repeats Member k x) none r }
apart Member least most bound one bounds fits (suc turns) enough count within lower upper x r =
    elim (below_or_not count least) [
      | inl short ↦
          (let none : count ≡ 0 = omega (arith, short, one) in
          let is_one : least ≡ 1 = omega (arith, short, one) in
          let unneeded : enough * 1 ≤ count = subst (λ k. enough * k ≤ count) is_one lower in
          record { count = 0; enough = omega (arith, unneeded, none); few = omega arith; repeats = subst (λ k. Repeats Member k x) none r })
      | inr some ↦
          (let s = share least most turns enough count one bounds within lower upper some in
          let size = s.within in
          let split : Splits (Repeats Member s.size) (Repeats Member (count - s.size)) x = repeats_split Member s.size (count - s.size) count (omega (arith, size)) x r in
          let left = apart Member least most bound one bounds fits turns (enough - 1) (count - s.size) (omega (arith, within)) s.enough_left s.few_left split.rest split.second in
          let more = left.enough in
          let few : left.count ≤ turns = left.few in
          record {
            count = suc left.count;
            enough = omega (arith, more);
            few = omega (arith, few);
            repeats = record { front = split.front; rest = split.rest; is = split.is; first = record { count = s.size; enough = s.enough_first; few = fits s.size s.few_first; repeats = split.first }; second = left.repeats };
          })
    ]

-- ---- what they reach

fits_most : (len least : ℕ) (more : Option ℕ) (k : ℕ) → k ≤ least + turns_of len more → AtMost k (most_of least more)
fits_most len least None k l = tt
fits_most len least (Some n) k l = l

-- more members than the product of the bounds are not needed, or have room
room : (len least : ℕ) (more : Option ℕ) (turns all added count : ℕ) → least ≤ 1 → turns ≤ all → ((m : ℕ) → most_of least more ≡ Some m → count ≤ turns * m) → (turns ≡ 0 → count ≡ 0)
    → (enough : ℕ) → enough ≤ all → all * (least + turns_of len more) ≤ enough * least + added → (count ≤ enough * least + added) ⊎ (len ≤ added)
room len least (Some n) turns all added count one within few none enough lower fits =
    let f = few (least + n) refl in
    let r = rises turns all (least + n) within in
    inl (omega (arith, f, r, fits))
room len least None zero all added count one within few none enough lower fits = (let n = none refl in inl (omega (arith, n)))
room len zero None (suc turns) (suc all) added count one within few none enough lower fits = (let p = suc_times all len in inr (omega (arith, fits, p)))
room len (suc zero) None (suc turns) (suc all) added count one within few none enough lower fits =
    let p = suc_times all (1 + len) in
    let g = grows all (1 + len) (omega arith) in
    inr (omega (arith, fits, p, g, lower))
room len (suc (suc n)) None (suc turns) (suc all) added count one within few none enough lower fits = absurd (omega (arith, one))
room len least None (suc turns) zero added count one within few none enough lower fits = absurd (omega (arith, within))

cut_short : (Member : List ℕ → Type 0) (from added count : ℕ) (x : List ℕ) → length x ≤ added → from ≤ count → Repeats Member count x → RepeatsWithin Member from (Some (from + added)) x
cut_short Member from added count x short enough r =
    let s = within_split from None x (record { count = count; enough = enough; few = tt; repeats = r }) in
    let room : from + added - from ≡ added = omega arith in
    let parts : length x ≡ length s.front + length s.rest = ap length s.is ∙ length-append s.front s.rest in
    let second : RepeatsWithin Member 0 (Some added) s.rest = cut added s.rest (omega (arith, parts, short)) s.second in
    within_join from (Some (from + added)) (omega arith) x (record { front = s.front; rest = s.rest; is = s.is; first = s.first; second = subst (λ m. RepeatsWithin Member 0 (Some m) s.rest) (sym room) second })

pub joined_ends : (Member : List ℕ → Type 0) (once : ℕ) (more : Option ℕ) (least further added most : ℕ) (text : List ℕ) (starts ends : PositionSet) → once ≤ 1 → most ≡ once + turns_of (length text) more → length text < 2 ^ 63
    → least * once + added ≤ (least + further) * most → ((least + further) * most ≤ least * once + added) ⊎ (2 ^ 63 ≤ added)
    → AreEnds (RepeatsWithin Member (least * once) (Some (least * once + added))) text starts ends → AreEnds (RepeatsWithin (RepeatsWithin Member once (most_of once more)) least (Some (least + further))) text starts ends
joined_ends Member once more least further added most text starts ends one is short fits enough a = ends_same text starts ends to back a
  where
    to : (x : List ℕ) → RepeatsWithin Member (least * once) (Some (least * once + added)) x → RepeatsWithin (RepeatsWithin Member once (most_of once more)) least (Some (least + further)) x
    to x r =
        let few : r.count ≤ least * once + added = r.few in
        apart Member once most (most_of once more) one (omega (arith, is)) (λ k l. fits_most (length text) once more k (omega (arith, l, is))) (least + further) least r.count (omega arith) r.enough (omega (arith, few, fits)) x r.repeats

    back : (x : List ℕ) → length x ≤ length text → RepeatsWithin (RepeatsWithin Member once (most_of once more)) least (Some (least + further)) x → RepeatsWithin Member (least * once) (Some (least * once + added)) x
    back x l r =
        let t = together Member once (most_of once more) r.count x r.repeats in
        let turns = r.enough in
        let within : r.count ≤ least + further = r.few in
        let rise = rises least r.count once turns in
        let lower = t.enough in
        let from : least * once ≤ t.count = omega (arith, rise, lower) in
        let whole : ((least + further) * most ≤ least * once + added) ⊎ (length text ≤ added) = elim enough [ inl i ↦ inl i | inr i ↦ inr (omega (arith, i, short)) ] in
        let has_room : (t.count ≤ least * once + added) ⊎ (length text ≤ added) =
        elim whole [
          | inl i ↦ room (length text) once more r.count (least + further) added t.count one within t.few t.none least (omega arith) (subst (λ m. (least + further) * m ≤ least * once + added) is i)
          | inr i ↦ inr i
        ] in
        elim has_room [
          | inl i ↦ record { count = t.count; enough = from; few = i; repeats = t.repeats }
          | inr i ↦ cut_short Member (least * once) added t.count x (omega (arith, i, l)) from t.repeats
        ]

-- without a bound, as many further turns as the text has scalars are as good
pub turns_ends : (Member : List ℕ → Type 0) (least : ℕ) (further : Option ℕ) (text : List ℕ) (starts ends : PositionSet) → AreEnds (RepeatsWithin Member least (Some (least + turns_of (length text) further))) text starts ends → AreEnds (RepeatsWithin Member least (most_of least further)) text starts ends
turns_ends Member least (Some n) text starts ends a = a
turns_ends Member least None text starts ends a =
    ends_same text starts ends (λ x r. record { count = r.count; enough = r.enough; few = tt; repeats = r.repeats }) (λ x l r. cut_short Member least (length text) r.count x l r.enough r.repeats) a

-- ---- a part that is all of another one

repeats_alike : (First Second : List ℕ → Type 0) → ((x : List ℕ) → First x → Second x) → (count : ℕ) (x : List ℕ) → Repeats First count x → Repeats Second count x
repeats_alike First Second f zero x r = r
repeats_alike First Second f (suc count) x r = record { front = r.front; rest = r.rest; is = r.is; first = f r.front r.first; second = repeats_alike First Second f count r.rest r.second }

within_alike : (First Second : List ℕ → Type 0) → ((x : List ℕ) → First x → Second x) → (least : ℕ) (most : Option ℕ) (x : List ℕ) → RepeatsWithin First least most x → RepeatsWithin Second least most x
within_alike First Second f least most x r = record { count = r.count; enough = r.enough; few = r.few; repeats = repeats_alike First Second f r.count x r.repeats }

pub table_alike : (First Second : List ℕ → Type 0) (text : List ℕ) (rows : List PositionSet) → AreAlike First Second → IsTable First text rows → IsTable Second text rows
table_alike First Second text rows a t = record {
  size = t.size;
  each = λ p row l is. (let e = t.each p row l is in record { over = e.over; sound = λ q h. reach_map a.to text p q (e.sound q h); complete = λ q r. e.complete q (reach_map a.from text p q r) });
}

only_in_sequence : (r : Pattern) → AreAlike (Language r) (Language (followed_by r empty))
only_in_sequence r = record {
  to = λ x m. record { front = x; rest = []; is = sym (append-nil x); first = m; second = refl };
  from = λ x s. subst (Language r) (sym (s.is ∙ ap (λ y. s.front ++ y) s.second ∙ append-nil s.front)) s.first;
}

only_in_choice : (r : Pattern) → AreAlike (Language r) (Language (either_of r never))
only_in_choice r = record { to = λ x m. inl m; from = λ x m. elim m [ inl i ↦ i | inr i ↦ absurd i ] }

one_item : (parts : List Node) (part : Node) → length parts ≡ 1 → part ≡ get_or parts 0 part → parts ≡ part ∷ []
one_item [] part size is = absurd (omega (arith, size))
one_item (p ∷ []) part size is = ap (λ n. n ∷ []) (sym is)
one_item (p ∷ q ∷ parts) part size is = absurd (omega (arith, size))

only_alike : (node part : Node) (parts : Vec Node Global) → (node ≡ Sequence parts) ⊎ (node ≡ Choice parts) → parts.items ≡ part ∷ [] → AreAlike (Language (tree_of part)) (Language (tree_of node))
only_alike node part parts (inl is) one =
    let tree : tree_of node ≡ followed_by (tree_of part) empty = ap tree_of is ∙ tree_of_Sequence parts ∙ ap sequence_list one in
    subst (λ (r : Pattern). AreAlike (Language (tree_of part)) (Language r)) (sym tree) (only_in_sequence (tree_of part))
only_alike node part parts (inr is) one =
    let tree : tree_of node ≡ either_of (tree_of part) never = ap tree_of is ∙ tree_of_Choice parts ∙ ap choice_list one in
    subst (λ (r : Pattern). AreAlike (Language (tree_of part)) (Language r)) (sym tree) (only_in_choice (tree_of part))

part_numbered : (bodies : List Pattern) (node part : Node) (parts : Vec Node Global) → (node ≡ Sequence parts) ⊎ (node ≡ Choice parts) → parts.items ≡ part ∷ [] → Numbered bodies node → Numbered bodies part
part_numbered bodies node part parts (inl is) one k = (subst (NumberedList bodies) one (from_Sequence bodies parts (subst (Numbered bodies) is k))).0
part_numbered bodies node part parts (inr is) one k = (subst (NumberedList bodies) one (from_Choice bodies parts (subst (Numbered bodies) is k))).0

number_alike : (bodies : List Pattern) (node part : Node) (number : ℕ) → AreAlike (Language (tree_of part)) (Language (tree_of node)) → IsNumber bodies node number → IsNumber bodies part number
number_alike bodies node part number a k = record { to = λ x m. a.from x (k.to x m); from = λ x m. k.from x (a.to x m) }

length_alike : (node part : Node) (noted : Option ℕ) → AreAlike (Language (tree_of part)) (Language (tree_of node)) → IsLength node noted → IsLength part noted
length_alike node part None a is = tt
length_alike node part (Some n) a is = (is.0, λ x m. is.1 x (a.to x m))

module _ (node part : Node) (parts : Vec Node Global) (items : List Node) (is : (node ≡ Sequence parts) ⊎ (node ≡ Choice parts)) (are : items ≡ parts.items) (size : length items ≡ 1) (found : part ≡ get_or items 0 part) where
  one : parts.items ≡ part ∷ []
  one = sym are ∙ one_item items part size found

  pub only_numbered : (bodies : List Pattern) (number : ℕ) → Numbered bodies node × IsNumber bodies node number → Numbered bodies part × IsNumber bodies part number
  only_numbered bodies number k = (part_numbered bodies node part parts is one k.0, number_alike bodies node part number (only_alike node part parts is one) k.1)

  pub only_length : (noted : Option ℕ) → IsLength node noted → IsLength part noted
  only_length noted = length_alike node part noted (only_alike node part parts is one)

  pub only_ends : (least : ℕ) (most : Option ℕ) (text : List ℕ) (starts ends : PositionSet) → AreEnds (RepeatsWithin (Language (tree_of part)) least most) text starts ends → AreEnds (RepeatsWithin (Language (tree_of node)) least most) text starts ends
  only_ends least most text starts ends a =
      let alike = only_alike node part parts is one in
      ends_same text starts ends (within_alike (Language (tree_of part)) (Language (tree_of node)) alike.to least most) (λ x _ r. within_alike (Language (tree_of node)) (Language (tree_of part)) alike.from least most x r) a
