-- The sets of a part's turns, and of the parts of a sequence or a choice, by the last one.
use Rattle.std.proofs.Common.{◌≡◌, ℕ, zero, suc, ◌+◌, ◌-◌, ◌≤◌, ◌⊎◌, inl, inr, List, [], ◌∷◌, ◌++◌, Option, Some, None, arith, refl, sym, ◌∙◌, ap, subst, append-nil, append_assoc}
use Rattle.jp_model.specs.Pattern.Language.{Language, Splits, Repeats, RepeatsWithin}
use Rattle.jp_iregexp.specs.declared.node.Node.{Node}
use Rattle.jp_iregexp.specs.Layouts.{turns_in_front}
use Rattle.jp_iregexp.specs.Nodes.{most_of, tree_of, sequence_list, choice_list}
use Rattle.jp_iregexp.proofs.Sums.{some_of_none}
use Rattle.jp_iregexp.proofs.Reaching.{repeats_join, repeats_split}

module _ (Member : List ℕ → Type 0) where
  one_repeat : (x : List ℕ) → Member x → Repeats Member 1 x
  one_repeat x m = record { front = x; rest = []; is = sym (append-nil x); first = m; second = refl }

  repeat_one : (x : List ℕ) → Repeats Member 1 x → Member x
  repeat_one x r = subst Member (sym (r.is ∙ ap (λ y. r.front ++ y) r.second ∙ append-nil r.front)) r.first

  pub turn_more : (n : ℕ) (x : List ℕ) → Splits (Repeats Member n) Member x → Repeats Member (n + 1) x
  turn_more n x s = repeats_join Member n 1 (n + 1) refl x (record { front = s.front; rest = s.rest; is = s.is; first = s.first; second = one_repeat s.rest s.second })

  pub turn_fewer : (n : ℕ) (x : List ℕ) → Repeats Member (n + 1) x → Splits (Repeats Member n) Member x
  turn_fewer n x r = (let s = repeats_split Member n 1 (n + 1) refl x r in record { front = s.front; rest = s.rest; is = s.is; first = s.first; second = repeat_one s.rest s.second })

  pub within_more : (n : ℕ) (x : List ℕ) → Splits (RepeatsWithin Member 0 (Some n)) Member x ⊎ (x ≡ []) → RepeatsWithin Member 0 (Some (n + 1)) x
  within_more n x m = elim m [
    | inl s ↦ (let few = s.first.few in record { count = s.first.count + 1; enough = omega arith; few = omega (arith, few); repeats = turn_more s.first.count x (record { front = s.front; rest = s.rest; is = s.is; first = s.first.repeats; second = s.second }) })
    | inr e ↦ record { count = 0; enough = omega arith; few = omega arith; repeats = e }
  ]

  pub within_fewer : (n count : ℕ) (x : List ℕ) → count ≤ n + 1 → Repeats Member count x → Splits (RepeatsWithin Member 0 (Some n)) Member x ⊎ (x ≡ [])
  within_fewer n zero x few r = inr r
  within_fewer n (suc count) x few r =
      let one : suc count ≡ count + 1 = omega arith in
      let s = turn_fewer count x (subst (λ k. Repeats Member k x) one r) in
      inl (record { front = s.front; rest = s.rest; is = s.is; first = record { count = count; enough = omega arith; few = omega arith; repeats = s.first }; second = s.second })

  -- ---- where no member but the empty text is

  module _ (only : (x : List ℕ) → Member x → x ≡ []) where
    all_empty : (count : ℕ) (x : List ℕ) → Repeats Member count x → x ≡ []
    all_empty zero x r = r
    all_empty (suc count) x r = r.is ∙ ap (λ y. y ++ r.rest) (only r.front r.first) ∙ all_empty count r.rest r.second

    so_many : (count : ℕ) → Member [] → Repeats Member count []
    so_many zero m = refl
    so_many (suc count) m = record { front = []; rest = []; is = refl; first = m; second = so_many count m }

    pub as_many : (count other : ℕ) (x : List ℕ) → 1 ≤ count → Repeats Member count x → Repeats Member other x
    as_many count other x some r =
        let e = all_empty count x r in
        subst (Repeats Member other) (sym e) (so_many other (some_of_none Member count some (subst (Repeats Member count) e r)))

    pub at_most_none : (n count : ℕ) (x : List ℕ) → Repeats Member count x → RepeatsWithin Member 0 (Some n) x
    at_most_none n count x r = record { count = 0; enough = omega arith; few = omega arith; repeats = all_empty count x r }

  -- ---- the turns in front and the last ones

  pub times_join : (least : ℕ) (further : Option ℕ) (x : List ℕ) → Splits (Repeats Member (turns_in_front least further)) (RepeatsWithin Member (least - turns_in_front least further) further) x → RepeatsWithin Member least (most_of least further) x
  times_join least None x s =
      let w = s.second in
      let enough = w.enough in
      record { count = (least - 1) + w.count; enough = omega (arith, enough); few = tt; repeats = repeats_join Member (least - 1) w.count ((least - 1) + w.count) refl x (record { front = s.front; rest = s.rest; is = s.is; first = s.first; second = w.repeats }) }
  times_join least (Some further) x s =
      let w = s.second in
      let few = w.few in
      record { count = least + w.count; enough = omega arith; few = omega (arith, few); repeats = repeats_join Member least w.count (least + w.count) refl x (record { front = s.front; rest = s.rest; is = s.is; first = s.first; second = w.repeats }) }

  pub times_split : (least : ℕ) (further : Option ℕ) (x : List ℕ) → RepeatsWithin Member least (most_of least further) x → Splits (Repeats Member (turns_in_front least further)) (RepeatsWithin Member (least - turns_in_front least further) further) x
  times_split least None x w =
      let enough = w.enough in
      let s = repeats_split Member (least - 1) (w.count - (least - 1)) w.count (omega (arith, enough)) x w.repeats in
      record { front = s.front; rest = s.rest; is = s.is; first = s.first; second = record { count = w.count - (least - 1); enough = omega (arith, enough); few = tt; repeats = s.second } }
  times_split least (Some further) x w =
      let enough = w.enough in
      let few = w.few in
      let s = repeats_split Member least (w.count - least) w.count (omega (arith, enough)) x w.repeats in
      record { front = s.front; rest = s.rest; is = s.is; first = s.first; second = record { count = w.count - least; enough = omega arith; few = omega (arith, few); repeats = s.second } }

-- ---- parts

pub sequence_more : (parts : List Node) (part : Node) (x : List ℕ) → Splits (Language (sequence_list parts)) (Language (tree_of part)) x → Language (sequence_list (parts ++ part ∷ [])) x
sequence_more [] part x s = record { front = x; rest = []; is = sym (append-nil x); first = subst (Language (tree_of part)) (sym (s.is ∙ ap (λ y. y ++ s.rest) s.first)) s.second; second = refl }
sequence_more (p ∷ parts) part x s =
    let f = s.first in
    record {
      front = f.front;
      rest = f.rest ++ s.rest;
      is = s.is ∙ ap (λ y. y ++ s.rest) f.is ∙ append_assoc f.front f.rest s.rest;
      first = f.first;
      second = sequence_more parts part (f.rest ++ s.rest) (record { front = f.rest; rest = s.rest; is = refl; first = f.second; second = s.second });
    }

pub sequence_fewer : (parts : List Node) (part : Node) (x : List ℕ) → Language (sequence_list (parts ++ part ∷ [])) x → Splits (Language (sequence_list parts)) (Language (tree_of part)) x
sequence_fewer [] part x s = record { front = []; rest = x; is = refl; first = refl; second = subst (Language (tree_of part)) (sym (s.is ∙ ap (λ y. s.front ++ y) s.second ∙ append-nil s.front)) s.first }
sequence_fewer (p ∷ parts) part x s =
    let r = sequence_fewer parts part s.rest s.second in
    record {
      front = s.front ++ r.front;
      rest = r.rest;
      is = s.is ∙ ap (λ y. s.front ++ y) r.is ∙ sym (append_assoc s.front r.front r.rest);
      first = record { front = s.front; rest = r.front; is = refl; first = s.first; second = r.first };
      second = r.second;
    }

pub choice_more : (parts : List Node) (part : Node) (x : List ℕ) → Language (choice_list parts) x ⊎ Language (tree_of part) x → Language (choice_list (parts ++ part ∷ [])) x
choice_more [] part x m = elim m [ inl i ↦ absurd i | inr i ↦ inl i ]
choice_more (p ∷ parts) part x m = elim m [
  | inl i ↦ elim i [ inl k ↦ inl k | inr k ↦ inr (choice_more parts part x (inl k)) ]
  | inr i ↦ inr (choice_more parts part x (inr i))
]

pub choice_fewer : (parts : List Node) (part : Node) (x : List ℕ) → Language (choice_list (parts ++ part ∷ [])) x → Language (choice_list parts) x ⊎ Language (tree_of part) x
choice_fewer [] part x m = elim m [ inl i ↦ inr i | inr i ↦ absurd i ]
choice_fewer (p ∷ parts) part x m = elim m [
  | inl i ↦ inl (inl i)
  | inr i ↦ elim (choice_fewer parts part x i) [ inl k ↦ inl (inr k) | inr k ↦ inr k ]
]
