-- How many members by name places have.
use Rattle.std.proofs.Common.{◌≡◌, ◌∙◌, ℕ, zero, suc, ◌+◌, ◌<◌, ◌≤◌, ◌⊎◌, inl, inr, List, [], ◌∷◌, ◌++◌, length, get_or, set, Bool, true, false, ◌&&◌, cond, ap, ap₂, refl, sym, arith, eqb}
use Rattle.std.specs.Prelude.{if◌then◌else◌, not}
use Rattle.std.proofs.lemmas.Bool.{and_left, and_right, cases_eq, cases_lt, eq-eqb, ne_eqb}
use Rattle.std.proofs.lemmas.List.{get_or-set_other, get_or-set_same, get_or_append_left, get_or_push, length_push}
use Rattle.std.proofs.lemmas.List.Sums.{sum_by_push}
use Rattle.jp_survey.specs.Places.{is_member_of, is_named, link_at, members_of, root_link}
use Rattle.jp_survey.specs.declared.links.Link.{Link}
use Rattle.jp_survey.specs.declared.links.Step.{Step}
use Rattle.jp_survey.specs.declared.links.Step.TheVariants as steps
use Rattle.jp_survey.proofs.Pushed.{each_pushed}

abbrev one_where : Bool → ℕ
one_where b = cond b 1 0

past_end : (xs : List ℕ) (k : ℕ) → length xs ≤ k → get_or xs k 0 ≡ 0
past_end [] k l = refl
past_end (x ∷ xs) zero l = absurd (omega (arith, l))
past_end (x ∷ xs) (suc k) l = past_end xs k (omega (arith, l))

-- a number 0 more changes none
zero_pushed : (xs : List ℕ) (k : ℕ) → get_or (xs ++ 0 ∷ []) k 0 ≡ get_or xs k 0
zero_pushed xs k = by (cases_lt k (length xs))
  where
    last : ((k < length xs + 1) ⊎ (length xs + 1 ≤ k)) → length xs ≤ k → get_or (xs ++ 0 ∷ []) k 0 ≡ 0
    last (inl s) l = get_or_push xs 0 0 k (omega (arith, s, l))
    last (inr s) l = past_end (xs ++ 0 ∷ []) k (let one = length_push xs 0 in omega (arith, one, s))

    by : ((k < length xs) ⊎ (length xs ≤ k)) → get_or (xs ++ 0 ∷ []) k 0 ≡ get_or xs k 0
    by (inl s) = get_or_append_left xs (0 ∷ []) 0 k s
    by (inr s) = last (cases_lt k (length xs + 1)) s ∙ sym (past_end xs k s)

pub members_push : (links : List Link) (link : Link) (k : ℕ) → members_of (links ++ link ∷ []) k ≡ members_of links k + cond (is_member_of k link) 1 0
members_push links link k = sum_by_push (λ (l : Link). cond (is_member_of k l) 1 0) links link

pub linked_within : (links : List Link) → ((k : ℕ) → k < length links → (link_at links k).parent < length links) → (link : Link) → link.parent < length links
    → (k : ℕ) → k < length (links ++ link ∷ []) → (link_at (links ++ link ∷ []) k).parent < length (links ++ link ∷ [])
linked_within links within link inside k l =
    let one = length_push links link in
    each_pushed links link root_link (λ (n : ℕ) (x : Link). x.parent < length (links ++ link ∷ [])) (λ n s. let w = within n s in omega (arith, w, one)) (omega (arith, inside, one)) k l

module _ (links : List Link) (members : List ℕ) (each : (k : ℕ) → get_or members k 0 ≡ members_of links k) (link : Link) where
  other_member : (k : ℕ) → is_member_of k link ≡ false → members_of (links ++ link ∷ []) k ≡ members_of links k
  other_member k e = let push = members_push links link k in let none : one_where (is_member_of k link) ≡ 0 = ap one_where e in omega (arith, push, none)

  -- a place that is no member by name
  pub counted_plain : is_named link.step ≡ false → (k : ℕ) → get_or (members ++ 0 ∷ []) k 0 ≡ members_of (links ++ link ∷ []) k
  counted_plain plain k = zero_pushed members k ∙ (each k ∙ sym (other_member k (and_right (eqb link.parent k) (is_named link.step) plain)))

  -- a member by name
  pub counted_named : is_named link.step ≡ true → link.parent < length (members ++ 0 ∷ []) → (count : ℕ) → count ≡ get_or (members ++ 0 ∷ []) link.parent 0 + 1
      → (k : ℕ) → get_or (set (members ++ 0 ∷ []) link.parent count) k 0 ≡ members_of (links ++ link ∷ []) k
  counted_named named inside count is k = by (cases_eq k link.parent)
    where
      by : ((k ≡ link.parent) ⊎ (k ≡ link.parent → ⊥)) → get_or (set (members ++ 0 ∷ []) link.parent count) k 0 ≡ members_of (links ++ link ∷ []) k
      by (inl e) =
          let here : get_or (set (members ++ 0 ∷ []) link.parent count) k 0 ≡ count =
          ap (λ (n : ℕ). get_or (set (members ++ 0 ∷ []) link.parent count) n 0) e ∙ get_or-set_same (members ++ 0 ∷ []) link.parent count 0 inside in
          let was : get_or (members ++ 0 ∷ []) link.parent 0 ≡ members_of links k = ap (λ (n : ℕ). get_or (members ++ 0 ∷ []) n 0) (sym e) ∙ (zero_pushed members k ∙ each k) in
          let one : one_where (is_member_of k link) ≡ 1 = ap one_where (ap₂ (λ (a b : Bool). a && b) (eq-eqb link.parent k (sym e)) named) in
          let push = members_push links link k in
          omega (arith, here, was, one, push, is)
      by (inr ne) =
          get_or-set_other (members ++ 0 ∷ []) link.parent k count 0 ne
          ∙ (zero_pushed members k ∙ (each k ∙ sym (other_member k (and_left (eqb link.parent k) (is_named link.step) (ne_eqb link.parent k (λ e. ne (sym e)))))))

-- a link that is new goes last
pub fresh_link : (there added : Bool) (links after : List Link) (link : Link) → added ≡ not there → added ≡ true → after ≡ (if there then links else links ++ link ∷ []) → after ≡ links ++ link ∷ []
fresh_link true added links after link e t is = absurd (cc)
fresh_link false added links after link e t is = is

-- a step that is by no name
pub plain_step : (s : Step) → ((s ≡ steps.Start) ⊎ ((s ≡ steps.Element) ⊎ (s ≡ steps.Others))) → is_named s ≡ false
plain_step s (inl e) = ap is_named e
plain_step s (inr (inl e)) = ap is_named e
plain_step s (inr (inr e)) = ap is_named e
