-- The names by which paths go on after the node that is shown at a path.
use Rattle.std.proofs.Common.{◌≡◌, ◌∙◌, ◌||◌, ℕ, ◌<◌, ◌⊎◌, inl, inr, List, [], ◌∷◌, ◌++◌, length, Bool, true, false, ap, refl, sym, subst, arith, append_assoc}
use Rattle.std.specs.Prelude.{fold, if◌then◌else◌}
use Rattle.std.specs.List.{list_any}
use Rattle.std.specs.Set.{is_member}
use Rattle.std.proofs.lemmas.Bool.{lt-ltb, ltb-true, or_cases, or_left}
use Rattle.std.proofs.lemmas.List.Folds.{Any-from_list_any, list_any-append, list_any-from_Any}
use Rattle.std.proofs.lemmas.Slice.Eq.{bytes_eq-Decides}
use Rattle.jp_model.specs.Characters.{text_equal}
use Rattle.jp_survey.specs.Foldings.{Closed, folded_by}
use Rattle.jp_survey.specs.Folds.{first_name, first_names, has_many_names}
use Rattle.jp_survey.specs.Justified.{names_after, rest_after, rests_after}
use Rattle.jp_survey.specs.Paths.{Path, element, member, others, path_equal}
use Rattle.jp_survey.proofs.Distinct.{fewer_names}
use Rattle.jp_survey.proofs.Equalities.{path_itself, path_same}
use Rattle.jp_survey.proofs.Folded.{refolded}
use Rattle.jp_survey.proofs.Folds.{length-folded_by, rest_at, rest_none, split_at}

-- a path goes on by a name after the node that is shown at another
abbrev pub GoesOn : (folds : List Path) → (above : Path) → (name : List ℕ) → Path → Type 0
GoesOn folds above name path = (front : Path) × (rest : Path) × (path ≡ front ++ member name ∷ rest) × (folded_by folds front ≡ above)

first_append : (xs ys : List Path) → first_names (xs ++ ys) ≡ first_names xs ++ first_names ys
first_append [] ys = refl
first_append (x ∷ xs) ys = ap (λ (more : List (List ℕ)). first_name x ++ more) (first_append xs ys) ∙ sym (append_assoc (first_name x) (first_names xs) (first_names ys))

-- whether a path does
abbrev pub goes_on : (folds : List Path) → (above : Path) → (name : List ℕ) → Path → Bool
goes_on folds above name path = is_member text_equal (first_names (rest_after folds above path)) name

pub names_any : (folds : List Path) (above : Path) (paths : List Path) (name : List ℕ) → is_member text_equal (names_after folds above paths) name ≡ list_any (goes_on folds above name) paths
names_any folds above [] name = refl
names_any folds above (path ∷ paths) name =
    ap (λ (names : List (List ℕ)). is_member text_equal names name) (first_append (rest_after folds above path) (rests_after folds above paths))
    ∙ (list_any-append (text_equal name) (first_names (rest_after folds above path)) (names_after folds above paths)
    ∙ ap (λ (b : Bool). goes_on folds above name path || b) (names_any folds above paths name))

module _ (folds : List Path) (above : Path) (name : List ℕ) where
  by_first : (q r : Path) → folded_by folds q ≡ above → is_member text_equal (first_names (r ∷ [])) name ≡ true → GoesOn folds above name (q ++ r)
  by_first q [] at e = absurd (cc)
  by_first q (element ∷ r) at e = absurd (cc)
  by_first q (others ∷ r) at e = absurd (cc)
  by_first q (member y ∷ r) at e = same (or_cases (text_equal name y) false e)
    where
      same : ((text_equal name y ≡ true) ⊎ (false ≡ true)) → GoesOn folds above name (q ++ member y ∷ r)
      same (inl f) = (q, r, ap (λ (x : List ℕ). q ++ member x ∷ r) (sym ((bytes_eq-Decides name y).0 f)), at)
      same (inr f) = absurd (cc)

  by_rest : (q r : Path) (b : Bool) → path_equal above (folded_by folds q) ≡ b → is_member text_equal (first_names (if b then r ∷ [] else [])) name ≡ true → GoesOn folds above name (q ++ r)
  by_rest q r true at e = by_first q r (sym (path_same above (folded_by folds q) at)) e
  by_rest q r false at e = absurd (cc)

  pub goes_on_found : (path : Path) → goes_on folds above name path ≡ true → GoesOn folds above name path
  goes_on_found path e = by (split_at (length above) path)
    where
      by : ((length path < length above) ⊎ ((q : Path) × (r : Path) × (length q ≡ length above) × (path ≡ q ++ r))) → GoesOn folds above name path
      by (inl short) =
          let none : false ≡ true = ap (λ (rests : List Path). is_member text_equal (first_names rests) name) (sym (rest_none folds above path short)) ∙ e in
          absurd (cc)
      by (inr parts) =
          let rests = ap (rest_after folds above) parts.3 ∙ rest_at folds above parts.0 parts.1 parts.2 in
          subst (GoesOn folds above name) (sym parts.3)
          (by_rest parts.0 parts.1 (path_equal above (folded_by folds parts.0)) refl
          (ap (λ (found : List Path). is_member text_equal (first_names found) name) (sym rests) ∙ e))

  pub goes_on_there : (path : Path) → GoesOn folds above name path → goes_on folds above name path ≡ true
  goes_on_there path it =
      let q = it.0 in let r : Path = member name ∷ it.1 in
      let long : length q ≡ length above = sym (length-folded_by folds q) ∙ ap length it.3 in
      let same : path_equal above (folded_by folds q) ≡ true = ap (path_equal above) it.3 ∙ path_itself above in
      let rests : rest_after folds above path ≡ r ∷ [] =
      ap (rest_after folds above) it.2 ∙ (rest_at folds above q r long ∙ ap (λ (b : Bool). if b then r ∷ [] else []) same) in
      ap (λ (found : List Path). is_member text_equal (first_names found) name) rests ∙ or_left (text_equal name name) false ((bytes_eq-Decides name name).1 refl)

-- what passes one test passes another
pub any_weaker : {X : Type 0} (p q : X → Bool) (xs : List X) → ((x : X) → p x ≡ true → q x ≡ true) → list_any p xs ≡ true → list_any q xs ≡ true
any_weaker p q xs weaker e = let found = Any-from_list_any p xs e in list_any-from_Any q xs (found.0, found.1, found.2, found.3, weaker found.1 found.4)

-- where more objects are folded the same names come after it
pub names_closed : (folds more : List Path) → Closed more folds → (above : Path) (seen : List Path) (name : List ℕ)
    → is_member text_equal (names_after folds above seen) name ≡ true → is_member text_equal (names_after more (folded_by more above) seen) name ≡ true
names_closed folds more closed above seen name e =
    names_any more (folded_by more above) seen name
    ∙ any_weaker (goes_on folds above name) (goes_on more (folded_by more above) name) seen
    (λ path there. goes_on_there more (folded_by more above) name path (on path (goes_on_found folds above name path there)))
    (sym (names_any folds above seen name) ∙ e)
  where
    on : (path : Path) → GoesOn folds above name path → GoesOn more (folded_by more above) name path
    on path it = (it.0, it.1, it.2, sym (refolded folds more closed it.0) ∙ ap (folded_by more) it.3)

-- paths that begin by all names of others begin by many where these do
pub many_more : (fold : ℕ) (some more : List Path) → ((name : List ℕ) → is_member text_equal (first_names some) name ≡ true → is_member text_equal (first_names more) name ≡ true)
    → has_many_names fold some ≡ true → has_many_names fold more ≡ true
many_more fold some more within e =
    let fewer = fewer_names (first_names some) (first_names more) within in
    let many = ltb-true fold _ e in
    lt-ltb fold _ (omega (arith, fewer, many))
