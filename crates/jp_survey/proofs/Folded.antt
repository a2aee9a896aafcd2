-- Places whose objects are folded.
use Rattle.std.proofs.Common.{◌≡◌, ◌∙◌, ℕ, zero, suc, ◌<◌, ◌⊎◌, inl, inr, List, [], ◌∷◌, ◌++◌, length, get_or, Bool, true, false, ◌&&◌, ap, refl, sym, arith}
use Rattle.std.specs.Prelude.{fold, if◌then◌else◌}
use Rattle.std.proofs.lemmas.Bool.{cases_Bool}
use Rattle.std.proofs.lemmas.List.{get_or_default}
use Rattle.std.proofs.lemmas.List.Sums.{fold_push}
use Rattle.jp_survey.specs.Foldings.{Closed, folded_by, longer}
use Rattle.jp_survey.specs.Movings.{HaveMoved, folded_step, moved_link}
use Rattle.jp_survey.specs.Paths.{Path, Stride, element, member, others}
use Rattle.jp_survey.specs.Places.{AreApart, ArePlaces, folds_of, has_path, is_named, is_rest, is_start, link_at, path_at, paths_of, root_link, stride_in}
use Rattle.jp_survey.specs.declared.links.Link.{Link}
use Rattle.jp_survey.specs.declared.links.Step.{Step}
use Rattle.jp_survey.specs.declared.links.Step.TheVariants as steps
use Rattle.jp_survey.proofs.Names.{fold_found, is_folded_at, path_of_link, rest_is}
use Rattle.jp_survey.proofs.Places.{parent_within, path_of_place, path_of_root}

pub folded_push : (folds : List Path) (path : Path) (s : Stride) → folded_by folds (path ++ s ∷ []) ≡ longer folds (folded_by folds path) s
folded_push folds path s = fold_push (longer folds) [] path s

-- a member is shown as one of the others where its object is folded
pub shown_folded : (folds : List Path) (above : Path) (x : List ℕ) → has_path folds above ≡ true → longer folds above (member x) ≡ longer folds above others
shown_folded folds above x e = ap (λ (b : Bool). above ++ (if b then others else member x) ∷ []) e

pub shown_plain : (folds : List Path) (above : Path) (x : List ℕ) → has_path folds above ≡ false → longer folds above (member x) ≡ above ++ member x ∷ []
shown_plain folds above x e = ap (λ (b : Bool). above ++ (if b then others else member x) ∷ []) e

-- what is folded twice is folded once, where the second folds all that the first does
module _ (first second : List Path) (closed : Closed second first) where
  refolded_from : (a b : Path) → folded_by second a ≡ b → (path : Path) → folded_by second (fold (longer first) a path) ≡ fold (longer second) b path
  refolded_from a b e [] = e
  refolded_from a b e (s ∷ path) = refolded_from (longer first a s) (longer second b s) (step s) path
    where
      named : (x : List ℕ) → ((has_path first a ≡ true) ⊎ (has_path first a ≡ false)) → folded_by second (longer first a (member x)) ≡ longer second b (member x)
      named x (inl there) =
          ap (folded_by second) (shown_folded first a x there)
          ∙ (folded_push second a others ∙ (ap (λ (p : Path). longer second p others) e
          ∙ sym (shown_folded second b x (ap (has_path second) (sym e) ∙ closed a there))))
      named x (inr plain) = ap (folded_by second) (shown_plain first a x plain) ∙ (folded_push second a (member x) ∙ ap (λ (p : Path). longer second p (member x)) e)

      step : (s : Stride) → folded_by second (longer first a s) ≡ longer second b s
      step element = folded_push second a element ∙ ap (λ (p : Path). longer second p element) e
      step (member x) = named x (cases_Bool (has_path first a))
      step others = folded_push second a others ∙ ap (λ (p : Path). longer second p others) e

  pub refolded : (path : Path) → folded_by second (folded_by first path) ≡ folded_by second path
  refolded path = refolded_from [] [] refl path

-- the paths of places at which no object that is folded has a member by name are folded
module _ (names : List (List ℕ)) (links : List Link) (h : ArePlaces names links) (apart : AreApart names links) where
  shown_itself : (step : Step) (above : Path) → (is_named step ≡ true → has_path (folds_of names links) above ≡ false) → longer (folds_of names links) above (stride_in names step) ≡ above ++ stride_in names step ∷ []
  shown_itself steps.Start above e = refl
  shown_itself steps.Element above e = refl
  shown_itself (steps.Member n) above e = shown_plain (folds_of names links) above (get_or names n []) (e refl)
  shown_itself steps.Others above e = refl

  itself_within : (n k : ℕ) → k < n → k < length links → folded_by (folds_of names links) (path_at (paths_of names links) k) ≡ path_at (paths_of names links) k
  itself_within zero k s l = absurd (omega (arith, s))
  itself_within (suc n) zero s l = ap (folded_by (folds_of names links)) (path_of_root names links h) ∙ sym (path_of_root names links h)
  itself_within (suc n) (suc k) s l =
      let link = link_at links (suc k) in
      let is = path_of_place names links h (suc k) (omega arith) l in
      let above = (h.below (suc k) (omega arith) l).0 in
      ap (folded_by (folds_of names links)) is
      ∙ (folded_push (folds_of names links) (path_at (paths_of names links) link.parent) (stride_in names link.step)
      ∙ (ap (λ (p : Path). longer (folds_of names links) p (stride_in names link.step)) (itself_within n link.parent (omega (arith, above, s)) (parent_within names links h (suc k) l))
      ∙ (shown_itself link.step (path_at (paths_of names links) link.parent) (apart (suc k) l) ∙ sym is)))

  pub folded_itself : (k : ℕ) → k < length links → folded_by (folds_of names links) (path_at (paths_of names links) k) ≡ path_at (paths_of names links) k
  folded_itself k l = itself_within (suc k) k (omega arith) l

  pub closed_itself : Closed (folds_of names links) (folds_of names links)
  closed_itself path e =
      let found = fold_found (paths_of names links) links path e in
      let k = found.0 in let s = found.2 in
      let is : link_at links k ≡ found.1 = get_or_default links k root_link found.1 s ∙ found.3 in
      let at : path_at (paths_of names links) (link_at links k).parent ≡ path = ap (λ (x : Link). path_at (paths_of names links) x.parent) is ∙ found.4.1 in
      ap (has_path (folds_of names links)) (ap (folded_by (folds_of names links)) (sym at) ∙ (folded_itself (link_at links k).parent (parent_within names links h k s) ∙ at)) ∙ e

-- ---- places that have moved

pub no_start_folded : (over : Bool) (step : Step) → is_start step ≡ false → is_start (folded_step over step) ≡ false
no_start_folded over step told = by (is_named step && over)
  where
    by : (b : Bool) → is_start (if b then steps.Others else step) ≡ false
    by true = refl
    by false = told

module _ (fold : ℕ) (names : List (List ℕ)) (links told next : List Link) (h : ArePlaces names links) (to : List ℕ) (moved : HaveMoved fold names links told next to) where
  module _ (folds : List Path) (closed : Closed folds (folds_of names next)) where
    same_stride : (step : Step) (above : Path) (b : Bool) → (b ≡ true → has_path folds above ≡ true) → (is_named step ≡ true) ⊎ (b ≡ false)
        → longer folds above (stride_in names (if b then steps.Others else step)) ≡ longer folds above (stride_in names step)
    same_stride step above false e c = refl
    same_stride steps.Start above true e (inl c) = absurd (cc)
    same_stride steps.Element above true e (inl c) = absurd (cc)
    same_stride (steps.Member n) above true e (inl c) = sym (shown_folded folds above (get_or names n []) (e refl))
    same_stride steps.Others above true e (inl c) = refl
    same_stride step above true e (inr c) = absurd (cc)

    both_or : (a b : Bool) → (a ≡ true) ⊎ ((a && b) ≡ false)
    both_or true b = inl refl
    both_or false b = inr refl

    same_within : (n k : ℕ) → k < n → k < length links
        → folded_by folds (path_at (paths_of names next) (get_or to k 0)) ≡ folded_by folds (path_at (paths_of names links) k)
    same_within zero k s l = absurd (omega (arith, s))
    same_within (suc n) zero s l =
        ap (λ (j : ℕ). folded_by folds (path_at (paths_of names next) j)) moved.root
        ∙ ap (folded_by folds) (path_of_root names next moved.places ∙ sym (path_of_root names links h))
    same_within (suc n) (suc k) s l =
        let link = link_at links (suc k) in let j = get_or to (suc k) 0 in
        let at = moved.at (suc k) (omega arith) l in
        let below = h.below (suc k) (omega arith) l in
        let parent = get_or to link.parent 0 in
        let is = path_of_place names links h (suc k) (omega arith) l in
        let now = path_of_link names next moved.places j (moved_link at.over parent link) at.within at.is (no_start_folded at.over link.step below.1) in
        let above = same_within n link.parent (omega (arith, below, s)) (parent_within names links h (suc k) l) in
        let b = is_named link.step && at.over in
        ap (folded_by folds) now
        ∙ (folded_push folds (path_at (paths_of names next) parent) (stride_in names (folded_step at.over link.step))
        ∙ (ap (λ (p : Path). longer folds p (stride_in names (folded_step at.over link.step))) above
        ∙ (same_stride link.step (folded_by folds (path_at (paths_of names links) link.parent)) b
        (λ e. ap (has_path folds) (sym above) ∙ closed (path_at (paths_of names next) parent)
        (is_folded_at names next moved.places j parent at.within (at.is ∙ ap (λ (c : Bool). record { parent = parent; step = if c then steps.Others else link.step }) e)))
        (both_or (is_named link.step) at.over)
        ∙ (sym (folded_push folds (path_at (paths_of names links) link.parent) (stride_in names link.step)) ∙ sym (ap (folded_by folds) is)))))

    pub moved_same : (k : ℕ) → k < length links → folded_by folds (path_at (paths_of names next) (get_or to k 0)) ≡ folded_by folds (path_at (paths_of names links) k)
    moved_same k l = same_within (suc k) k (omega arith) l

    rest_kept : (over : Bool) (step : Step) → is_rest step ≡ true → folded_step over step ≡ steps.Others
    rest_kept over step e = ap (λ (s : Step). if is_named s && over then steps.Others else s) (rest_is step e)

    pub moved_closed : Closed folds (folds_of names links)
    moved_closed path e =
        let found = fold_found (paths_of names links) links path e in
        let k = found.0 in let s = found.2 in
        let is : link_at links k ≡ found.1 = get_or_default links k root_link found.1 s ∙ found.3 in
        let rest : is_rest (link_at links k).step ≡ true = ap (λ (x : Link). is_rest x.step) is ∙ found.4.0 in
        let above = (link_at links k).parent in
        let at : path_at (paths_of names links) above ≡ path = ap (λ (x : Link). path_at (paths_of names links) x.parent) is ∙ found.4.1 in
        let link = moved.at k (some_rest k s rest) s in
        let there = is_folded_at names next moved.places (get_or to k 0) (get_or to above 0) link.within
        (link.is ∙ ap (λ (t : Step). record { parent = get_or to above 0; step = t }) (rest_kept link.over (link_at links k).step rest)) in
        ap (has_path folds) (ap (folded_by folds) (sym at) ∙ sym (moved_same above (parent_within names links h k s))) ∙ closed (path_at (paths_of names next) (get_or to above 0)) there
      where
        some_rest : (k : ℕ) → k < length links → is_rest (link_at links k).step ≡ true → 0 < k
        some_rest zero l e = absurd (let no = ap (λ (x : Link). is_rest x.step) h.root in cc)
        some_rest (suc k) l e = omega arith
