-- One name more, and the objects that are folded.
use Rattle.std.proofs.Common.{◌≡◌, ◌∙◌, ◌≢◌, ℕ, zero, suc, ◌<◌, ◌⊎◌, inl, inr, List, [], ◌∷◌, ◌++◌, length, get_or, Bool, true, false, ◌||◌, ap, ap₂, refl, sym, subst, arith}
use Rattle.std.specs.Prelude.{Any, Some, flat_map, position, if◌then◌else◌}
use Rattle.std.proofs.lemmas.Bool.{false_from_ne_true, or_left, or_right}
use Rattle.std.proofs.lemmas.List.{get_or_append_left, get_or_default, length_push}
use Rattle.std.proofs.lemmas.List.Folds.{list_any_at}
use Rattle.std.proofs.lemmas.List.Quantifiers.{position-Some}
use Rattle.jp_survey.specs.Paths.{Path, Stride, member, path_equal}
use Rattle.jp_survey.specs.Places.{AreApart, ArePlaces, IsKnown, folds_at, folds_of, has_link, has_path, is_rest, is_start, link_at, link_equal, path_at, path_below, paths_below, paths_of, root_link, stride_in}
use Rattle.jp_survey.specs.declared.links.Link.{Link}
use Rattle.jp_survey.specs.declared.links.Step.{Step}
use Rattle.jp_survey.specs.declared.links.Step.TheVariants as steps
use Rattle.jp_survey.proofs.Equalities.{link_itself, link_same, path_itself, path_same}
use Rattle.jp_survey.proofs.Places.{parent_within, path_of_place, same_link}
use Rattle.jp_survey.proofs.Pushed.{distinct_pushed}

-- ---- one name more

module _ (names : List (List ℕ)) (x : List ℕ) where
  stride_kept : (step : Step) → IsKnown names step → stride_in (names ++ x ∷ []) step ≡ stride_in names step
  stride_kept steps.Start known = refl
  stride_kept steps.Element known = refl
  stride_kept (steps.Member n) known = ap member (get_or_append_left names (x ∷ []) [] n known)
  stride_kept steps.Others known = refl

  known_kept : (step : Step) → IsKnown names step → IsKnown (names ++ x ∷ []) step
  known_kept steps.Start known = tt
  known_kept steps.Element known = tt
  known_kept (steps.Member n) known = let one = length_push names x in omega (arith, one, known)
  known_kept steps.Others known = tt

  named_paths : (above : List Path) (links : List Link) → ((k : ℕ) → k < length links → IsKnown names (link_at links k).step) → paths_below (names ++ x ∷ []) above links ≡ paths_below names above links
  named_paths above [] known = refl
  named_paths above (link ∷ more) known =
      named_paths (above ++ path_below (names ++ x ∷ []) above link ∷ []) more (λ k s. known (suc k) (omega (arith, s)))
      ∙ ap (λ (s : Stride). paths_below names (above ++ (if is_start link.step then [] else path_at above link.parent ++ s ∷ []) ∷ []) more) (stride_kept link.step (known 0 (omega arith)))

  module _ (links : List Link) (h : ArePlaces names links) where
    pub more_names_paths : paths_of (names ++ x ∷ []) links ≡ paths_of names links
    more_names_paths = named_paths [] links h.known

    pub more_names_folds : folds_of (names ++ x ∷ []) links ≡ folds_of names links
    more_names_folds = ap (λ (ps : List Path). flat_map (folds_at ps) links) more_names_paths

    pub more_names_apart : AreApart names links → AreApart (names ++ x ∷ []) links
    more_names_apart apart = λ k s named.
        ap₂ has_path more_names_folds (ap (λ (ps : List Path). path_at ps (link_at links k).parent) more_names_paths) ∙ apart k s named

    pub more_names : ((k : ℕ) → k < length names → get_or names k [] ≢ x) → ArePlaces (names ++ x ∷ []) links
    more_names new = record {
      some = h.some;
      root = h.root;
      below = h.below;
      known = λ k s. known_kept (link_at links k).step (h.known k s);
      distinct_names = distinct_pushed names x [] h.distinct_names new;
      distinct_paths = λ j k s t e. h.distinct_paths j k s t
          (ap (λ (ps : List Path). path_at ps j) (sym more_names_paths) ∙ (e ∙ ap (λ (ps : List Path). path_at ps k) more_names_paths));
    }

-- what stays where names may be more
pub names_stay : (links : List Link) (old new : List (List ℕ)) (x : List ℕ) → ArePlaces old links → AreApart old links
    → ((new ≡ old) ⊎ ((new ≡ old ++ x ∷ []) × ((k : ℕ) → k < length old → get_or old k [] ≢ x)))
    → ArePlaces new links × AreApart new links × (paths_of new links ≡ paths_of old links) × (folds_of new links ≡ folds_of old links)
names_stay links old new x h apart (inl e) = (
  subst (λ (n : List (List ℕ)). ArePlaces n links) (sym e) h,
  subst (λ (n : List (List ℕ)). AreApart n links) (sym e) apart,
  ap (λ (n : List (List ℕ)). paths_of n links) e,
  ap (λ (n : List (List ℕ)). folds_of n links) e,
)
names_stay links old new x h apart (inr e) = (
  subst (λ (n : List (List ℕ)). ArePlaces n links) (sym e.0) (more_names old x links h e.1),
  subst (λ (n : List (List ℕ)). AreApart n links) (sym e.0) (more_names_apart old x links h apart),
  ap (λ (n : List (List ℕ)). paths_of n links) e.0 ∙ more_names_paths old x links h,
  ap (λ (n : List (List ℕ)). folds_of n links) e.0 ∙ more_names_folds old x links h,
)

-- ---- objects that are folded

-- a path of an object that is folded is that above a place for all others
pub fold_found : (paths : List Path) (links : List Link) (path : Path) → has_path (flat_map (folds_at paths) links) path ≡ true
    → Any (λ (link : Link). (is_rest link.step ≡ true) × (path_at paths link.parent ≡ path)) links
fold_found paths [] path e = absurd (cc)
fold_found paths (link ∷ more) path e = by (is_rest link.step) refl e (λ e. fold_found paths more path e)
  where
    P : Link → Type 0
    P link = (is_rest link.step ≡ true) × (path_at paths link.parent ≡ path)

    later : Any (λ (link : Link). (is_rest link.step ≡ true) × (path_at paths link.parent ≡ path)) more
        → Any (λ (link : Link). (is_rest link.step ≡ true) × (path_at paths link.parent ≡ path)) (link ∷ more)
    later h = (suc h.0, h.1, omega (arith, h.2), h.3, h.4)

    here : (b : Bool) → path_equal path (path_at paths link.parent) ≡ b → is_rest link.step ≡ true → (b || has_path (flat_map (folds_at paths) more) path) ≡ true
        → (has_path (flat_map (folds_at paths) more) path ≡ true → Any (λ (link : Link). (is_rest link.step ≡ true) × (path_at paths link.parent ≡ path)) more)
        → Any (λ (link : Link). (is_rest link.step ≡ true) × (path_at paths link.parent ≡ path)) (link ∷ more)
    here true same r e rest = (0, link, omega arith, refl, (r, sym (path_same path (path_at paths link.parent) same)))
    here false same r e rest = later (rest e)

    by : (b : Bool) → is_rest link.step ≡ b → has_path ((if b then path_at paths link.parent ∷ [] else []) ++ flat_map (folds_at paths) more) path ≡ true
        → (has_path (flat_map (folds_at paths) more) path ≡ true → Any (λ (link : Link). (is_rest link.step ≡ true) × (path_at paths link.parent ≡ path)) more)
        → Any (λ (link : Link). (is_rest link.step ≡ true) × (path_at paths link.parent ≡ path)) (link ∷ more)
    by true r e rest = here (path_equal path (path_at paths link.parent)) refl r e rest
    by false r e rest = later (rest e)

-- and the path above such a place is one
fold_there : (paths : List Path) (links : List Link) (k : ℕ) → k < length links → is_rest (link_at links k).step ≡ true
    → has_path (flat_map (folds_at paths) links) (path_at paths (link_at links k).parent) ≡ true
fold_there paths [] k l r = absurd (omega (arith, l))
fold_there paths (link ∷ more) zero l r =
    ap (λ (b : Bool). has_path ((if b then path_at paths link.parent ∷ [] else []) ++ flat_map (folds_at paths) more) (path_at paths link.parent)) r
    ∙ or_left (path_equal (path_at paths link.parent) (path_at paths link.parent)) (has_path (flat_map (folds_at paths) more) (path_at paths link.parent)) (path_itself (path_at paths link.parent))
fold_there paths (link ∷ more) (suc k) l r = by (is_rest link.step) (fold_there paths more k (omega (arith, l)) r)
  where
    by : (b : Bool) → has_path (flat_map (folds_at paths) more) (path_at paths (link_at more k).parent) ≡ true
        → has_path ((if b then path_at paths link.parent ∷ [] else []) ++ flat_map (folds_at paths) more) (path_at paths (link_at more k).parent) ≡ true
    by true rest = or_right (path_equal (path_at paths (link_at more k).parent) (path_at paths link.parent)) (has_path (flat_map (folds_at paths) more) (path_at paths (link_at more k).parent)) rest
    by false rest = rest

pub rest_is : (s : Step) → is_rest s ≡ true → s ≡ steps.Others
rest_is steps.Start e = absurd (cc)
rest_is steps.Element e = absurd (cc)
rest_is (steps.Member n) e = absurd (cc)
rest_is steps.Others e = refl

pub positive : (names : List (List ℕ)) (links : List Link) (h : ArePlaces names links) (k : ℕ) → k < length links → is_start (link_at links k).step ≡ false → 0 < k
positive names links h zero l told = absurd (let yes = ap (λ (k : Link). is_start k.step) h.root in cc)
positive names links h (suc k) l told = omega arith

module _ (names : List (List ℕ)) (links : List Link) (h : ArePlaces names links) where
  -- the path of a place that has a link
  pub path_of_link : (place : ℕ) (link : Link) → place < length links → link_at links place ≡ link → is_start link.step ≡ false
      → path_at (paths_of names links) place ≡ path_at (paths_of names links) link.parent ++ stride_in names link.step ∷ []
  path_of_link place link l is told =
      path_of_place names links h place (positive names links h place l (ap (λ (k : Link). is_start k.step) is ∙ told)) l
      ∙ ap (λ (k : Link). path_at (paths_of names links) k.parent ++ stride_in names k.step ∷ []) is

  -- an object is folded where a place for all others is below it
  pub is_folded_at : (place parent : ℕ) → place < length links → link_at links place ≡ record { parent = parent; step = steps.Others }
      → has_path (folds_of names links) (path_at (paths_of names links) parent) ≡ true
  is_folded_at place parent l is =
      ap (λ (k : Link). has_path (folds_of names links) (path_at (paths_of names links) k.parent)) (sym is)
      ∙ fold_there (paths_of names links) links place l (ap (λ (k : Link). is_rest k.step) is)

  -- and is not where none is
  pub not_folded_at : (parent : ℕ) → parent < length links → has_link links (record { parent = parent; step = steps.Others }) ≡ false
      → has_path (folds_of names links) (path_at (paths_of names links) parent) ≡ false
  not_folded_at parent l none = false_from_ne_true (has_path (folds_of names links) (path_at (paths_of names links) parent))
      (λ e. none_there (fold_found (paths_of names links) links (path_at (paths_of names links) parent) e))
    where
      none_there : Any (λ (link : Link). (is_rest link.step ≡ true) × (path_at (paths_of names links) link.parent ≡ path_at (paths_of names links) parent)) links → ⊥
      none_there found =
          let k = found.0 in let s = found.2 in
          let is : link_at links k ≡ found.1 = get_or_default links k root_link found.1 s ∙ found.3 in
          let above = h.distinct_paths (link_at links k).parent parent (parent_within names links h k s) l
          (ap (λ (x : Link). path_at (paths_of names links) x.parent) is ∙ found.4.1) in
          let step = ap (λ (x : Link). x.step) is ∙ rest_is found.1.step found.4.0 in
          let there = list_any_at (link_equal (record { parent = parent; step = steps.Others })) links k root_link s
          (ap (link_equal (record { parent = parent; step = steps.Others })) (same_link (link_at links k) (record { parent = parent; step = steps.Others }) above step)
          ∙ link_itself (record { parent = parent; step = steps.Others })) in
          absurd (cc (there, none))

-- where a link is found
pub link_found : (links : List Link) (link : Link) (place : ℕ) → position (link_equal link) links ≡ Some place → (place < length links) × (link_at links place ≡ link)
link_found links link place e =
    let found = position-Some (link_equal link) links place root_link e in
    (found.0, sym (link_same link (link_at links place) found.1))
