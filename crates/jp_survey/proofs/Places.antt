-- The paths of places.
use Rattle.std.proofs.Common.{◌≡◌, ◌∙◌, ◌≢◌, ℕ, zero, suc, ◌+◌, ◌<◌, ◌⊎◌, inl, inr, List, [], ◌∷◌, ◌++◌, length, get_or, Bool, true, false, ap, ap₂, refl, sym, subst, arith, append-nil, if◌then◌else◌}
use Rattle.std.proofs.lemmas.List.{get_or_append_left, get_or_push, length_push, same_from_push}
use Rattle.std.proofs.lemmas.List.Concat.{flat_map-append}
use Rattle.std.proofs.lemmas.List.Folds.{list_any_at}
use Rattle.std.specs.Prelude.{flat_map}
use Rattle.jp_survey.specs.Paths.{Path, Stride, member}
use Rattle.jp_survey.specs.Places.{AreApart, ArePlaces, IsKnown, folds_at, folds_of, has_link, has_path, is_named, is_rest, is_start, link_at, link_equal, path_at, path_below, paths_below, paths_of, root_link, stride_in}
use Rattle.jp_survey.specs.declared.links.Link.{Link}
use Rattle.jp_survey.specs.declared.links.Step.{Step}
use Rattle.jp_survey.specs.declared.links.Step.TheVariants as steps
use Rattle.jp_survey.proofs.Equalities.{link_itself}
use Rattle.jp_survey.proofs.Pushed.{distinct_pushed, each_pushed}

-- one place more
pub paths_push : (names : List (List ℕ)) (above : List Path) (links : List Link) (l : Link)
    → paths_below names above (links ++ l ∷ []) ≡ paths_below names above links ++ path_below names (paths_below names above links) l ∷ []
paths_push names above [] l = refl
paths_push names above (k ∷ more) l = paths_push names (above ++ path_below names above k ∷ []) more l

pub length-paths : (names : List (List ℕ)) (above : List Path) (links : List Link) → length (paths_below names above links) ≡ length above + length links
length-paths names above [] = omega arith
length-paths names above (k ∷ more) =
    let rest = length-paths names (above ++ path_below names above k ∷ []) more in
    let one = length_push above (path_below names above k) in
    omega (arith, rest, one)

-- the paths above stay what they are
pub paths_kept : (names : List (List ℕ)) (above : List Path) (links : List Link) (k : ℕ) → k < length above → path_at (paths_below names above links) k ≡ path_at above k
paths_kept names above [] k l = refl
paths_kept names above (link ∷ more) k l =
    let one = length_push above (path_below names above link) in
    paths_kept names (above ++ path_below names above link ∷ []) more k (omega (arith, one, l))
    ∙ get_or_append_left above (path_below names above link ∷ []) [] k l

path_parts : (names : List (List ℕ)) (xs ys : List Path) (link : Link) → path_at xs link.parent ≡ path_at ys link.parent → path_below names xs link ≡ path_below names ys link
path_parts names xs ys link e = ap (λ (p : Path). if is_start link.step then [] else p ++ stride_in names link.step ∷ []) e

start_path : (names : List (List ℕ)) (xs ys : List Path) (link : Link) → is_start link.step ≡ true → path_below names xs link ≡ path_below names ys link
start_path names xs ys link e = rw e refl

-- the path of a place is that of the place above it, and a stride more
path_is_below : (names : List (List ℕ)) (above : List Path) (links : List Link) (k : ℕ) → k < length links
    → ((j : ℕ) → j < length links → ((link_at links j).parent < length above + j) ⊎ (is_start (link_at links j).step ≡ true))
    → path_at (paths_below names above links) (length above + k) ≡ path_below names (paths_below names above links) (link_at links k)
path_is_below names above [] k l h = absurd (omega arith)
path_is_below names above (link ∷ more) zero l h =
    let path = path_below names above link in
    let one = length_push above path in
    let at : length above + 0 ≡ length above = omega arith in
    ap (path_at (paths_below names (above ++ path ∷ []) more)) at
    ∙ paths_kept names (above ++ path ∷ []) more (length above) (omega (arith, one))
    ∙ get_or_push above path [] (length above) refl
    ∙ by (h 0 (omega arith))
  where
    by : ((link.parent < length above + 0) ⊎ (is_start link.step ≡ true)) → path_below names above link ≡ path_below names (paths_below names above (link ∷ more)) link
    by (inl s) = sym (path_parts names (paths_below names above (link ∷ more)) above link (paths_kept names above (link ∷ more) link.parent (omega (arith, s))))
    by (inr s) = start_path names above (paths_below names above (link ∷ more)) link s
path_is_below names above (link ∷ more) (suc k) l h =
    let path = path_below names above link in
    let one = length_push above path in
    let at : length above + suc k ≡ length (above ++ path ∷ []) + k = omega (arith, one) in
    ap (path_at (paths_below names (above ++ path ∷ []) more)) at
    ∙ path_is_below names (above ++ path ∷ []) more k (omega (arith, l)) (λ j s. moved j (h (suc j) (omega (arith, s))))
  where
    moved : (j : ℕ) → (((link_at more j).parent < length above + suc j) ⊎ (is_start (link_at more j).step ≡ true))
        → ((link_at more j).parent < length (above ++ path_below names above link ∷ []) + j) ⊎ (is_start (link_at more j).step ≡ true)
    moved j (inl s) = inl (let one = length_push above (path_below names above link) in omega (arith, one, s))
    moved j (inr s) = inr s

flat_map_alike : {X Y : Type 0} (f g : X → List Y) (xs : List X) (d : X) → ((k : ℕ) → k < length xs → f (get_or xs k d) ≡ g (get_or xs k d)) → flat_map f xs ≡ flat_map g xs
flat_map_alike f g [] d h = refl
flat_map_alike {X} {Y} f g (x ∷ xs) d h = ap₂ (λ (a b : List Y). a ++ b) (h 0 (omega arith)) (flat_map_alike f g xs d (λ k s. h (suc k) (omega (arith, s))))

-- ---- places

no_start : (names : List (List ℕ)) (paths : List Path) (link : Link) → is_start link.step ≡ false → path_below names paths link ≡ path_at paths link.parent ++ stride_in names link.step ∷ []
no_start names paths link e = rw e refl

module _ (names : List (List ℕ)) (links : List Link) (h : ArePlaces names links) where
  parents : (j : ℕ) → j < length links → ((link_at links j).parent < length {A = Path} [] + j) ⊎ (is_start (link_at links j).step ≡ true)
  parents zero l = inr (ap (λ (k : Link). is_start k.step) h.root)
  parents (suc j) l = inl (let below = (h.below (suc j) (omega arith) l).0 in omega (arith, below))

  equation : (k : ℕ) → k < length links → path_at (paths_of names links) k ≡ path_below names (paths_of names links) (link_at links k)
  equation k l = ap (path_at (paths_of names links)) (omega arith) ∙ path_is_below names [] links k l parents

  pub path_of_root : path_at (paths_of names links) 0 ≡ []
  path_of_root = equation 0 h.some ∙ ap (path_below names (paths_of names links)) h.root

  pub path_of_place : (k : ℕ) → 0 < k → k < length links
      → path_at (paths_of names links) k ≡ path_at (paths_of names links) (link_at links k).parent ++ stride_in names (link_at links k).step ∷ []
  path_of_place k some l = equation k l ∙ no_start names (paths_of names links) (link_at links k) (h.below k some l).1

  -- two places differ in their links
  pub link_once : (j k : ℕ) → j < length links → k < length links → link_at links j ≡ link_at links k → j ≡ k
  link_once j k s t e = h.distinct_paths j k s t (equation j s ∙ (ap (path_below names (paths_of names links)) e ∙ sym (equation k t)))

  pub parent_within : (k : ℕ) → k < length links → (link_at links k).parent < length links
  parent_within zero l = let first : (link_at links 0).parent ≡ 0 = ap (λ (k : Link). k.parent) h.root in omega (arith, first, l)
  parent_within (suc k) l = let below = (h.below (suc k) (omega arith) l).0 in omega (arith, below, l)

  pub many_paths : length (paths_of names links) ≡ length links
  many_paths = let all = length-paths names [] links in omega (arith, all)

same_member : (x y : List ℕ) → member x ≡ member y → x ≡ y
same_member x y e = cc

-- steps whose strides are the same
pub same_step : (names : List (List ℕ)) → ((j k : ℕ) → j < length names → k < length names → get_or names j [] ≡ get_or names k [] → j ≡ k)
    → (s t : Step) → IsKnown names s → IsKnown names t → is_start s ≡ false → is_start t ≡ false → stride_in names s ≡ stride_in names t → s ≡ t
same_step names once steps.Start t ks kt a b e = absurd (cc)
same_step names once s steps.Start ks kt a b e = absurd (cc)
same_step names once steps.Element steps.Element ks kt a b e = refl
same_step names once steps.Element (steps.Member n) ks kt a b e = absurd (cc)
same_step names once steps.Element steps.Others ks kt a b e = absurd (cc)
same_step names once (steps.Member m) steps.Element ks kt a b e = absurd (cc)
same_step names once (steps.Member m) (steps.Member n) ks kt a b e = ap (λ k. steps.Member k) (once m n ks kt (same_member (get_or names m []) (get_or names n []) e))
same_step names once (steps.Member m) steps.Others ks kt a b e = absurd (cc)
same_step names once steps.Others steps.Element ks kt a b e = absurd (cc)
same_step names once steps.Others (steps.Member n) ks kt a b e = absurd (cc)
same_step names once steps.Others steps.Others ks kt a b e = refl

not_empty : (p : Path) (s : Stride) → [] ≡ p ++ s ∷ [] → ⊥
not_empty [] s e = cc
not_empty (t ∷ p) s e = cc

-- a link is that of its parent and its step
pub same_link : (k l : Link) → k.parent ≡ l.parent → k.step ≡ l.step → k ≡ l
same_link k l p s = ap₂ (λ (p : ℕ) (s : Step). record { parent = p; step = s }) p s

-- one place more, which is new
module _ (names : List (List ℕ)) (links : List Link) (h : ArePlaces names links) (l : Link) (inside : l.parent < length links) (told : is_start l.step ≡ false)
    (known : IsKnown names l.step) (fresh : has_link links l ≡ false) where
  pub grown_paths : paths_of names (links ++ l ∷ []) ≡ paths_of names links ++ (path_at (paths_of names links) l.parent ++ stride_in names l.step ∷ []) ∷ []
  grown_paths = paths_push names [] links l ∙ ap (λ (p : Path). paths_of names links ++ p ∷ []) (no_start names (paths_of names links) l told)

  -- no place has the new path
  pub is_new : (k : ℕ) → k < length links → path_at (paths_of names links) k ≢ (path_at (paths_of names links) l.parent ++ stride_in names l.step ∷ [])
  is_new zero s e = not_empty (path_at (paths_of names links) l.parent) (stride_in names l.step) (sym (path_of_root names links h) ∙ e)
  is_new (suc k) s e =
      let some : 0 < suc k = omega arith in
      let link = link_at links (suc k) in
      let parts = same_from_push (path_at (paths_of names links) link.parent) (path_at (paths_of names links) l.parent) (stride_in names link.step) (stride_in names l.step)
      (sym (path_of_place names links h (suc k) some s) ∙ e) in
      let parent = h.distinct_paths link.parent l.parent (parent_within names links h (suc k) s) inside parts.0 in
      let step = same_step names h.distinct_names link.step l.step (h.known (suc k) s) known (h.below (suc k) some s).1 told parts.1 in
      let found = list_any_at (link_equal l) links (suc k) root_link s (ap (link_equal l) (same_link link l parent step) ∙ link_itself l) in
      absurd (cc (found, fresh))

  at_old : (k : ℕ) → k < length links → path_at (paths_of names (links ++ l ∷ [])) k ≡ path_at (paths_of names links) k
  at_old k s =
      let many = many_paths names links h in
      ap (λ (ps : List Path). path_at ps k) grown_paths
      ∙ get_or_append_left (paths_of names links) ((path_at (paths_of names links) l.parent ++ stride_in names l.step ∷ []) ∷ []) [] k (omega (arith, many, s))

  pub grown : ArePlaces names (links ++ l ∷ [])
  grown =
      let one = length_push links l in
      let many = many_paths names links h in
      let path = path_at (paths_of names links) l.parent ++ stride_in names l.step ∷ [] in
      let long : length (paths_of names links ++ path ∷ []) ≡ length (links ++ l ∷ []) = omega (arith, length_push (paths_of names links) path, one, many) in
      record {
        some = omega (arith, one);
        root = get_or_append_left links (l ∷ []) root_link 0 h.some ∙ h.root;
        below = λ k some s. each_pushed links l root_link (λ (n : ℕ) (x : Link). 0 < n → (x.parent < n) × (is_start x.step ≡ false))
            (λ n t some. h.below n some t) (λ some. (inside, told)) k s some;
        known = λ k s. each_pushed links l root_link (λ (n : ℕ) (x : Link). IsKnown names x.step) h.known known k s;
        distinct_names = h.distinct_names;
        distinct_paths = subst (λ (ps : List Path). (j k : ℕ) → j < length (links ++ l ∷ []) → k < length (links ++ l ∷ []) → path_at ps j ≡ path_at ps k → j ≡ k) (sym grown_paths)
            (λ j k m n. distinct_pushed (paths_of names links) path []
            (λ j k m n. h.distinct_paths j k (omega (arith, many, m)) (omega (arith, many, n)))
            (λ k m. is_new k (omega (arith, many, m))) j k (omega (arith, long, m)) (omega (arith, long, n)));
      }

  same_fold : (xs ys : List Path) (k : Link) → path_at xs k.parent ≡ path_at ys k.parent → folds_at xs k ≡ folds_at ys k
  same_fold xs ys k e = ap (λ (p : Path). if is_rest k.step then p ∷ [] else []) e

  -- the folded objects are the same, and that which the new place says
  pub grown_folds : folds_of names (links ++ l ∷ []) ≡ folds_of names links ++ folds_at (paths_of names links) l
  grown_folds =
      flat_map-append (folds_at (paths_of names (links ++ l ∷ []))) links (l ∷ [])
      ∙ ap₂ (λ (a b : List Path). a ++ b)
      (flat_map_alike (folds_at (paths_of names (links ++ l ∷ []))) (folds_at (paths_of names links)) links root_link
      (λ k s. same_fold (paths_of names (links ++ l ∷ [])) (paths_of names links) (link_at links k) (at_old (link_at links k).parent (parent_within names links h k s))))
      (append-nil (folds_at (paths_of names (links ++ l ∷ [])) l)
      ∙ same_fold (paths_of names (links ++ l ∷ [])) (paths_of names links) l (at_old l.parent inside))

  module _ (plain : is_rest l.step ≡ false) where
    pub same_folds : folds_of names (links ++ l ∷ []) ≡ folds_of names links
    same_folds = grown_folds ∙ (ap (λ (b : Bool). folds_of names links ++ (if b then path_at (paths_of names links) l.parent ∷ [] else [])) plain ∙ append-nil (folds_of names links))

    pub grown_apart : AreApart names links → (is_named l.step ≡ true → has_path (folds_of names links) (path_at (paths_of names links) l.parent) ≡ false) → AreApart names (links ++ l ∷ [])
    grown_apart apart new = λ k s. each_pushed links l root_link
        (λ (n : ℕ) (x : Link). is_named x.step ≡ true → has_path (folds_of names (links ++ l ∷ [])) (path_at (paths_of names (links ++ l ∷ [])) x.parent) ≡ false)
        (λ n t named. ap₂ has_path same_folds (at_old (link_at links n).parent (parent_within names links h n t)) ∙ apart n t named)
        (λ named. ap₂ has_path same_folds (at_old l.parent inside) ∙ new named) k s
