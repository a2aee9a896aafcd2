-- The names of the members of a place.
use Rattle.std.proofs.Common.{◌≡◌, ◌∙◌, ℕ, suc, ◌<◌, ◌⊎◌, inl, inr, List, [], ◌∷◌, ◌++◌, length, get_or, Bool, true, false, ◌&&◌, ap, ap₂, refl, sym, cond, eqb, arith}
use Rattle.std.specs.Prelude.{flat_map, sum_by, if◌then◌else◌}
use Rattle.std.specs.List.{IsDistinct}
use Rattle.std.specs.Set.{distinct_count, is_member}
use Rattle.std.proofs.lemmas.Bool.{eq-eqb, eqb-true, false_from_ne_true, or_cases, or_left}
use Rattle.std.proofs.lemmas.List.{get_or_default}
use Rattle.std.proofs.lemmas.List.Concat.{length-flat_map}
use Rattle.std.proofs.lemmas.List.Folds.{Any-from_list_any, list_any_at}
use Rattle.std.proofs.lemmas.Slice.Eq.{bytes_eq-Decides}
use Rattle.jp_model.specs.Characters.{text_equal}
use Rattle.jp_survey.specs.Folds.{first_name}
use Rattle.jp_survey.specs.Paths.{Stride, element, member, others}
use Rattle.jp_survey.specs.Places.{ArePlaces, IsKnown, is_member_of, is_named, is_start, link_at, members_of, path_at, paths_of, root_link, stride_in}
use Rattle.jp_survey.specs.declared.links.Link.{Link}
use Rattle.jp_survey.specs.declared.links.Step.{Step}
use Rattle.jp_survey.specs.declared.links.Step.TheVariants as steps
use Rattle.jp_survey.proofs.Distinct.{any_flat, as_many, none_of}
use Rattle.jp_survey.proofs.Names.{positive}
use Rattle.jp_survey.proofs.Places.{path_of_place, same_link, same_step}

-- the name of a place, where it is a member of another by name
abbrev pub name_at : (names : List (List ℕ)) → (place : ℕ) → Link → List (List ℕ)
name_at names place link = if eqb link.parent place then first_name (stride_in names link.step ∷ []) else []

abbrev pub member_names : (names : List (List ℕ)) → (place : ℕ) → List Link → List (List ℕ)
member_names names place links = flat_map (name_at names place) links

-- A place is the member of another by a name.
abbrev pub IsMember : (names : List (List ℕ)) → (place : ℕ) → (name : List ℕ) → Link → Type 0
IsMember names place name link = (link.parent ≡ place) × (stride_in names link.step ≡ member name)

name_length : (names : List (List ℕ)) (place : ℕ) (link : Link) → length (name_at names place link) ≡ cond (is_member_of place link) 1 0
name_length names place link = by (eqb link.parent place) link.step
  where
    by : (b : Bool) (step : Step) → length {A = List ℕ} (if b then first_name (stride_in names step ∷ []) else []) ≡ cond (b && is_named step) 1 0
    by false step = refl
    by true steps.Start = refl
    by true steps.Element = refl
    by true (steps.Member n) = refl
    by true steps.Others = refl

pub length-member_names : (names : List (List ℕ)) (place : ℕ) (links : List Link) → length (member_names names place links) ≡ members_of links place
length-member_names names place links =
    length-flat_map (name_at names place) links ∙ (λ j. sum_by (λ (link : Link). name_length names place link j) links)

module _ (names : List (List ℕ)) (place : ℕ) (name : List ℕ) where
  name_found : (link : Link) → is_member text_equal (name_at names place link) name ≡ true → IsMember names place name link
  name_found link e = by (eqb link.parent place) (stride_in names link.step) refl refl e
    where
      by : (b : Bool) (s : Stride) → eqb link.parent place ≡ b → stride_in names link.step ≡ s → is_member text_equal (if b then first_name (s ∷ []) else []) name ≡ true → IsMember names place name link
      by false s p q e = absurd (cc)
      by true element p q e = absurd (cc)
      by true others p q e = absurd (cc)
      by true (member y) p q e = same (or_cases (text_equal name y) false e)
        where
          same : ((text_equal name y ≡ true) ⊎ (false ≡ true)) → IsMember names place name link
          same (inl f) = (eqb-true link.parent place p, q ∙ ap member (sym ((bytes_eq-Decides name y).0 f)))
          same (inr f) = absurd (cc)

  name_there : (link : Link) → IsMember names place name link → is_member text_equal (name_at names place link) name ≡ true
  name_there link it =
      ap₂ (λ (b : Bool) (s : Stride). is_member text_equal (if b then first_name (s ∷ []) else []) name) (eq-eqb link.parent place it.0) it.1
      ∙ or_left (text_equal name name) false ((bytes_eq-Decides name name).1 refl)

  -- a name is that of a member
  pub member_found : (links : List Link) → is_member text_equal (member_names names place links) name ≡ true → (k : ℕ) × (k < length links) × IsMember names place name (link_at links k)
  member_found links e =
      let found = Any-from_list_any (λ (link : Link). is_member text_equal (name_at names place link) name) links (sym (any_flat (text_equal name) (name_at names place) links) ∙ e) in
      let k = found.0 in
      let is : link_at links k ≡ found.1 = get_or_default links k root_link found.1 found.2 ∙ found.3 in
      (k, found.2, name_found (link_at links k) (ap (λ (link : Link). is_member text_equal (name_at names place link) name) is ∙ found.4))

  pub member_there : (links : List Link) (k : ℕ) → k < length links → IsMember names place name (link_at links k) → is_member text_equal (member_names names place links) name ≡ true
  member_there links k l it =
      any_flat (text_equal name) (name_at names place) links
      ∙ list_any_at (λ (link : Link). is_member text_equal (name_at names place link) name) links k root_link l (name_there (link_at links k) it)

-- members of one name are one
abbrev OneOfEach : (names : List (List ℕ)) → (place : ℕ) → List Link → Type 0
OneOfEach names place links = (j k : ℕ) (name : List ℕ) → j < length links → k < length links → IsMember names place name (link_at links j) → IsMember names place name (link_at links k) → j ≡ k

each_once : (names : List (List ℕ)) (place : ℕ) (links : List Link) → OneOfEach names place links → IsDistinct text_equal (member_names names place links)
unfolding IsDistinct
each_once names place [] once = tt
each_once names place (link ∷ links) once =
    by (eqb link.parent place) (stride_in names link.step) refl refl (each_once names place links (λ j k name s t a b. let same = once (suc j) (suc k) name (omega (arith, s)) (omega (arith, t)) a b in omega (arith, same)))
  where
    by : (b : Bool) (s : Stride) → eqb link.parent place ≡ b → stride_in names link.step ≡ s → IsDistinct text_equal (member_names names place links)
        → IsDistinct text_equal ((if b then first_name (s ∷ []) else []) ++ member_names names place links)
    by false s p q rest = rest
    by true element p q rest = rest
    by true others p q rest = rest
    by true (member name) p q rest = (none_of (text_equal name) (member_names names place links) (false_from_ne_true (is_member text_equal (member_names names place links) name) other), rest)
      where
        other : is_member text_equal (member_names names place links) name ≡ true → ⊥
        other e =
            let found = member_found names place name links e in
            let same = once 0 (suc found.0) name (omega arith) (omega (arith, found.1)) (eqb-true link.parent place p, q) found.2 in
            omega (arith, same)

-- a member by name is no root
not_root : (names : List (List ℕ)) (step : Step) (name : List ℕ) → stride_in names step ≡ member name → is_start step ≡ false
not_root names steps.Start name e = absurd (cc)
not_root names steps.Element name e = refl
not_root names (steps.Member n) name e = refl
not_root names steps.Others name e = refl

pub member_path : (names : List (List ℕ)) (links : List Link) → ArePlaces names links → (place k : ℕ) (name : List ℕ) → k < length links → IsMember names place name (link_at links k)
    → path_at (paths_of names links) k ≡ path_at (paths_of names links) place ++ member name ∷ []
member_path names links h place k name l it =
    path_of_place names links h k (positive names links h k l (not_root names (link_at links k).step name it.1)) l
    ∙ ap₂ (λ (p : ℕ) (s : Stride). path_at (paths_of names links) p ++ s ∷ []) it.0 it.1

-- as many different names as members, where links of known names differ
pub member_count : (names : List (List ℕ)) (links : List Link) → ((j k : ℕ) → j < length names → k < length names → get_or names j [] ≡ get_or names k [] → j ≡ k)
    → ((k : ℕ) → k < length links → IsKnown names (link_at links k).step) → ((j k : ℕ) → j < length links → k < length links → link_at links j ≡ link_at links k → j ≡ k)
    → (place : ℕ) → distinct_count text_equal (member_names names place links) ≡ members_of links place
member_count names links once known distinct place =
    as_many (member_names names place links)
    (each_once names place links (λ j k name s t a b.
    let not_j = not_root names (link_at links j).step name a.1 in let not_k = not_root names (link_at links k).step name b.1 in
    let step = same_step names once (link_at links j).step (link_at links k).step (known j s) (known k t) not_j not_k (a.1 ∙ sym b.1) in
    distinct j k s t (same_link (link_at links j) (link_at links k) (a.0 ∙ sym b.0) step)))
    ∙ length-member_names names place links
