-- The way from place to place.
use Rattle.std.proofs.Common.{◌≡◌, ◌∙◌, ℕ, zero, suc, ◌+◌, ◌-◌, ◌<◌, ◌≤◌, ◌⊎◌, inl, inr, List, [], ◌∷◌, ◌++◌, length, get_or, take, drop, ap, sym, arith, take_all, Some}
use Rattle.std.specs.Prelude.{slice_get}
use Rattle.std.proofs.lemmas.Bool.{cases_lt}
use Rattle.std.proofs.lemmas.Option.{same_Some, slice_get-get_or, slice_get_within}
use Rattle.std.proofs.lemmas.List.{get_or_default, get_or-take, get_or_append_left, get_or_push, length-map, length-take-le, length_push, map-append, take-append-drop, take-append-le, take-map}
use Rattle.jp_survey.specs.Entries.{path_of_listed, stride_of_listed}
use Rattle.jp_survey.specs.Paths.{Path}
use Rattle.jp_survey.specs.Places.{ArePlaces, link_at, path_at, paths_of, root_link}
use Rattle.jp_survey.specs.Walked.{IsWayOf}
use Rattle.jp_survey.specs.declared.links.Link.{Link}
use Rattle.jp_survey.specs.declared.listing.Stride.{Stride as Listed}
use Rattle.jp_survey.proofs.Places.{path_of_root}

pub way_root : (names : List (List ℕ)) (links : List Link) → ArePlaces names links → IsWayOf (paths_of names links) (0 ∷ []) []
way_root names links h = record { many = omega arith; at = root }
  where
    root : (i : ℕ) → i < 1 → path_at (paths_of names links) (get_or (0 ∷ []) i 0) ≡ take i []
    root zero l = path_of_root names links h
    root (suc i) l = absurd (omega (arith, l))

-- a beginning of a path has the beginnings that it has, as far as it goes
begins_alike : (path : Path) (m i : ℕ) → i ≤ m → m ≤ length path → take i (take m path) ≡ take i path
begins_alike path m i l most =
    let long = length-take-le m path most in
    sym (take-append-le i (take m path) (drop m path) (omega (arith, long, l))) ∙ ap (take i) (take-append-drop m path)

-- back by a step
pub way_back : (paths : List Path) (places before : List ℕ) (path shorter : List Listed) → 0 < length path → before ≡ take (length places - 1) places → shorter ≡ take (length path - 1) path
    → IsWayOf paths places (path_of_listed path) → IsWayOf paths before (path_of_listed shorter)
way_back paths places before path shorter some back cut h = record { many = many; at = at }
  where
    long : length (path_of_listed path) ≡ length path
    long = length-map path stride_of_listed

    places-many : length before ≡ length places - 1
    places-many = ap length back ∙ length-take-le (length places - 1) places (omega arith)

    path-many : length shorter ≡ length path - 1
    path-many = ap length cut ∙ length-take-le (length path - 1) path (omega arith)

    many : length before ≡ length (path_of_listed shorter) + 1
    many = let a = places-many in let b = path-many in let c = h.many in let d = long in let e = length-map shorter stride_of_listed in omega (arith, a, b, c, d, e, some)

    shown : path_of_listed shorter ≡ take (length path - 1) (path_of_listed path)
    shown = ap path_of_listed cut ∙ sym (take-map stride_of_listed (length path - 1) path)

    at : (i : ℕ) → i < length before → path_at paths (get_or before i 0) ≡ take i (path_of_listed shorter)
    at i l =
        let a = places-many in let c = h.many in let d = long in
        ap (λ (ps : List ℕ). path_at paths (get_or ps i 0)) back
        ∙ (ap (path_at paths) (get_or-take (length places - 1) places i 0 (omega (arith, l, a)))
        ∙ (h.at i (omega (arith, l, a))
        ∙ sym (ap (take i) shown ∙ begins_alike (path_of_listed path) (length path - 1) i (omega (arith, l, a, c, d)) (omega (arith, d)))))

module _ (paths : List Path) (places : List ℕ) (path : List Listed) (h : IsWayOf paths places (path_of_listed path)) where
  -- the last place has the whole path
  pub way_at : (place : ℕ) → ((i : ℕ) → i + 1 ≡ length places → get_or places i 0 ≡ place) → path_of_listed path ≡ path_at paths place
  way_at place last =
      let n = length (path_of_listed path) in let many = h.many in
      sym (sym (ap (path_at paths) (last (length (path_of_listed path)) (sym many)))
      ∙ (h.at (length (path_of_listed path)) (omega (arith, many)) ∙ take_all (length (path_of_listed path)) (path_of_listed path) (omega arith)))

  -- on to a place below it
  pub way_on : (parent place : ℕ) (stride : Listed) → ((i : ℕ) → i + 1 ≡ length places → get_or places i 0 ≡ parent) → path_at paths place ≡ path_at paths parent ++ stride_of_listed stride ∷ []
      → IsWayOf paths (places ++ place ∷ []) (path_of_listed (path ++ stride ∷ [])) × (path_of_listed (path ++ stride ∷ []) ≡ path_at paths place)
  way_on parent place stride last is = (record { many = many; at = at }, whole)
    where
      shown : path_of_listed (path ++ stride ∷ []) ≡ path_of_listed path ++ stride_of_listed stride ∷ []
      shown = map-append stride_of_listed path (stride ∷ [])

      whole : path_of_listed (path ++ stride ∷ []) ≡ path_at paths place
      whole = shown ∙ (ap (λ (p : Path). p ++ stride_of_listed stride ∷ []) (way_at parent last) ∙ sym is)

      more : length (places ++ place ∷ []) ≡ length places + 1
      more = length_push places place

      many : length (places ++ place ∷ []) ≡ length (path_of_listed (path ++ stride ∷ [])) + 1
      many = let a = more in let b = ap length shown ∙ length_push (path_of_listed path) (stride_of_listed stride) in let c = h.many in omega (arith, a, b, c)

      at : (i : ℕ) → i < length (places ++ place ∷ []) → path_at paths (get_or (places ++ place ∷ []) i 0) ≡ take i (path_of_listed (path ++ stride ∷ []))
      at i l = by (cases_lt i (length places))
        where
          by : ((i < length places) ⊎ (length places ≤ i)) → path_at paths (get_or (places ++ place ∷ []) i 0) ≡ take i (path_of_listed (path ++ stride ∷ []))
          by (inl s) =
              let c = h.many in
              ap (path_at paths) (get_or_append_left places (place ∷ []) 0 i s)
              ∙ (h.at i s ∙ sym (ap (take i) shown ∙ take-append-le i (path_of_listed path) (stride_of_listed stride ∷ []) (omega (arith, s, c))))
          by (inr s) =
              let a = more in let c = many in
              ap (path_at paths) (get_or_push places place 0 i (omega (arith, l, s, a)))
              ∙ (sym whole ∙ sym (take_all i (path_of_listed (path ++ stride ∷ [])) (omega (arith, c, a, s))))

-- a link that was looked up
pub link_got : (links : List Link) (k : ℕ) (link : Link) → slice_get links k ≡ Some link → (k < length links) × (link_at links k ≡ link)
link_got links k link e =
    let l = slice_get_within links k link e in
    (l, get_or_default links k root_link link l ∙ same_Some (get_or links k link) link (sym (slice_get-get_or links k link l) ∙ e))
