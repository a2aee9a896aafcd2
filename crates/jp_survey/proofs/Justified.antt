-- Objects stay folded only where they have many names.
use Rattle.std.proofs.Common.{◌≡◌, ◌∙◌, ◌||◌, ◌&&◌, ℕ, zero, suc, ◌+◌, ◌<◌, ◌⊎◌, inl, inr, List, [], ◌∷◌, ◌++◌, length, get_or, Bool, true, false, ap, refl, sym, subst, ltb, arith, append-nil, append_assoc, length-append}
use Rattle.std.specs.Prelude.{All, fold, if◌then◌else◌}
use Rattle.std.specs.List.{list_any}
use Rattle.std.specs.Set.{distinct_count, is_member}
use Rattle.std.proofs.lemmas.Bool.{and_parts, lt-ltb, ltb-true, or_cases, or_left, or_right}
use Rattle.std.proofs.lemmas.List.{get_or_default, length_push, same_from_push}
use Rattle.std.proofs.lemmas.List.Folds.{Any-from_list_any, list_any-append, list_any_at}
use Rattle.std.proofs.lemmas.List.Sums.{fold-append}
use Rattle.std.proofs.lemmas.Option.{same_Some}
use Rattle.std.proofs.lemmas.Slice.Eq.{bytes_eq-Decides}
use Rattle.jp_model.specs.Characters.{text_equal}
use Rattle.jp_survey.specs.Foldings.{Closed, folded_by, is_over, longer, shown_stride}
use Rattle.jp_survey.specs.Folds.{has_many_names}
use Rattle.jp_survey.specs.Justified.{AreFolds, IsJustified, WithPath, names_after, rests_after}
use Rattle.jp_survey.specs.Movings.{HaveMoved, folded_step, moved_link}
use Rattle.jp_survey.specs.Paths.{Path, Stride, element, member, others, path_equal}
use Rattle.jp_survey.specs.Places.{AreApart, ArePlaces, IsKnown, folds_of, has_link, has_path, is_named, is_rest, link_at, link_equal, members_of, path_at, paths_of, root_link, stride_in}
use Rattle.jp_survey.specs.declared.links.Link.{Link}
use Rattle.jp_survey.specs.declared.links.Step.{Step}
use Rattle.jp_survey.specs.declared.links.Step.TheVariants as steps
use Rattle.jp_survey.proofs.After.{GoesOn, any_weaker, goes_on, goes_on_found, goes_on_there, many_more, names_any, names_closed}
use Rattle.jp_survey.proofs.Distinct.{fewer_names}
use Rattle.jp_survey.proofs.Equalities.{link_same, path_itself, path_same}
use Rattle.jp_survey.proofs.Folded.{closed_itself, folded_itself, folded_push, moved_closed, moved_same, no_start_folded, shown_plain}
use Rattle.jp_survey.proofs.Folds.{length-folded_by, split_at}
use Rattle.jp_survey.proofs.Members.{member_count, member_found, member_names, member_path, member_there}
use Rattle.jp_survey.proofs.Names.{fold_found, is_folded_at, path_of_link, rest_is}
use Rattle.jp_survey.proofs.Places.{link_once, many_paths, parent_within, path_of_place, path_of_root, same_link}

-- ---- paths and links that are there

path_there : (paths : List Path) (k : ℕ) (path : Path) → k < length paths → path_at paths k ≡ path → has_path paths path ≡ true
path_there paths k path l is = list_any_at (path_equal path) paths k [] l (ap (path_equal path) is ∙ path_itself path)

path_found : (paths : List Path) (path : Path) → has_path paths path ≡ true → (k : ℕ) × (k < length paths) × (path_at paths k ≡ path)
path_found paths path e =
    let found = Any-from_list_any (path_equal path) paths e in
    (found.0, found.2, get_or_default paths found.0 [] found.1 found.2 ∙ (found.3 ∙ sym (path_same path found.1 found.4)))

place_link : (links : List Link) (link : Link) → has_link links link ≡ true → (k : ℕ) × (k < length links) × (link_at links k ≡ link)
place_link links link e =
    let found = Any-from_list_any (link_equal link) links e in
    (found.0, found.2, get_or_default links found.0 root_link found.1 found.2 ∙ (found.3 ∙ sym (link_same link found.1 found.4)))

-- ---- no path yet, and more of them

no_member : (above : Path) (name : List ℕ) → has_path ([] ∷ []) (above ++ member name ∷ []) ≡ true → ⊥
no_member [] name e = cc
no_member (s ∷ above) name e = cc

-- the root alone
pub justified_root : (limit : ℕ) (seen : List Path) (names : List (List ℕ)) → IsJustified limit seen (paths_of names (root_link ∷ [])) (folds_of names (root_link ∷ []))
justified_root limit seen names = record {
  named = λ more closed above name e. absurd (no_member above name e);
  many = λ more closed above e. absurd (cc);
}

-- more paths that were seen
pub justified_among : (limit : ℕ) (seen all paths folds : List Path) → ((test : Path → Bool) → list_any test seen ≡ true → list_any test all ≡ true)
    → IsJustified limit seen paths folds → IsJustified limit all paths folds
justified_among limit seen all paths folds among h = record {
  named = λ more closed above name e. on more (folded_by more above) name (h.named more closed above name e);
  many = λ more closed above e.
      many_more limit (rests_after more (folded_by more above) seen) (rests_after more (folded_by more above) all) (on more (folded_by more above)) (h.many more closed above e);
}
  where
    on : (more : List Path) (above : Path) (name : List ℕ) → is_member text_equal (names_after more above seen) name ≡ true → is_member text_equal (names_after more above all) name ≡ true
    on more above name e = names_any more above all name ∙ among (goes_on more above name) (sym (names_any more above seen name) ∙ e)

pub justified_seen : (limit : ℕ) (seen also paths folds : List Path) → IsJustified limit seen paths folds → IsJustified limit (seen ++ also) paths folds
justified_seen limit seen also paths folds h =
    justified_among limit seen (seen ++ also) paths folds (λ test e. list_any-append test seen also ∙ or_left (list_any test seen) (list_any test also) e) h

-- ---- the place of a path that was seen

shown_member : (folds : List Path) (above : Path) (u : Stride) (name : List ℕ) → member name ≡ shown_stride folds above u → u ≡ member name
shown_member folds above element name e = absurd (cc)
shown_member folds above others name e = absurd (cc)
shown_member folds above (member y) name e = by (has_path folds above) e
  where
    by : (b : Bool) → member name ≡ (if b then others else member y) → member y ≡ member name
    by true e = absurd (cc)
    by false e = sym e

-- a path that is shown with a name at its end goes on by it
by_last : (folds : List Path) (above : Path) (name : List ℕ) (path : Path) → above ++ member name ∷ [] ≡ folded_by folds path → GoesOn folds above name path
by_last folds above name path is = by (split_at (length above) path)
  where
    long : length path ≡ length above + 1
    long = sym (length-folded_by folds path) ∙ (ap length (sym is) ∙ length_push above (member name))

    last : (q r : Path) → length q ≡ length above → path ≡ q ++ r → GoesOn folds above name path
    last q [] e at = absurd (let l = long in let whole = ap length (at ∙ append-nil q) in omega (arith, l, whole, e))
    last q (u ∷ []) e at =
        let parts = same_from_push above (folded_by folds q) (member name) (shown_stride folds (folded_by folds q) u) (is ∙ (ap (folded_by folds) at ∙ folded_push folds q u)) in
        (q, [], at ∙ ap (λ (s : Stride). q ++ s ∷ []) (shown_member folds (folded_by folds q) u name parts.1), sym parts.0)
    last q (u ∷ v ∷ r) e at = absurd (let l = long in let whole = ap length at ∙ length-append q (u ∷ v ∷ r) in omega (arith, l, whole, e))

    by : ((length path < length above) ⊎ ((q : Path) × (r : Path) × (length q ≡ length above) × (path ≡ q ++ r))) → GoesOn folds above name path
    by (inl short) = absurd (let l = long in omega (arith, l, short))
    by (inr parts) = last parts.0 parts.1 parts.2 parts.3

-- a path that goes on from one that is shown so goes on by the name too
goes_further : (folds : List Path) (above : Path) (name : List ℕ) (path more : Path) → GoesOn folds above name path → GoesOn folds above name (path ++ more)
goes_further folds above name path more h = (h.0, h.1 ++ more, ap (λ (p : Path). p ++ more) h.2 ∙ append_assoc h.0 (member name ∷ h.1) more, h.3)

-- a path is one that was seen, or begins it
pub justified_path : (limit : ℕ) (seen paths folds : List Path) (path whole : Path) → ((above : Path) (name : List ℕ) → GoesOn folds above name path → GoesOn folds above name whole)
    → has_path seen whole ≡ true → IsJustified limit seen paths folds → IsJustified limit seen (paths ++ folded_by folds path ∷ []) folds
justified_path limit seen paths folds path whole further there h = record { named = named; many = h.many }
  where
    named : (more : List Path) → Closed more folds → (above : Path) (name : List ℕ)
        → has_path (paths ++ folded_by folds path ∷ []) (above ++ member name ∷ []) ≡ true → is_member text_equal (names_after more (folded_by more above) seen) name ≡ true
    named more closed above name e =
        by (or_cases (has_path paths (above ++ member name ∷ [])) (has_path (folded_by folds path ∷ []) (above ++ member name ∷ []))
        (sym (list_any-append (path_equal (above ++ member name ∷ [])) paths (folded_by folds path ∷ [])) ∙ e))
      where
        new : ((path_equal (above ++ member name ∷ []) (folded_by folds path) ≡ true) ⊎ (false ≡ true)) → is_member text_equal (names_after more (folded_by more above) seen) name ≡ true
        new (inr f) = absurd (cc)
        new (inl f) =
            let goes = goes_on_there folds above name whole (further above name (by_last folds above name path (path_same (above ++ member name ∷ []) (folded_by folds path) f))) in
            names_closed folds more closed above seen name
            (names_any folds above seen name
            ∙ any_weaker (path_equal whole) (goes_on folds above name) seen (λ other same. ap (goes_on folds above name) (sym (path_same whole other same)) ∙ goes) there)

        by : ((has_path paths (above ++ member name ∷ []) ≡ true) ⊎ (has_path (folded_by folds path ∷ []) (above ++ member name ∷ []) ≡ true))
            → is_member text_equal (names_after more (folded_by more above) seen) name ≡ true
        by (inl f) = h.named more closed above name f
        by (inr f) = new (or_cases (path_equal (above ++ member name ∷ []) (folded_by folds path)) false f)

-- the place of the beginning of a path that was seen is there or added
pub justified_step : (limit : ℕ) (seen old new folds : List Path) (path more : Path) → WithPath old (folded_by folds path) new → has_path seen (path ++ more) ≡ true
    → IsJustified limit seen old folds → IsJustified limit seen new folds
justified_step limit seen old new folds path more (inl same) there h = subst (λ (paths : List Path). IsJustified limit seen paths folds) (sym same) h
justified_step limit seen old new folds path more (inr pushed) there h =
    subst (λ (paths : List Path). IsJustified limit seen paths folds) (sym pushed)
    (justified_path limit seen old folds path (path ++ more) (λ above name goes. goes_further folds above name path more goes) there h)

-- a path is seen, and its place is there or added
pub justified_node : (limit : ℕ) (seen old new folds : List Path) (path : Path) → WithPath old (folded_by folds path) new
    → IsJustified limit seen old folds → IsJustified limit (seen ++ path ∷ []) new folds
justified_node limit seen old new folds path (inl same) h = subst (λ (paths : List Path). IsJustified limit (seen ++ path ∷ []) paths folds) (sym same) (justified_seen limit seen (path ∷ []) old folds h)
justified_node limit seen old new folds path (inr pushed) h =
    subst (λ (paths : List Path). IsJustified limit (seen ++ path ∷ []) paths folds) (sym pushed)
    (justified_path limit (seen ++ path ∷ []) old folds path path (λ above name goes. goes)
    (list_any-append (path_equal path) seen (path ∷ []) ∙ or_right (has_path seen path) (path_equal path path || false) (or_left (path_equal path path) false (path_itself path)))
    (justified_seen limit seen (path ∷ []) old folds h))

-- ---- places that have moved

step_not_others : (names : List (List ℕ)) (step : Step) (b : Bool) (name : List ℕ) → member name ≡ stride_in names (if b then steps.Others else step) → stride_in names step ≡ member name
step_not_others names step true name e = absurd (cc)
step_not_others names step false name e = sym e

over_or_rest : (step : Step) (over : Bool) → is_rest (if is_named step && over then steps.Others else step) ≡ true → (is_rest step ≡ true) ⊎ (over ≡ true)
over_or_rest steps.Start over e = absurd (cc)
over_or_rest steps.Element over e = absurd (cc)
over_or_rest steps.Others over e = inl refl
over_or_rest (steps.Member n) true e = inr refl
over_or_rest (steps.Member n) false e = absurd (cc)

module _ (limit : ℕ) (names : List (List ℕ)) (links told next : List Link) (to : List ℕ) (h : ArePlaces names links) (moved : HaveMoved limit names links told next to)
    (seen : List Path) (was : IsJustified limit seen (paths_of names links) (folds_of names links)) where
  module _ (more : List Path) (closed : Closed more (folds_of names next)) where
    before : Closed more (folds_of names links)
    before = moved_closed limit names links told next h to moved more closed

    -- a place to which one above another has moved
    above_same : (k place : ℕ) → k < length links → get_or to (link_at links k).parent 0 ≡ place
        → folded_by more (path_at (paths_of names links) (link_at links k).parent) ≡ folded_by more (path_at (paths_of names next) place)
    above_same k place l is =
        sym (moved_same limit names links told next h to moved more closed (link_at links k).parent (parent_within names links h k l))
        ∙ ap (λ (j : ℕ). folded_by more (path_at (paths_of names next) j)) is

    -- a member's name comes after its object
    known_member : (place k : ℕ) (name : List ℕ) → k < length links → get_or to (link_at links k).parent 0 ≡ place → stride_in names (link_at links k).step ≡ member name
        → is_member text_equal (names_after more (folded_by more (path_at (paths_of names next) place)) seen) name ≡ true
    known_member place k name l is it =
        let many = many_paths names links h in let above = (link_at links k).parent in
        ap (λ (p : Path). is_member text_equal (names_after more p seen) name) (sym (above_same k place l is))
        ∙ was.named more before (path_at (paths_of names links) above) name
        (path_there (paths_of names links) k (path_at (paths_of names links) above ++ member name ∷ []) (omega (arith, many, l)) (member_path names links h above k name l (refl, it)))

    named_on : (above : Path) (name : List ℕ) → has_path (paths_of names next) (above ++ member name ∷ []) ≡ true → is_member text_equal (names_after more (folded_by more above) seen) name ≡ true
    named_on above name e =
        let found = path_found (paths_of names next) (above ++ member name ∷ []) e in
        let many = many_paths names next moved.places in
        let from = moved.reached found.0 (not_root found.0 found.2) (omega (arith, many, found.1)) in
        let k = from.0 in let link = link_at links k in let parent = get_or to link.parent 0 in
        let at = moved.at k from.1 from.2 in
        let now = path_of_link names next moved.places (get_or to k 0) (moved_link at.over parent link) at.within at.is (no_start_folded at.over link.step (h.below k from.1 from.2).1) in
        let parts = same_from_push above (path_at (paths_of names next) parent) (member name) (stride_in names (folded_step at.over link.step))
        (sym found.2 ∙ (ap (path_at (paths_of names next)) (sym from.3) ∙ now)) in
        let step = step_not_others names link.step (is_named link.step && at.over) name parts.1 in
        ap (λ (p : Path). is_member text_equal (names_after more (folded_by more p) seen) name) parts.0
        ∙ known_member parent k name from.2 refl step
      where
        not_root : (j : ℕ) → path_at (paths_of names next) j ≡ above ++ member name ∷ [] → 0 < j
        not_root zero is = absurd (let short = ap length (sym (path_of_root names next moved.places) ∙ is) in let one = length_push above (member name) in omega (arith, short, one))
        not_root (suc j) is = omega arith

    -- an object that is folded
    by_rest : (place k : ℕ) → k < length links → get_or to (link_at links k).parent 0 ≡ place → is_rest (link_at links k).step ≡ true
        → has_many_names limit (rests_after more (folded_by more (path_at (paths_of names next) place)) seen) ≡ true
    by_rest place k l is rest =
        let above = (link_at links k).parent in
        ap (λ (p : Path). has_many_names limit (rests_after more p seen)) (sym (above_same k place l is))
        ∙ was.many more before (path_at (paths_of names links) above)
        (is_folded_at names links h k above l (same_link (link_at links k) (record { parent = above; step = steps.Others }) refl (rest_is (link_at links k).step rest)))

    -- a link that is told below a place
    told_below : (place j : ℕ) → j < length told → (link_at told j).parent ≡ place → (k : ℕ) × (k < length links) × (get_or to (link_at links k).parent 0 ≡ place) × ((link_at told j).step ≡ (link_at links k).step)
    told_below place j l is = let it = moved.all_told.each j l in (it.place, it.within, same_Some (get_or to (link_at links it.place).parent 0) (link_at told j).parent it.parent ∙ is, it.step)

    -- an object that is to be folded
    by_over : (place : ℕ) → is_over limit told place ≡ true → has_many_names limit (rests_after more (folded_by more (path_at (paths_of names next) place)) seen) ≡ true
    by_over place e = by (or_cases (ltb limit (members_of told place)) (ltb 0 (members_of told place) && has_link told (record { parent = place; step = steps.Others })) e)
      where
        known : (j : ℕ) → j < length told → IsKnown names (link_at told j).step
        known j l = let it = moved.all_told.each j l in subst (IsKnown names) (sym it.step) (h.known it.place it.within)

        by : ((ltb limit (members_of told place) ≡ true) ⊎ ((ltb 0 (members_of told place) && has_link told (record { parent = place; step = steps.Others })) ≡ true))
            → has_many_names limit (rests_after more (folded_by more (path_at (paths_of names next) place)) seen) ≡ true
        by (inl f) =
            let fewer = fewer_names (member_names names place told) (names_after more (folded_by more (path_at (paths_of names next) place)) seen)
            (λ name there. let found = member_found names place name told there in
            let it = told_below place found.0 found.1 found.2.0 in
            known_member place it.0 name it.1 it.2 (ap (stride_in names) (sym it.3) ∙ found.2.1)) in
            let count = member_count names told h.distinct_names known moved.all_told.once place in
            let members = ltb-true limit (members_of told place) f in
            lt-ltb limit (distinct_count text_equal (names_after more (folded_by more (path_at (paths_of names next) place)) seen)) (omega (arith, fewer, count, members))
        by (inr f) =
            let there = and_parts (ltb 0 (members_of told place)) (has_link told (record { parent = place; step = steps.Others })) f in
            let found = place_link told (record { parent = place; step = steps.Others }) there.1 in
            let it = told_below place found.0 found.1 (ap (λ (x : Link). x.parent) found.2) in
            by_rest place it.0 it.1 it.2 (ap is_rest (sym it.3 ∙ ap (λ (x : Link). x.step) found.2))

    many_on : (above : Path) → has_path (folds_of names next) above ≡ true → has_many_names limit (rests_after more (folded_by more above) seen) ≡ true
    many_on above e =
        let found = fold_found (paths_of names next) next above e in
        let is : link_at next found.0 ≡ found.1 = get_or_default next found.0 root_link found.1 found.2 ∙ found.3 in
        let from = moved.reached found.0 (not_root found.0 (ap (λ (x : Link). is_rest x.step) is ∙ found.4.0)) found.2 in
        let k = from.0 in let link = link_at links k in let parent = get_or to link.parent 0 in
        let at = moved.at k from.1 from.2 in
        let now : moved_link at.over parent link ≡ found.1 = sym at.is ∙ (ap (link_at next) from.3 ∙ is) in
        let rest : is_rest (folded_step at.over link.step) ≡ true = ap (λ (x : Link). is_rest x.step) now ∙ found.4.0 in
        let path : path_at (paths_of names next) parent ≡ above = ap (λ (x : Link). path_at (paths_of names next) x.parent) now ∙ found.4.1 in
        ap (λ (p : Path). has_many_names limit (rests_after more (folded_by more p) seen)) (sym path)
        ∙ by k from.2 at.over (over_or_rest link.step at.over rest) at.since
      where
        not_root : (j : ℕ) → is_rest (link_at next j).step ≡ true → 0 < j
        not_root zero e = absurd (let no = ap (λ (x : Link). is_rest x.step) moved.places.root in cc)
        not_root (suc j) e = omega arith

        by : (k : ℕ) → k < length links → (over : Bool) → ((is_rest (link_at links k).step ≡ true) ⊎ (over ≡ true)) → (over ≡ true → is_over limit told (get_or to (link_at links k).parent 0) ≡ true)
            → has_many_names limit (rests_after more (folded_by more (path_at (paths_of names next) (get_or to (link_at links k).parent 0))) seen) ≡ true
        by k l over (inl f) since = by_rest (get_or to (link_at links k).parent 0) k l refl f
        by k l over (inr f) since = by_over (get_or to (link_at links k).parent 0) (since f)

  -- objects that are folded have many names
  pub justified_moved : IsJustified limit seen (paths_of names next) (folds_of names next)
  justified_moved = record { named = named_on; many = many_on }

-- ---- in the end

last_of : (s : Stride) (r : Path) → (front : Path) × (last : Stride) × (s ∷ r ≡ front ++ last ∷ [])
last_of s [] = ([], s, refl)
last_of s (t ∷ r) = let rest = last_of t r in (s ∷ rest.0, rest.1, ap (λ (p : Path). s ∷ p) rest.2)

-- a path begins with that from which it is folded
goes_from : (folds : List Path) (a path : Path) → (r : Path) × (fold (longer folds) a path ≡ a ++ r)
goes_from folds a [] = ([], sym (append-nil a))
goes_from folds a (s ∷ path) =
    let rest = goes_from folds (longer folds a s) path in
    (shown_stride folds a s ∷ rest.0, rest.1 ∙ append_assoc a (shown_stride folds a s ∷ []) rest.0)

some_name : (names : List (List ℕ)) → 0 < distinct_count text_equal names → (name : List ℕ) × (is_member text_equal names name ≡ true)
some_name [] l = absurd (omega (arith, l))
some_name (name ∷ names) l = (name, or_left (text_equal name name) (is_member text_equal names name) ((bytes_eq-Decides name name).1 refl))

same_bool : (a b : Bool) → (a ≡ true → b ≡ true) → (a ≡ false → b ≡ true → ⊥) → a ≡ b
same_bool true b f g = sym (f refl)
same_bool false true f g = absurd (g refl refl)
same_bool false false f g = refl

module _ (names : List (List ℕ)) (links : List Link) (h : ArePlaces names links) where
  -- the places above a place
  front_within : (n k : ℕ) → k < n → k < length links → (a r : Path) → path_at (paths_of names links) k ≡ a ++ r → (j : ℕ) × (j < length links) × (path_at (paths_of names links) j ≡ a)
  front_within zero k s l a r is = absurd (omega (arith, s))
  front_within (suc n) k s l a [] is = (k, l, is ∙ append-nil a)
  front_within (suc n) zero s l a (t ∷ r) is =
      absurd (let short = ap length (sym (path_of_root names links h) ∙ is) in let long = length-append a (t ∷ r) in omega (arith, short, long))
  front_within (suc n) (suc k) s l a (t ∷ r) is =
      let link = link_at links (suc k) in let last = last_of t r in
      let below = (h.below (suc k) (omega arith) l).0 in
      let parts = same_from_push (path_at (paths_of names links) link.parent) (a ++ last.0) (stride_in names link.step) last.1
      (sym (path_of_place names links h (suc k) (omega arith) l) ∙ (is ∙ (ap (λ (p : Path). a ++ p) last.2 ∙ sym (append_assoc a last.0 (last.1 ∷ []))))) in
      front_within n link.parent (omega (arith, below, s)) (parent_within names links h (suc k) l) a last.0 parts.0

  module _ (limit : ℕ) (apart : AreApart names links) (none : (place : ℕ) → place < length links → is_over limit links place ≡ false) (seen : List Path)
      (placed : All (λ path. has_path (paths_of names links) (folded_by (folds_of names links) path) ≡ true) seen)
      (was : IsJustified limit seen (paths_of names links) (folds_of names links)) where
    has_many : (above : Path) → has_path (folds_of names links) above ≡ true → has_many_names limit (rests_after (folds_of names links) above seen) ≡ true
    has_many above e =
        let found = fold_found (paths_of names links) links above e in
        let k = found.0 in
        let is : link_at links k ≡ found.1 = get_or_default links k root_link found.1 found.2 ∙ found.3 in
        let at : path_at (paths_of names links) (link_at links k).parent ≡ above = ap (λ (x : Link). path_at (paths_of names links) x.parent) is ∙ found.4.1 in
        let itself : folded_by (folds_of names links) above ≡ above =
        ap (folded_by (folds_of names links)) (sym at) ∙ (folded_itself names links h apart (link_at links k).parent (parent_within names links h k found.2) ∙ at) in
        ap (λ (p : Path). has_many_names limit (rests_after (folds_of names links) p seen)) (sym itself)
        ∙ was.many (folds_of names links) (closed_itself names links h apart) above e

    module _ (above : Path) (plain : has_path (folds_of names links) above ≡ false) where
      -- a name that comes after an object is that of a place
      name_place : (name : List ℕ) → is_member text_equal (names_after (folds_of names links) above seen) name ≡ true
          → (k : ℕ) × (k < length links) × (path_at (paths_of names links) k ≡ above ++ member name ∷ [])
      name_place name e =
          let folds = folds_of names links in
          let found = Any-from_list_any (goes_on (folds_of names links) above name) seen (sym (names_any (folds_of names links) above seen name) ∙ e) in
          let it = goes_on_found (folds_of names links) above name found.1 found.4 in
          let there = placed found.0 found.1 found.2 in
          let rest = goes_from (folds_of names links) (above ++ member name ∷ []) it.1 in
          let shown : folded_by (folds_of names links) (get_or seen found.0 found.1) ≡ (above ++ member name ∷ []) ++ rest.0 =
          ap (folded_by (folds_of names links)) (found.3 ∙ it.2)
          ∙ (fold-append (longer (folds_of names links)) [] it.0 (member name ∷ it.1)
          ∙ (ap (λ (p : Path). fold (longer (folds_of names links)) (longer (folds_of names links) p (member name)) it.1) it.3
          ∙ (ap (λ (p : Path). fold (longer (folds_of names links)) p it.1) (shown_plain (folds_of names links) above name plain)
          ∙ rest.1))) in
          let place = path_found (paths_of names links) (folded_by (folds_of names links) (get_or seen found.0 found.1)) there in
          let many = many_paths names links h in
          front_within (suc place.0) place.0 (omega arith) (omega (arith, many, place.1)) (above ++ member name ∷ []) rest.0 (place.2 ∙ shown)

      -- it is a member of the object's place
      parent_path : (k : ℕ) (name : List ℕ) → k < length links → path_at (paths_of names links) k ≡ above ++ member name ∷ []
          → (path_at (paths_of names links) (link_at links k).parent ≡ above) × (stride_in names (link_at links k).step ≡ member name)
      parent_path zero name l is =
          absurd (let short = ap length (sym (path_of_root names links h) ∙ is) in let one = length_push above (member name) in omega (arith, short, one))
      parent_path (suc k) name l is =
          same_from_push (path_at (paths_of names links) (link_at links (suc k)).parent) above (stride_in names (link_at links (suc k)).step) (member name)
          (sym (path_of_place names links h (suc k) (omega arith) l) ∙ is)

      few_names : has_many_names limit (rests_after (folds_of names links) above seen) ≡ true → ⊥
      few_names e =
          let count = ltb-true limit (distinct_count text_equal (names_after (folds_of names links) above seen)) e in
          let name = some_name (names_after (folds_of names links) above seen) (omega (arith, count)) in
          let first = name_place name.0 name.1 in
          let top = parent_path first.0 name.0 first.1 first.2 in
          let place = (link_at links first.0).parent in
          let within = parent_within names links h first.0 first.1 in
          let fewer = fewer_names (names_after (folds_of names links) above seen) (member_names names place links) (λ other there.
          let at = name_place other there in
          let parts = parent_path at.0 other at.1 at.2 in
          member_there names place other links at.0 at.1
          (h.distinct_paths (link_at links at.0).parent place (parent_within names links h at.0 at.1) within (parts.0 ∙ sym top.0), parts.1)) in
          let members = member_count names links h.distinct_names h.known (link_once names links h) place in
          let over = or_left (ltb limit (members_of links place)) (ltb 0 (members_of links place) && has_link links (record { parent = place; step = steps.Others }))
          (lt-ltb limit (members_of links place) (omega (arith, count, fewer, members))) in
          let not_over = none place within in
          absurd (cc (over, not_over))

    -- the objects that are folded are those with many names
    pub are_folds : AreFolds limit seen (folds_of names links)
    are_folds above = same_bool (has_path (folds_of names links) above) (has_many_names limit (rests_after (folds_of names links) above seen)) (has_many above) (few_names above)
