-- Places move to others one by one.
use Rattle.std.proofs.Common.{◌≡◌, ◌∙◌, ℕ, zero, suc, ◌+◌, ◌<◌, ◌≤◌, ◌⊎◌, inl, inr, List, [], ◌∷◌, ◌++◌, length, get_or, set, map, Bool, true, false, ◌&&◌, Some, None, ap, refl, sym, subst, arith, ltb}
use Rattle.std.specs.Prelude.{Option, if◌then◌else◌}
use Rattle.std.proofs.lemmas.Bool.{and_parts, cases_eq, cases_lt, lt-ltb, ltb-true, or_cases, or_left, or_right}
use Rattle.std.proofs.lemmas.List.{get_or-map, get_or-set_other, get_or-set_same, get_or_append_left, length-map, length-set, length_push}
use Rattle.std.proofs.lemmas.List.Folds.{list_any-append, list_any_at}
use Rattle.std.proofs.lemmas.Option.{same_Some}
use Rattle.jp_survey.specs.Foldings.{is_over}
use Rattle.jp_survey.specs.Movings.{AreMoving, HaveMoved, IsMovedTo, IsToldOf, folded_step, moved_link, moved_to}
use Rattle.jp_survey.specs.Places.{ArePlaces, IsKnown, has_link, is_named, is_start, link_at, link_equal, members_of, root_link, with_link}
use Rattle.jp_survey.specs.declared.links.Link.{Link}
use Rattle.jp_survey.specs.declared.links.Step.{Step}
use Rattle.jp_survey.specs.declared.links.Step.TheVariants as steps
use Rattle.jp_survey.proofs.Equalities.{link_itself}
use Rattle.jp_survey.proofs.Folded.{no_start_folded}
use Rattle.jp_survey.proofs.Linked.{members_push}
use Rattle.jp_survey.proofs.Places.{grown, parent_within}
use Rattle.jp_survey.proofs.Pushed.{distinct_pushed, each_pushed}

-- ---- links with another

-- links that are there stay
pub prefix_stays : (links : List Link) (link : Link) (k : ℕ) → k < length links → (k < length (with_link links link)) × (link_at (with_link links link) k ≡ link_at links k)
prefix_stays links link k l = by (has_link links link)
  where
    by : (b : Bool) → (k < length (if b then links else links ++ link ∷ [])) × (link_at (if b then links else links ++ link ∷ []) k ≡ link_at links k)
    by true = (l, refl)
    by false = (let one = length_push links link in omega (arith, one, l), get_or_append_left links (link ∷ []) root_link k l)

with_places : (names : List (List ℕ)) (links : List Link) (link : Link) → ArePlaces names links → link.parent < length links → is_start link.step ≡ false → IsKnown names link.step → ArePlaces names (with_link links link)
with_places names links link h inside told known = by (has_link links link) refl
  where
    by : (b : Bool) → has_link links link ≡ b → ArePlaces names (if b then links else links ++ link ∷ [])
    by true e = h
    by false e = grown names links h link inside told known e

with_each : (P : Link → Type 0) (links : List Link) (link : Link) → ((k : ℕ) → k < length links → P (link_at links k)) → P link → (k : ℕ) → k < length (with_link links link) → P (link_at (with_link links link) k)
with_each P links link each last = by (has_link links link)
  where
    by : (b : Bool) → (k : ℕ) → k < length (if b then links else links ++ link ∷ []) → P (link_at (if b then links else links ++ link ∷ []) k)
    by true = each
    by false = each_pushed links link root_link (λ (n : ℕ) (x : Link). P x) each last

abbrev AreOnce : List Link → Type 0
AreOnce links = (j k : ℕ) → j < length links → k < length links → link_at links j ≡ link_at links k → j ≡ k

not_there : (links : List Link) (link : Link) (k : ℕ) → k < length links → link_at links k ≡ link → has_link links link ≡ false → ⊥
not_there links link k l is none =
    let there = list_any_at (link_equal link) links k root_link l (ap (link_equal link) is ∙ link_itself link) in absurd (cc (there, none))

with_once : (links : List Link) (link : Link) → AreOnce links → AreOnce (with_link links link)
with_once links link once = by (has_link links link) refl
  where
    by : (b : Bool) → has_link links link ≡ b → AreOnce (if b then links else links ++ link ∷ [])
    by true e = once
    by false e = distinct_pushed links link root_link once (λ k l is. not_there links link k l is e)

-- what is to be folded is to be with one link more
over_more : (fold : ℕ) (links : List Link) (link : Link) (place : ℕ) → is_over fold links place ≡ true → is_over fold (with_link links link) place ≡ true
over_more fold links link place e = by (has_link links link)
  where
    others : Link
    others = record { parent = place; step = steps.Others }

    more : List Link
    more = links ++ link ∷ []

    members : members_of links place ≤ members_of (links ++ link ∷ []) place
    members = let push = members_push links link place in omega (arith, push)

    many : (n : ℕ) → ltb n (members_of links place) ≡ true → ltb n (members_of (links ++ link ∷ []) place) ≡ true
    many n f = let few = ltb-true n (members_of links place) f in let all = members in lt-ltb n (members_of (links ++ link ∷ []) place) (omega (arith, few, all))

    there : has_link links (record { parent = place; step = steps.Others }) ≡ true → has_link (links ++ link ∷ []) (record { parent = place; step = steps.Others }) ≡ true
    there f =
        list_any-append (link_equal (record { parent = place; step = steps.Others })) links (link ∷ [])
        ∙ or_left (has_link links (record { parent = place; step = steps.Others })) (has_link (link ∷ []) (record { parent = place; step = steps.Others })) f

    parts : ((ltb fold (members_of links place) ≡ true) ⊎ ((ltb 0 (members_of links place) && has_link links (record { parent = place; step = steps.Others })) ≡ true))
        → is_over fold (links ++ link ∷ []) place ≡ true
    parts (inl f) =
        or_left (ltb fold (members_of (links ++ link ∷ []) place)) (ltb 0 (members_of (links ++ link ∷ []) place) && has_link (links ++ link ∷ []) (record { parent = place; step = steps.Others })) (many fold f)
    parts (inr f) =
        let both = and_parts (ltb 0 (members_of links place)) (has_link links (record { parent = place; step = steps.Others })) f in
        let some = many 0 both.0 in let rest = there both.1 in
        or_right (ltb fold (members_of (links ++ link ∷ []) place)) (ltb 0 (members_of (links ++ link ∷ []) place) && has_link (links ++ link ∷ []) (record { parent = place; step = steps.Others })) (cc)

    by : (b : Bool) → is_over fold (if b then links else links ++ link ∷ []) place ≡ true
    by true = e
    by false = parts (or_cases (ltb fold (members_of links place)) (ltb 0 (members_of links place) && has_link links (record { parent = place; step = steps.Others })) e)

-- ---- a place is told, or moves

known_folded : (names : List (List ℕ)) (over : Bool) (step : Step) → IsKnown names step → IsKnown names (folded_step over step)
known_folded names over step known = by (is_named step && over)
  where
    by : (b : Bool) → IsKnown names (if b then steps.Others else step)
    by true = tt
    by false = known

module _ (fold : ℕ) (names : List (List ℕ)) (links told next : List Link) (to : List (Option ℕ)) (m : AreMoving fold names links told next to) where
  pub told_moves : (k : ℕ) (link : Link) → k < length links → moved_to to (link_at links k).parent ≡ Some link.parent → link.step ≡ (link_at links k).step
      → AreMoving fold names links (with_link told link) next to
  told_moves k link l parent step = record {
    places = m.places;
    many = m.many;
    root = m.root;
    at = λ j place some s is.
        let was = m.at j place some s is in (
          was.0,
          was.1,
          record { over = was.2.over; within = was.2.within; is = was.2.is; since = λ e. over_more fold told link was.0 (was.2.since e) },
        );
    all_told = record {
      each = with_each (λ (x : Link). IsToldOf links (moved_to to) x) told link m.all_told.each (record { place = k; within = l; parent = parent; step = step });
      once = with_once told link m.all_told.once;
    };
    reached = m.reached;
  }

  module _ (h : ArePlaces names links) (k : ℕ) (l : k < length links) (left : moved_to to k ≡ None) (parent : ℕ) (above : moved_to to (link_at links k).parent ≡ Some parent) (inside : parent < length next)
      (link : Link) (is : link ≡ moved_link (is_over fold told parent) parent (link_at links k)) (place : ℕ) (within : place < length (with_link next link)) (at : link_at (with_link next link) place ≡ link) where
    some : (n : ℕ) → k ≡ n → 0 < k
    some zero e = absurd (let first : moved_to to 0 ≡ None = ap (moved_to to) (sym e) ∙ left in let root = m.root in cc)
    some (suc n) e = omega (arith, e)

    plain : is_start (link_at links k).step ≡ false
    plain = (h.below k (some k refl) l).1

    stays : (j q : ℕ) → moved_to to j ≡ Some q → moved_to (set to k (Some place)) j ≡ Some q
    stays j q e = by (cases_eq j k)
      where
        by : ((j ≡ k) ⊎ (j ≡ k → ⊥)) → moved_to (set to k (Some place)) j ≡ Some q
        by (inl same) = absurd (let none : moved_to to j ≡ None = ap (moved_to to) same ∙ left in cc)
        by (inr ne) = get_or-set_other to k j (Some place) None ne ∙ e

    here : moved_to (set to k (Some place)) k ≡ Some place
    here = get_or-set_same to k (Some place) None (let many = m.many in omega (arith, many, l))

    abbrev HasCome : ℕ → ℕ → Type 0
    HasCome j q = (p : ℕ) × (moved_to (set to k (Some place)) (link_at links j).parent ≡ Some p) × IsMovedTo fold told (with_link next link) (link_at links j) p q

    new : HasCome k place
    new = (parent, stays (link_at links k).parent parent above, record { over = is_over fold told parent; within = within; is = at ∙ is; since = λ e. e })

    come : (j q : ℕ) → 0 < j → j < length links → moved_to (set to k (Some place)) j ≡ Some q → HasCome j q
    come j q first s e = by (cases_eq j k)
      where
        by : ((j ≡ k) ⊎ (j ≡ k → ⊥)) → HasCome j q
        by (inl same) =
            let it : place ≡ q = same_Some place q (sym (ap (moved_to (set to k (Some place))) same ∙ here) ∙ e) in
            subst (λ (i : ℕ). HasCome i q) (sym same) (subst (HasCome k) it new)
        by (inr ne) =
            let was = m.at j q first s (sym (get_or-set_other to k j (Some place) None ne) ∙ e) in
            let kept = prefix_stays next link q was.2.within in
            (was.0, stays (link_at links j).parent was.0 was.1, record { over = was.2.over; within = kept.0; is = kept.1 ∙ was.2.is; since = was.2.since })

    -- the new place is the last one, where it is new
    at_end : (q : ℕ) → length next ≤ q → q < length (with_link next link) → place ≡ q
    at_end q low s = by (has_link next link) refl within at s
      where
        ends : length (next ++ link ∷ []) ≡ length next + 1
        ends = length_push next link

        by : (b : Bool) → has_link next link ≡ b → place < length (if b then next else next ++ link ∷ []) → link_at (if b then next else next ++ link ∷ []) place ≡ link
            → q < length (if b then next else next ++ link ∷ []) → place ≡ q
        by true e w a t = absurd (omega (arith, low, t))
        by false e w a t = last (cases_lt place (length next))
          where
            last : ((place < length next) ⊎ (length next ≤ place)) → place ≡ q
            last (inl u) = absurd (not_there next link place u (sym (get_or_append_left next (link ∷ []) root_link place u) ∙ a) e)
            last (inr u) = let one = ends in omega (arith, one, u, w, low, t)

    reach : (q : ℕ) → 0 < q → q < length (with_link next link) → (j : ℕ) × (0 < j) × (j < length links) × (moved_to (set to k (Some place)) j ≡ Some q)
    reach q first s = by (cases_lt q (length next))
      where
        by : ((q < length next) ⊎ (length next ≤ q)) → (j : ℕ) × (0 < j) × (j < length links) × (moved_to (set to k (Some place)) j ≡ Some q)
        by (inl t) = let was = m.reached q first t in (was.0, was.1, was.2, stays was.0 q was.3)
        by (inr t) = (k, some k refl, l, here ∙ ap (λ (p : ℕ). Some p) (at_end q t s))

    pub place_moves : AreMoving fold names links told (with_link next link) (set to k (Some place))
    place_moves = record {
      places = subst (λ (x : Link). ArePlaces names (with_link next x)) (sym is)
          (with_places names next (moved_link (is_over fold told parent) parent (link_at links k)) m.places inside (no_start_folded (is_over fold told parent) (link_at links k).step plain)
          (known_folded names (is_over fold told parent) (link_at links k).step (h.known k l)));
      many = length-set to k (Some place) ∙ m.many;
      root = stays 0 0 m.root;
      at = come;
      all_told = record {
        each = λ j s. let it = m.all_told.each j s in
            record { place = it.place; within = it.within; parent = stays (link_at links it.place).parent (link_at told j).parent it.parent; step = it.step };
        once = m.all_told.once;
      };
      reached = reach;
    }

-- ---- at first, and in the end

pub none_moved : (fold : ℕ) (names : List (List ℕ)) (links told next : List Link) (to : List (Option ℕ)) → ArePlaces names links → told ≡ root_link ∷ [] → next ≡ root_link ∷ [] → length to ≡ length links
    → moved_to to 0 ≡ Some 0 → ((k : ℕ) → 0 < k → moved_to to k ≡ None) → AreMoving fold names links told next to
none_moved fold names links told next to h told-is next-is many root rest =
    subst (λ (t : List Link). AreMoving fold names links t next to) (sym told-is) (subst (λ (n : List Link). AreMoving fold names links (root_link ∷ []) n to) (sym next-is) (record {
      places = record {
        some = omega arith;
        root = refl;
        below = λ k some l. absurd (omega (arith, some, l));
        known = λ k l. known k l;
        distinct_names = h.distinct_names;
        distinct_paths = λ j k l s e. omega (arith, l, s);
      };
      many = many;
      root = root;
      at = λ k place some l is. absurd (let none = rest k some in cc);
      all_told = record { each = told_root; once = λ j k l s e. omega (arith, l, s) };
      reached = λ place some l. absurd (omega (arith, some, l));
    }))
  where
    known : (k : ℕ) → k < 1 → IsKnown names (link_at (root_link ∷ []) k).step
    known zero l = tt
    known (suc k) l = absurd (omega (arith, l))

    told_root : (j : ℕ) → j < 1 → IsToldOf links (moved_to to) (link_at (root_link ∷ []) j)
    told_root zero l = record {
      place = 0;
      within = h.some;
      parent = ap (λ (x : Link). moved_to to x.parent) h.root ∙ root;
      step = sym (ap (λ (x : Link). x.step) h.root);
    }
    told_root (suc j) l = absurd (omega (arith, l))

module _ (fold : ℕ) (names : List (List ℕ)) (links told next : List Link) (places : List (Option ℕ)) (to : List ℕ) (h : ArePlaces names links) (m : AreMoving fold names links told next places)
    (all : map (λ (p : ℕ). Some p) to ≡ places) where
  long : length to ≡ length links
  long = sym (length-map to (λ (p : ℕ). Some p)) ∙ (ap length all ∙ m.many)

  place_is : (k : ℕ) → k < length links → moved_to places k ≡ Some (get_or to k 0)
  place_is k l = ap (λ (ps : List (Option ℕ)). moved_to ps k) (sym all) ∙ get_or-map (λ (p : ℕ). Some p) to k 0 None (let many = long in omega (arith, many, l))

  same_place : (k q : ℕ) → k < length links → moved_to places k ≡ Some q → get_or to k 0 ≡ q
  same_place k q l e = same_Some (get_or to k 0) q (sym (place_is k l) ∙ e)

  pub have_moved : HaveMoved fold names links told next to
  have_moved = record {
    places = m.places;
    many = long;
    root = same_place 0 0 h.some m.root;
    at = λ k some l.
        let was = m.at k (get_or to k 0) some l (place_is k l) in
        subst (λ (p : ℕ). IsMovedTo fold told next (link_at links k) p (get_or to k 0)) (sym (same_place (link_at links k).parent was.0 (parent_within names links h k l) was.1)) was.2;
    all_told = record {
      each = λ j l. let it = m.all_told.each j l in
          record {
            place = it.place;
            within = it.within;
            parent = ap (λ (p : ℕ). Some p) (same_place (link_at links it.place).parent (link_at told j).parent (parent_within names links h it.place it.within) it.parent);
            step = it.step;
          };
      once = m.all_told.once;
    };
    reached = λ place some l. let it = m.reached place some l in (it.0, it.1, it.2, same_place it.0 place it.2 it.3);
  }
