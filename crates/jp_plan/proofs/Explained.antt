-- The lines that explain a plan.
use Rattle.std.proofs.Common.{◌≡◌, ℕ, ◌+◌, ◌≤◌, List, [], ◌∷◌, ◌++◌, length, drop, Bool, true, false, ◌&&◌, cond, Option, Some, None, IfSome, if◌then◌else◌, sym, ap, ◌∙◌, refl, arith, append_assoc, codes, decimal, encode_utf8_all}
use Rattle.std.specs.Prelude.{count_by}
use lib.Utf8.{encode}
use Rattle.std.proofs.lemmas.List.Sums.{sum_by-cons, count_by-le-length}
use Rattle.std.proofs.lemmas.List.{length-map}
use Rattle.std.proofs.lemmas.Str.{encodes-append}
use Rattle.jp_model.specs.Json.Status.{LineStatus, blank, refused, parsed}
use Rattle.jp_model.specs.Json.Reader.{status_of}
use Rattle.jp_model.specs.Meaning.Paths.{literal_text, op_text, path_text, steps_text}
use Rattle.jp_model.specs.Numbered.{numbers_where}
use Rattle.jp_model.specs.Plans.{Guard, explain, guard_of, guard_text, is_opened, is_tree, leading_steps, opened, scan_text, seek_length, seek_of, seek_passes, seek_text, segments_text, told}
use Rattle.jp_model.specs.Query.Syntax.{CompareOp, equal, not_equal, less, less_equal, greater, greater_equal, Segments, segment_list}
use Rattle.jp_model.specs.Rows.{line_feed}
use Rattle.jp_model.specs.Steps.{Step}
use Rattle.jp_syntax.specs.Sound.{is_sound}
use Rattle.jp_syntax.specs.View.{literal_view}
use Rattle.jp_store.specs.Collections.{Collection, statuses_in}
use Rattle.jp_plan.specs.Behind.{segments_behind}
use Rattle.jp_plan.specs.Passing.{guard_status, seek_status}
use Rattle.jp_plan.specs.Planned.{Planned, lines_opened}
use Rattle.jp_plan.specs.Routes.{IsRouteOf, steps_or_none}
use Rattle.jp_plan.specs.declared.guard.Guard.{Guard as Guarding}
use Rattle.jp_plan.specs.declared.route.Route.{Route}
use Rattle.jp_plan.proofs.Passing.{opens_both, same_pass}
use Rattle.jp_plan.proofs.Sounds.{route_fit}
use Rattle.jp_plan.proofs.Walks.{behind_drop}

-- ---- one line

-- a piece more after a text
pub more : (old mid new front piece : List ℕ) → mid ≡ old ++ front → new ≡ mid ++ piece → new ≡ old ++ (front ++ piece)
more old mid new front piece e f = f ∙ (ap (λ b. b ++ piece) e ∙ append_assoc old front piece)

op_encoded : (op : CompareOp) → encode_utf8_all (op_text op) ≡ op_text op
unfolding encode
op_encoded equal = refl
op_encoded not_equal = refl
op_encoded less = refl
op_encoded less_equal = refl
op_encoded greater = refl
op_encoded greater_equal = refl

guard_begins : (steps : List Step) → encode_utf8_all (codes "guard $" ++ steps_text steps) ≡ codes "guard " ++ path_text steps
unfolding encode
guard_begins steps = refl

blank_encoded : encode_utf8_all (codes " ") ≡ codes " "
unfolding encode
blank_encoded = refl

-- the line of a guard, piece by piece
pub guard_pieces : (g : Guard) → guard_text (Some g) ≡ (((((codes "guard " ++ path_text g.steps) ++ codes " ") ++ op_text g.op) ++ codes " ") ++ encode_utf8_all (literal_text g.literal)) ++ line_feed
guard_pieces g =
    let a : List ℕ = codes "guard $" ++ steps_text g.steps in
    let whole : encode_utf8_all ((((a ++ codes " ") ++ op_text g.op) ++ codes " ") ++ literal_text g.literal) ≡ ((((codes "guard " ++ path_text g.steps) ++ codes " ") ++ op_text g.op) ++ codes " ") ++ encode_utf8_all (literal_text g.literal) =
    encodes-append (((a ++ codes " ") ++ op_text g.op) ++ codes " ") (literal_text g.literal)
    ∙ ap (λ b. b ++ encode_utf8_all (literal_text g.literal))
    (joined ((a ++ codes " ") ++ op_text g.op) (codes " ") _ _
    (joined (a ++ codes " ") (op_text g.op) _ _ (joined a (codes " ") _ _ (guard_begins g.steps) blank_encoded) (op_encoded g.op))
    blank_encoded) in
    ap (λ b. b ++ line_feed) whole
  where
    joined : (x y u v : List ℕ) → encode_utf8_all x ≡ u → encode_utf8_all y ≡ v → encode_utf8_all (x ++ y) ≡ u ++ v
    joined x y u v e f = encodes-append x y ∙ (ap (λ b. b ++ encode_utf8_all y) e ∙ ap (λ b. u ++ b) f)

of_encoded : encode_utf8_all (codes " of ") ≡ codes " of "
unfolding encode
of_encoded = refl

open_begins : (n : List ℕ) → encode_utf8_all (codes "open " ++ n) ≡ codes "open " ++ encode_utf8_all n
unfolding encode
open_begins n = refl

-- the line of the counts, piece by piece
pub count_pieces : (n t : ℕ) → told (codes "open " ++ decimal n ++ codes " of " ++ decimal t) ≡ (((codes "open " ++ encode_utf8_all (decimal n)) ++ codes " of ") ++ encode_utf8_all (decimal t)) ++ line_feed
count_pieces n t =
    let a : List ℕ = codes "open " ++ decimal n in
    ap (λ b. b ++ line_feed) (encodes-append (a ++ codes " of ") (decimal t)
    ∙ ap (λ b. b ++ encode_utf8_all (decimal t)) (encodes-append a (codes " of ")
    ∙ (ap (λ b. b ++ encode_utf8_all (codes " of ")) (open_begins (decimal n)) ∙ ap (λ b. (codes "open " ++ encode_utf8_all (decimal n)) ++ b) of_encoded)))

-- ---- the counts

pub numbers_counted : {X : Type 0} (p : X → Bool) (n : ℕ) (xs : List X) → length (numbers_where p n xs) ≡ count_by p xs
numbers_counted p n [] = refl
numbers_counted p n (x ∷ xs) = pick (p x) (numbers_counted p (n + 1) xs) ∙ sym (sum_by-cons (λ x. cond (p x) 1 0) x xs)
  where
    pick : (b : Bool) → length (numbers_where p (n + 1) xs) ≡ count_by p xs → length (if b then n ∷ numbers_where p (n + 1) xs else numbers_where p (n + 1) xs) ≡ cond b 1 0 + count_by p xs
    pick true h = omega (arith, h)
    pick false h = omega (arith, h)

-- a plan opens no more lines than there are
pub few_opened : (plan : Planned) → length (lines_opened plan) ≤ length plan.over.state.lines
few_opened plan =
    let p = is_opened plan.query plan.over.state.paths in
    let all : List LineStatus = statuses_in plan.over in
    omega (arith, numbers_counted p 1 all, count_by-le-length p all, length-map plan.over.state.lines (status_of plan.over.framing))

and_true : (b : Bool) → (b && true) ≡ b
and_true true = refl
and_true false = refl

module _ (q : Segments) (paths : List (List Step)) (statuses : List LineStatus) where
  -- all lines with a tree are opened
  pub trees_opened : None ≡ seek_of paths (leading_steps q) → None ≡ guard_of paths q → count_by is_tree statuses ≡ length (opened q paths statuses)
  trees_opened e f =
      sym (numbers_counted is_tree 1 statuses)
      ∙ ap length (same_pass _ _ (λ s. alone s ∙ opens_both q paths None None e f s) 1 statuses)
    where
      alone : (s : LineStatus) → is_tree s ≡ (seek_status None s && guard_status None s)
      alone blank = refl
      alone (refused fault) = refl
      alone (parsed t) = refl

  -- the lines where the seek has a node are opened
  pub sought_opened : (seek : Option (List Step)) → seek ≡ seek_of paths (leading_steps q) → None ≡ guard_of paths q → numbers_where (seek_status seek) 1 statuses ≡ opened q paths statuses
  sought_opened seek e f = same_pass _ _ (λ s. alone s ∙ opens_both q paths seek None e f s) 1 statuses
    where
      alone : (s : LineStatus) → seek_status seek s ≡ (seek_status seek s && guard_status None s)
      alone blank = refl
      alone (refused fault) = refl
      alone (parsed t) = sym (and_true (seek_passes seek t))

-- ---- the whole text

-- the literal of a route's guard can be read
pub route_sound : (q : Segments) (c : Collection) (route : Route) → IsRouteOf route q c → IfSome route.guard (λ g. is_sound (literal_view g.literal.now) ≡ true)
route_sound q c route is = of_guard route.guard refl
  where
    of_guard : (o : Option Guarding) → route.guard ≡ o → IfSome o (λ g. is_sound (literal_view g.literal.now) ≡ true)
    of_guard None e = tt
    of_guard (Some g) e = (route_fit q c route g is e).1

seek_length_is : (o : Option (List Step)) → length (steps_or_none o) ≡ seek_length o
seek_length_is None = refl
seek_length_is (Some steps) = refl

module _ (q : Segments) (paths : List (List Step)) (statuses : List LineStatus) where
  pub all_explained : (seek : Option (List Step)) (guard : Option Guard) (rest : Segments) (n t : ℕ) → seek ≡ seek_of paths (leading_steps q) → guard ≡ guard_of paths q → segments_behind (steps_or_none seek) q ≡ Some rest
      → n ≡ length (opened q paths statuses) → t ≡ count_by is_tree statuses
      → (((seek_text seek ++ guard_text guard) ++ scan_text seek guard) ++ segments_text [] (segment_list rest)) ++ told (codes "open " ++ decimal n ++ codes " of " ++ decimal t) ≡ explain q paths statuses
  all_explained seek guard rest n t e f b m k =
      let left : segment_list rest ≡ drop (seek_length seek) (segment_list q) =
      behind_drop (steps_or_none seek) q rest b ∙ ap (λ l. drop l (segment_list q)) (seek_length_is seek) in
      cc
