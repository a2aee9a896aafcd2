-- The text of segments, one after another.
use Rattle.std.proofs.Common.{◌≡◌, ℕ, List, [], ◌∷◌, ◌++◌, length, map, drop, Bool, true, false, Option, Some, None, is_some, is_ok, Result, Ok, Err, OnOk, if◌then◌else◌, sym, ap, ◌∙◌, refl, append-nil, append_assoc, codes, decimal, encode_utf8_all}
use lib.Utf8.{encode}
use Rattle.std.proofs.lemmas.List.{length-map}
use Rattle.std.proofs.lemmas.List.Concat.{flat_map-append}
use Rattle.std.proofs.lemmas.Str.{encodes-append}
use Rattle.jp_model.specs.Meaning.Paths.{step_text, steps_text}
use Rattle.jp_model.specs.Plans.{run_then, segment_text, segments_text, told, walk_text}
use Rattle.jp_model.specs.Query.Singular.{singular_step}
use Rattle.jp_model.specs.Query.Syntax.{Segment, child_segment, descendant_segment, Segments, no_segments, segment, segment_list, Selector, name_selector, wildcard_selector, index_selector, slice_selector, filter_selector, Selectors, no_selectors, selector, selector_list}
use Rattle.jp_model.specs.Rows.{line_feed}
use Rattle.jp_model.specs.Steps.{Step}
use Rattle.jp_syntax.specs.View.{segments_of, selectors_of}
use Rattle.jp_plan.specs.Behind.{is_of_step, segments_behind}
use Rattle.jp_plan.specs.Walks.{name_alone, walk_begins, walk_ends, parts_text}

pub segments_listed : (xs : List Segment) → segment_list (segments_of xs) ≡ xs
segments_listed [] = refl
segments_listed (x ∷ xs) = ap (λ (ys : List Segment). x ∷ ys) (segments_listed xs)

pub selectors_listed : (xs : List Selector) → selector_list (selectors_of xs) ≡ xs
selectors_listed [] = refl
selectors_listed (x ∷ xs) = ap (λ (ys : List Selector). x ∷ ys) (selectors_listed xs)

pub selectors_counted : {A : Type 0} (view : A → Selector) (xs : List A) → length (selector_list (selectors_of (map view xs))) ≡ length xs
selectors_counted view xs = ap length (selectors_listed (map view xs)) ∙ length-map xs view

-- ---- one segment

-- words and a number after them, in a line
pub child_counted : (ss : Selectors) (n : ℕ) → length (selector_list ss) ≡ n → segment_text (child_segment ss) ≡ codes "child " ++ (encode_utf8_all (decimal n) ++ line_feed)
unfolding encode
child_counted ss n e = ap (λ k. told (codes "child " ++ decimal k)) e

descent_alone : (ss : Selectors) → name_alone ss ≡ None → segment_text (descendant_segment ss) ≡ told (codes "descend " ++ decimal (length (selector_list ss)))
descent_alone no_selectors h = refl
descent_alone (selector (name_selector x) no_selectors) h = absurd (cc)
descent_alone (selector (name_selector x) (selector r rs)) h = refl
descent_alone (selector wildcard_selector rs) h = refl
descent_alone (selector (index_selector i) rs) h = refl
descent_alone (selector (slice_selector a b c) rs) h = refl
descent_alone (selector (filter_selector l) rs) h = refl

pub descent_counted : (ss : Selectors) (n : ℕ) → length (selector_list ss) ≡ n → name_alone ss ≡ None → segment_text (descendant_segment ss) ≡ codes "descend " ++ (encode_utf8_all (decimal n) ++ line_feed)
unfolding encode
descent_counted ss n e alone = descent_alone ss alone ∙ ap (λ k. told (codes "descend " ++ decimal k)) e

-- ---- runs

-- one step more of a run
walk_more : (run : List Step) (t : Step) → encode_utf8_all (codes "walk " ++ steps_text (run ++ t ∷ [])) ≡ encode_utf8_all (codes "walk " ++ steps_text run) ++ encode_utf8_all (step_text t)
walk_more run t =
    ap (λ b. encode_utf8_all (codes "walk " ++ b)) (flat_map-append step_text run (t ∷ []))
    ∙ (encodes-append (codes "walk " ++ steps_text run) (steps_text (t ∷ []))
    ∙ ap (λ b. encode_utf8_all (codes "walk " ++ steps_text run) ++ encode_utf8_all b) (append-nil (step_text t)))

-- a run's first step
walk_one : (t : Step) → encode_utf8_all (codes "walk " ++ steps_text (t ∷ [])) ≡ codes "walk " ++ encode_utf8_all (step_text t)
unfolding encode
walk_one t = ap (λ b. codes "walk " ++ encode_utf8_all b) (append-nil (step_text t))

mutual
  -- segments after a run that has begun
  runs_on : (s : Step) (run : List Step) (gs : List Segment) → segments_text (s ∷ run) gs ≡ encode_utf8_all (codes "walk " ++ steps_text (s ∷ run)) ++ parts_text true gs
  runs_on s run [] = refl
  runs_on s run (g ∷ gs) = goes (singular_step g) (λ t. runs_on s (run ++ t ∷ []) gs) (tells gs)
    where
      goes : (o : Option Step) → ((t : Step) → segments_text (s ∷ (run ++ t ∷ [])) gs ≡ encode_utf8_all (codes "walk " ++ steps_text (s ∷ (run ++ t ∷ []))) ++ parts_text true gs) → segments_text [] gs ≡ parts_text false gs
          → run_then o (λ t. segments_text ((s ∷ run) ++ t ∷ []) gs) (walk_text (s ∷ run) ++ segment_text g ++ segments_text [] gs)
          ≡ encode_utf8_all (codes "walk " ++ steps_text (s ∷ run)) ++ (run_then o (λ t. walk_begins true ++ encode_utf8_all (step_text t)) (walk_ends true ++ segment_text g) ++ parts_text (is_some o) gs)
      goes None more ended =
          append_assoc (encode_utf8_all (codes "walk " ++ steps_text (s ∷ run)) ++ line_feed) (segment_text g) (segments_text [] gs)
          ∙ (append_assoc (encode_utf8_all (codes "walk " ++ steps_text (s ∷ run))) line_feed (segment_text g ++ segments_text [] gs)
          ∙ ap (λ b. encode_utf8_all (codes "walk " ++ steps_text (s ∷ run)) ++ (line_feed ++ (segment_text g ++ b))) ended)
      goes (Some t) more ended =
          more t ∙ (ap (λ b. b ++ parts_text true gs) (walk_more (s ∷ run) t)
          ∙ append_assoc (encode_utf8_all (codes "walk " ++ steps_text (s ∷ run))) (encode_utf8_all (step_text t)) (parts_text true gs))

  -- segments after no run
  pub tells : (gs : List Segment) → segments_text [] gs ≡ parts_text false gs
  tells [] = refl
  tells (g ∷ gs) = goes (singular_step g) (λ t. runs_on t [] gs) (tells gs)
    where
      goes : (o : Option Step) → ((t : Step) → segments_text (t ∷ []) gs ≡ encode_utf8_all (codes "walk " ++ steps_text (t ∷ [])) ++ parts_text true gs) → segments_text [] gs ≡ parts_text false gs
          → run_then o (λ t. segments_text (t ∷ []) gs) (segment_text g ++ segments_text [] gs)
          ≡ run_then o (λ t. walk_begins false ++ encode_utf8_all (step_text t)) (walk_ends false ++ segment_text g) ++ parts_text (is_some o) gs
      goes None more ended = ap (λ b. segment_text g ++ b) ended
      goes (Some t) more ended = more t ∙ ap (λ b. b ++ parts_text true gs) (walk_one t)

-- ---- the segments after a seek

-- they are the list after as many segments as there are steps
pub behind_drop : (ss : List Step) (q r : Segments) → segments_behind ss q ≡ Some r → segment_list r ≡ drop (length ss) (segment_list q)
behind_drop [] q r h = let e : q ≡ r = cc in ap segment_list (sym e)
behind_drop (s ∷ ss) no_segments r h = absurd (cc)
behind_drop (s ∷ ss) (segment g gs) r h = pick (is_of_step s (singular_step g)) h (behind_drop ss gs r)
  where
    pick : (b : Bool) → (if b then segments_behind ss gs else None) ≡ Some r → (segments_behind ss gs ≡ Some r → segment_list r ≡ drop (length ss) (segment_list gs)) → segment_list r ≡ drop (length ss) (segment_list gs)
    pick true k again = again k
    pick false k again = absurd (cc)

-- ---- a name that stands alone

pub not_alone : {A : Type 0} (view : A → Selector) (xs : List A) → (length xs ≡ 1 → ⊥) → name_alone (selectors_of (map view xs)) ≡ None
not_alone view [] h = refl
not_alone view (x ∷ []) h = absurd (h refl)
not_alone view (x ∷ y ∷ xs) h = of_first (view x) (selectors_of (map view xs))
  where
    of_first : (s : Selector) (rest : Selectors) → name_alone (selector s (selector (view y) rest)) ≡ None
    of_first (name_selector n) rest = refl
    of_first wildcard_selector rest = refl
    of_first (index_selector i) rest = refl
    of_first (slice_selector a b c) rest = refl
    of_first (filter_selector l) rest = refl

-- ---- lines

-- a line that is ended is after the text, where there was room
pub ends : {A E : Type 0} (r : Result A E) (old mid new text front last : List ℕ) → new ≡ (if is_ok r then mid ++ last else mid) → mid ≡ old ++ front → text ≡ front ++ last → OnOk r (new ≡ old ++ text)
ends (Ok x) old mid new text front last e f t = e ∙ (ap (λ b. b ++ last) f ∙ (append_assoc old front last ∙ ap (λ b. old ++ b) (sym t)))
ends (Err x) old mid new text front last e f t = tt
