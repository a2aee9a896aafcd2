-- The rows of refused lines that are written one after another, and how many such lines there are.
use Rattle.std.proofs.Common.{◌≡◌, ◌∙◌, ◌+◌, ◌-◌, ◌<◌, ◌≤◌, ℕ, List, [], ◌∷◌, ◌++◌, length, take, drop, get_or, append-nil, length-drop, sym, ap, ap₂, subst, refl, arith, append_assoc, take-append-drop, decimal, codes}
use Rattle.std.specs.Prelude.{Option, Some, None, count_by, cond, suc, if◌then◌else◌, Bool, true, false}
use Rattle.std.proofs.lemmas.List.{take_more, length-take-le, length-map}
use Rattle.std.proofs.lemmas.List.Sums.{sum_by-cons}
use Rattle.std.proofs.Math.Seq.{take-add}
use Rattle.jp_devices.proofs.Chains.{Part, both_received, part_more, part_behind}
use Rattle.jp_devices.specs.Devices.{Device, Received}
use Rattle.jp_model.specs.declared.Framing.{Framing}
use Rattle.jp_model.specs.Json.Reader.{status_of}
use Rattle.jp_model.specs.Json.Status.{LineStatus, blank, refused, parsed}
use Rattle.jp_model.specs.Plans.{is_tree}
use Rattle.jp_model.specs.Rows.{refusal_text}
use Rattle.jp_model.specs.Script.Machine.{said, check_answer, refusals_from, is_refused_status, is_blank_status}
use Rattle.jp_store.specs.Collections.{Collection, line_status, statuses_in}
use Rattle.jp_model.specs.Numbered.{numbers_where}
use Rattle.jp_index.specs.Numbered.{IsFirstBehind, numbers_behind}
use Rattle.jp_index.proofs.Numbered.{behind_are}
use Rattle.jp_cli.proofs.Statuses.{status_at}

module _ (f : Framing) where
  after_status : (n : ℕ) (s : LineStatus) (a b : List LineStatus) → refusals_from f (n + 1) (a ++ b) ≡ refusals_from f (n + 1) a ++ refusals_from f (n + 1 + length a) b
      → refusals_from f n (s ∷ (a ++ b)) ≡ refusals_from f n (s ∷ a) ++ refusals_from f (n + 1 + length a) b
  after_status n blank a b h = h
  after_status n (parsed t) a b h = h
  after_status n (refused fault) a b h =
      ap (λ t. refusal_text f n fault ++ t) h ∙ sym (append_assoc (refusal_text f n fault) (refusals_from f (n + 1) a) (refusals_from f (n + 1 + length a) b))

  refusals_append : (n : ℕ) (a b : List LineStatus) → refusals_from f n (a ++ b) ≡ refusals_from f n a ++ refusals_from f (n + length a) b
  refusals_append n [] b = let e : n ≡ n + 0 = omega arith in ap (λ m. refusals_from f m b) e
  refusals_append n (s ∷ a) b =
      let e : n + 1 + length a ≡ n + suc (length a) = omega arith in
      after_status n s a b (refusals_append (n + 1) a b) ∙ ap (λ m. refusals_from f n (s ∷ a) ++ refusals_from f m b) e

module _ (f : Framing) (c : Collection) (i : ℕ) (within : i < length c.state.lines) where
  abbrev ss : List LineStatus
  ss = statuses_in c

  size : length ss ≡ length c.state.lines
  size = length-map c.state.lines (status_of c.framing)

  one_more : refusals_from f 1 (take (i + 1) ss) ≡ refusals_from f 1 (take i ss) ++ refusals_from f (i + 1) (line_status (i + 1) c ∷ [])
  one_more =
      let number : 1 + length (take i ss) ≡ i + 1 = omega (arith, length-take-le i ss (omega (arith, size, within))) in
      ap (refusals_from f 1) (take_more ss i blank (omega (arith, size, within)) ∙ ap (λ s. take i ss ++ s ∷ []) (status_at c i blank within))
      ∙ refusals_append f 1 (take i ss) (line_status (i + 1) c ∷ [])
      ∙ ap (λ n. refusals_from f 1 (take i ss) ++ refusals_from f n (line_status (i + 1) c ∷ [])) number

  whole_is : refusals_from f 1 ss ≡ (refusals_from f 1 (take i ss) ++ refusals_from f (i + 1) (line_status (i + 1) c ∷ [])) ++ refusals_from f (1 + length (take (i + 1) ss)) (drop (i + 1) ss)
  whole_is =
      ap (refusals_from f 1) (sym (take-append-drop (i + 1) ss))
      ∙ (refusals_append f 1 (take (i + 1) ss) (drop (i + 1) ss) ∙ ap (λ t. t ++ refusals_from f (1 + length (take (i + 1) ss)) (drop (i + 1) ss)) one_more)

  line_written : {W : Type 0} {contents : W → Option (List ℕ)} (old mid new : Device W) → Received contents old mid (refusals_from f 1 (take i ss)) → Received contents mid new (refusals_from f (i + 1) (line_status (i + 1) c ∷ []))
      → Received contents old new (refusals_from f 1 (take (i + 1) ss))
  line_written {contents = contents} old mid new a b =
      subst (Received contents old new) (sym one_more) (both_received old mid new (refusals_from f 1 (take i ss)) (refusals_from f (i + 1) (line_status (i + 1) c ∷ [])) a b)

  line_in_part : {W : Type 0} {contents : W → Option (List ℕ)} (old mid new : Device W) → Received contents old mid (refusals_from f 1 (take i ss)) → Part contents mid new (refusals_from f (i + 1) (line_status (i + 1) c ∷ []))
      → Part contents old new (refusals_from f 1 ss)
  line_in_part {contents = contents} old mid new a p =
      let here = refusals_from f (i + 1) (line_status (i + 1) c ∷ []) in
      let rest = refusals_from f (1 + length (take (i + 1) ss)) (drop (i + 1) ss) in
      subst (Part contents old new) (sym whole_is) (part_more old new (refusals_from f 1 (take i ss) ++ here) rest (part_behind old mid new (refusals_from f 1 (take i ss)) here a p))

-- ---- from one refused line to the next

module _ (f : Framing) where
  -- up to the first refused line there are no rows
  abbrev FirstIs : ℕ → List LineStatus → ℕ → Type 0
  FirstIs n ss number = (n ≤ number) × (number < n + length ss) × (refusals_from f n (take (number - n) ss) ≡ [])

  later : (n : ℕ) (s : LineStatus) (ss : List LineStatus) (number : ℕ) → ((xs : List LineStatus) → refusals_from f n (s ∷ xs) ≡ refusals_from f (n + 1) xs) → FirstIs (n + 1) ss number → FirstIs n (s ∷ ss) number
  later n s ss number none h =
      let size : number - n ≡ suc (number - (n + 1)) = omega (arith, h.0) in
      (omega (arith, h.0), omega (arith, h.1), ap (λ k. refusals_from f n (take k (s ∷ ss))) size ∙ (none (take (number - (n + 1)) ss) ∙ h.2))

  until_first : (n : ℕ) (ss : List LineStatus) (number : ℕ) (more : List ℕ) → numbers_where is_refused_status n ss ≡ number ∷ more → FirstIs n ss number
  until_first n [] number more e = absurd (cc)
  until_first n (refused fault ∷ ss) number more e =
      let same : n ≡ number = ap (λ (l : List ℕ). get_or l 0 0) e in
      let none : number - n ≡ 0 = omega arith in
      (omega arith, omega arith, ap (λ k. refusals_from f n (take k (refused fault ∷ ss))) none)
  until_first n (blank ∷ ss) number more e = later n blank ss number (λ xs. refl) (until_first (n + 1) ss number more e)
  until_first n (parsed t ∷ ss) number more e = later n (parsed t) ss number (λ xs. refl) (until_first (n + 1) ss number more e)

  none_left : (n : ℕ) (ss : List LineStatus) → numbers_where is_refused_status n ss ≡ [] → refusals_from f n ss ≡ []
  none_left n [] e = refl
  none_left n (refused fault ∷ ss) e = absurd (cc)
  none_left n (blank ∷ ss) e = none_left (n + 1) ss e
  none_left n (parsed t ∷ ss) e = none_left (n + 1) ss e

module _ (f : Framing) (c : Collection) (last : ℕ) (within : last ≤ length c.state.lines) where
  abbrev all_of : List LineStatus
  all_of = statuses_in c

  behind_last : numbers_behind last (numbers_where is_refused_status 1 all_of) ≡ numbers_where is_refused_status (last + 1) (drop last all_of)
  behind_last = behind_are is_refused_status 1 last last all_of (omega arith)

  long : length all_of ≡ length c.state.lines
  long = length-map c.state.lines (status_of c.framing)

  -- the rows of the lines up to one, and those of some after them
  rows_on : (some : List LineStatus) → refusals_from f 1 (take last all_of ++ some) ≡ refusals_from f 1 (take last all_of) ++ refusals_from f (last + 1) some
  rows_on some =
      let number : 1 + length (take last all_of) ≡ last + 1 = omega (arith, length-take-le last all_of (omega (arith, long, within))) in
      refusals_append f 1 (take last all_of) some ∙ ap (λ n. refusals_from f 1 (take last all_of) ++ refusals_from f n some) number

  -- no line after it is refused
  pub all_written : {W : Type 0} {contents : W → Option (List ℕ)} (old new : Device W) → IsFirstBehind last (numbers_where is_refused_status 1 all_of) None
      → Received contents old new (refusals_from f 1 (take last all_of)) → Received contents old new (refusals_from f 1 all_of)
  all_written {contents = contents} old new none =
      subst (Received contents old new)
      (sym (ap (refusals_from f 1) (sym (take-append-drop last all_of)) ∙ (rows_on (drop last all_of) ∙ (ap (λ t. refusals_from f 1 (take last all_of) ++ t) (none_left f (last + 1) (drop last all_of) (sym behind_last ∙ none)) ∙ append-nil (refusals_from f 1 (take last all_of))))))

  module _ (number : ℕ) (next : IsFirstBehind last (numbers_where is_refused_status 1 all_of) (Some number)) where
    first : FirstIs f (last + 1) (drop last all_of) number
    first = until_first f (last + 1) (drop last all_of) number (numbers_behind number (numbers_where is_refused_status 1 all_of)) (sym behind_last ∙ next)

    pub first_within : (last < number) × (number ≤ length c.state.lines)
    first_within = (omega (arith, first.0), omega (arith, first.1, length-drop last all_of, long, within))

    rows_same : refusals_from f 1 (take (number - 1) all_of) ≡ refusals_from f 1 (take last all_of)
    rows_same =
        let split : last + (number - (last + 1)) ≡ number - 1 = omega (arith, first.0) in
        ap (λ k. refusals_from f 1 (take k all_of)) (sym split)
        ∙ (ap (refusals_from f 1) (take-add last (number - (last + 1)) all_of) ∙ (rows_on (take (number - (last + 1)) (drop last all_of)) ∙ (ap (λ t. refusals_from f 1 (take last all_of) ++ t) first.2 ∙ append-nil (refusals_from f 1 (take last all_of)))))

    number_is : number - 1 + 1 ≡ number
    number_is = omega (arith, first.0)

    before : number - 1 < length c.state.lines
    before = omega (arith, first.0, first_within.1)

    pub refusal_written : {W : Type 0} {contents : W → Option (List ℕ)} (old mid new : Device W) → Received contents old mid (refusals_from f 1 (take last all_of)) → Received contents mid new (refusals_from f number (line_status number c ∷ []))
        → Received contents old new (refusals_from f 1 (take number all_of))
    refusal_written {contents = contents} old mid new a b =
        subst (λ k. Received contents old new (refusals_from f 1 (take k all_of))) number_is
        (line_written f c (number - 1) before old mid new (subst (Received contents old mid) (sym rows_same) a) (subst (λ k. Received contents mid new (refusals_from f k (line_status k c ∷ []))) (sym number_is) b))

    pub refusal_in_part : {W : Type 0} {contents : W → Option (List ℕ)} (old mid new : Device W) → Received contents old mid (refusals_from f 1 (take last all_of)) → Part contents mid new (refusals_from f number (line_status number c ∷ []))
        → Part contents old new (refusals_from f 1 all_of)
    refusal_in_part {contents = contents} old mid new a p =
        line_in_part f c (number - 1) before old mid new (subst (Received contents old mid) (sym rows_same) a) (subst (λ k. Part contents mid new (refusals_from f k (line_status k c ∷ []))) (sym number_is) p)

-- each line is blank, refused, or has a tree
each_is_one : (s : LineStatus) → cond (is_blank_status s) 1 0 + cond (is_refused_status s) 1 0 + cond (is_tree s) 1 0 ≡ 1
each_is_one blank = refl
each_is_one (refused fault) = refl
each_is_one (parsed t) = refl

all_are_one : (ss : List LineStatus) → count_by is_blank_status ss + count_by is_refused_status ss + count_by is_tree ss ≡ length ss
all_are_one [] = refl
all_are_one (s ∷ ss) =
    omega (
      arith,
      each_is_one s,
      all_are_one ss,
      sum_by-cons (λ r. cond (is_blank_status r) 1 0) s ss,
      sum_by-cons (λ r. cond (is_refused_status r) 1 0) s ss,
      sum_by-cons (λ r. cond (is_tree r) 1 0) s ss,
    )

length_if : (b : Bool) (n : ℕ) (ns : List ℕ) → length (if b then n ∷ ns else ns) ≡ cond b 1 0 + length ns
length_if true n ns = omega arith
length_if false n ns = omega arith

length-lines : (n : ℕ) (ss : List LineStatus) → length (numbers_where is_refused_status n ss) ≡ count_by is_refused_status ss
length-lines n [] = refl
length-lines n (s ∷ ss) =
    length_if (is_refused_status s) n (numbers_where is_refused_status (n + 1) ss) ∙ ap (λ k. cond (is_refused_status s) 1 0 + k) (length-lines (n + 1) ss)
    ∙ sym (sum_by-cons (λ r. cond (is_refused_status r) 1 0) s ss)

-- the counts that are told
module _ (c : Collection) (lines trees refusals : ℕ) (l : lines ≡ length c.state.lines) (t : trees ≡ count_by is_tree (statuses_in c)) (r : refusals ≡ length (numbers_where is_refused_status 1 (statuses_in c))) where
  all : count_by is_blank_status (statuses_in c) + refusals + trees ≡ lines
  all = omega (arith, l, t, r, length-lines 1 (statuses_in c), all_are_one (statuses_in c), length-map c.state.lines (status_of c.framing))

  pub refusals_fit : refusals ≤ lines - trees
  refusals_fit = omega (arith, all)

  -- the rows and the summary are what `check` answers
  pub check_text : (f : Framing) → f ≡ c.framing
      → refusals_from f 1 (statuses_in c) ++ said (codes "= " ++ decimal lines ++ codes " lines, " ++ decimal refusals ++ codes " refused, " ++ decimal (lines - trees - refusals) ++ codes " blank") ≡ check_answer f c.state
  check_text f same =
      let ss = statuses_in c in
      let line_count : lines ≡ length ss = l ∙ sym (length-map c.state.lines (status_of c.framing)) in
      let refused_count : refusals ≡ count_by is_refused_status ss = r ∙ length-lines 1 ss in
      let blank_count : lines - trees - refusals ≡ count_by is_blank_status ss = omega (arith, all) in
      subst
      (λ g. refusals_from g 1 ss ++ said (codes "= " ++ decimal lines ++ codes " lines, " ++ decimal refusals ++ codes " refused, " ++ decimal (lines - trees - refusals) ++ codes " blank") ≡ check_answer g c.state)
      (sym same)
      (ap (λ t. refusals_from c.framing 1 ss ++ t) (
      ap₂ (λ (x y : ℕ). said (codes "= " ++ decimal x ++ codes " lines, " ++ decimal y ++ codes " refused, " ++ decimal (lines - trees - refusals) ++ codes " blank")) line_count refused_count
      ∙ ap (λ z. said (codes "= " ++ decimal (length ss) ++ codes " lines, " ++ decimal (count_by is_refused_status ss) ++ codes " refused, " ++ decimal z ++ codes " blank")) blank_count
      ))
