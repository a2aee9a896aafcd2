-- Rows around selected ones.
use Rattle.std.proofs.Common.{◌≡◌, ◌∙◌, ◌<◌, ℕ, List, [], ◌∷◌, ◌++◌, append-nil, append_assoc, take-append-drop, drop, flat_map, length, take, refl, sym, ap, subst, arith, inl, inr, IsErr, Bool, true, false, if◌then◌else◌, Option, None, Some}
use Rattle.std.specs.Prelude.{zero, suc, cond, is_some, ◌⊎◌, Result, Ok, Err}
use Rattle.jp_sink.specs.Events.{Event}
use Rattle.jp_sink.specs.Telling.{Takes}
use Rattle.jp_form.specs.declared.form.Form.{Form}
use Rattle.jp_form.specs.declared.form.Shown.{Shown}
use Rattle.jp_form.specs.declared.form.Shown.TheVariants as shown
use Rattle.jp_model.specs.Json.Status.{LineStatus, blank, refused, parsed}
use Rattle.jp_model.specs.Meaning.Nodes.{Node}
use Rattle.jp_grep.specs.Items.{judged}
use Rattle.jp_grep.specs.Matching.{selected_nodes, selected_of, wanted_of, wants_refused}
use Rattle.jp_grep.specs.Rows.{events_around, node_events, refused_events, selected_events, selected_where, told_of_all}
use Rattle.jp_grep.specs.Searching.{IsVerdict, PutsFirst, PutsRows}
use Rattle.jp_grep.specs.Telling.{TakesPart}
use Rattle.jp_grep.specs.declared.fault.SearchFault.{SearchFault}
use Rattle.jp_grep.specs.declared.progress.Verdict.{Verdict}
use Rattle.jp_grep.specs.declared.question.Question.{Question}
use Rattle.jp_grep.proofs.GivenUp.{no_answer}
use Rattle.jp_grep.proofs.Putting.{both_put, ends_put, put_next}
use Rattle.jp_grep.proofs.RowLists.{all_first, first_told, part_of_first}

-- where something is selected, no row stands around
none_around : (s : Shown) (f : Form) (n : ℕ) (line : List ℕ) (count : ℕ) (status : LineStatus) → 0 < count → events_around s f n line count status ≡ []
none_around shown.Around f n line zero status some = absurd (omega (arith, some))
none_around shown.Around f n line (suc count) status some = refl
none_around shown.Nothing f n line count status some = refl
none_around (shown.Line faults) f n line count status some = refl
none_around shown.Nodes f n line count status some = refl
none_around (shown.Values paths) f n line count status some = refl
none_around (shown.Cells table) f n line count status some = refl

-- where other rows are shown, none stands around selected ones
pub other_shown : (s : Shown) (f : Form) (n : ℕ) (line : List ℕ) (count : ℕ) (status : LineStatus) → (s ≡ shown.Around → ⊥) → events_around s f n line count status ≡ []
other_shown shown.Around f n line count status other = absurd (other refl)
other_shown shown.Nothing f n line count status other = refl
other_shown (shown.Line faults) f n line count status other = refl
other_shown shown.Nodes f n line count status other = refl
other_shown (shown.Values paths) f n line count status other = refl
other_shown (shown.Cells table) f n line count status other = refl

module _ (q : Question) (f : Form) (n : ℕ) (line : List ℕ) (most : Option ℕ) where
  if_wanted : (b : Bool) (count : ℕ) (rows : List Event) → count ≡ cond b 1 0 → count ≡ 0 → (if b then rows else []) ≡ []
  if_wanted true count rows is none = absurd (omega (arith, is, none))
  if_wanted false count rows is none = refl

  of_none : (f : Node → List Event) (nodes : List Node) → length nodes ≡ 0 → flat_map f nodes ≡ []
  of_none f [] none = refl
  of_none f (node ∷ nodes) none = absurd (omega (arith, none))

  -- where nothing is selected, nothing has rows
  none_selected : (status : LineStatus) → selected_of q most status ≡ 0 → selected_events q f n line most status ≡ []
  none_selected blank none = refl
  none_selected (refused fault) none = if_wanted (wants_refused q.wanted) (selected_of q most (refused fault)) (refused_events f.shown f n line fault) refl none
  none_selected (parsed t) none = of_none (node_events f.shown q f n line t) (wanted_of most (selected_nodes q t)) none

  none_taken : (count : ℕ) (rows : List Event) → rows ≡ [] → take count rows ≡ []
  none_taken zero rows none = refl
  none_taken (suc count) [] none = refl
  none_taken (suc count) (row ∷ rows) none = absurd (cc)

  module _ (counted status : LineStatus) where
    abbrev all : List Event
    all = selected_events q f n line most counted ++ events_around f.shown f n line (selected_of q most counted) status

    -- where something is selected, the rows are those of what is
    all_selected : 0 < selected_of q most counted → all ≡ selected_events q f n line most counted
    all_selected some =
        ap (λ l. selected_events q f n line most counted ++ l) (none_around f.shown f n line (selected_of q most counted) status some)
        ∙ append-nil (selected_events q f n line most counted)

    -- the rows of what is selected of a line are all that is written of it where something is, or where it is given up
    pub all_written : (given_up : Option ℕ) → (is_some given_up ≡ true) ⊎ (0 < selected_of q most counted)
        → (lost : Option ℕ) × (is_some lost ≡ is_some given_up) × (told_of_all given_up (selected_events q f n line most counted) ≡ told_of_all lost all)
    all_written given_up ends = by_count (selected_of q most counted) given_up refl ends
      where
        by_count : (count : ℕ) (given_up : Option ℕ) → selected_of q most counted ≡ count → (is_some given_up ≡ true) ⊎ (0 < selected_of q most counted)
            → (lost : Option ℕ) × (is_some lost ≡ is_some given_up) × (told_of_all given_up (selected_events q f n line most counted) ≡ told_of_all lost all)
        by_count (suc count) given_up is ends = (given_up, refl, ap (told_of_all given_up) (sym (all_selected (omega (arith, is)))))
        by_count zero (Some written) is ends = (Some 0, refl, none_taken written (selected_events q f n line most counted) (none_selected counted is))
        by_count zero None is (inl lost) = absurd (cc)
        by_count zero None is (inr some) = absurd (omega (arith, is, some))

-- a part of those that are told is one of all, and of more after them
pub part_of_more : {S : Type 0} (stands stopped : S → List Event → Type 0) (a b : S) (given_up : Option ℕ) (events more : List Event)
    → TakesPart stands stopped a b (told_of_all given_up events) → TakesPart stands stopped a b (events ++ more)
part_of_more stands stopped a b None events more part = part_of_first stands stopped a b (events ++ more) events more refl part
part_of_more stands stopped a b (Some count) events more part =
    part_of_first stands stopped a b (events ++ more) (take count events) (drop count events ++ more) (ap (λ l. l ++ more) (sym (take-append-drop count events)) ∙ append_assoc (take count events) (drop count events) more) part

-- ---- a line of which what is selected was put, and the row around selected ones after it
not_lost : (o : Option ℕ) → is_some o ≡ false → o ≡ None
not_lost None e = refl
not_lost (Some k) e = absurd (cc)

module _ (q : Question) (f : Form) (n : ℕ) (line : List ℕ) (most : ℕ) (counted status : LineStatus) where
  abbrev selected : List Event
  selected = selected_events q f n line (Some most) counted

  abbrev whole : List Event
  whole = selected ++ events_around f.shown f n line (selected_of q (Some most) counted) status

  -- something is selected, or it is given up
  ends_with : (v : Verdict) (lost : Bool) → v.selected ≡ selected_where lost q (Some most) counted → (0 < v.selected) ⊎ (v.given_up ≡ true) → v.given_up ≡ lost → (lost ≡ true) ⊎ (0 < selected_of q (Some most) counted)
  ends_with v true is ends given_up = inl refl
  ends_with v false is (inl some) given_up = inr (omega (arith, is, some))
  ends_with v false is (inr lost) given_up = absurd (apart (sym lost ∙ given_up))
    where
      apart : true ≡ false → ⊥
      apart e = cc

  module _ {S : Type 0} (stands stopped : S → List Event → Type 0) (a b : S) where
    pub selected_alone : (v : Verdict) → (0 < v.selected) ⊎ (v.given_up ≡ true) → PutsRows stands stopped q most a b (Ok v) counted selected → PutsRows stands stopped q most a b (Ok v) counted whole
    selected_alone v ends said =
        let lost = all_written q f n line (Some most) counted status said.given_up (ends_with v (is_some said.given_up) said.verdict.selected ends said.verdict.given_up) in
        record {
          given_up = lost.0;
          rows = subst (λ l. Takes stands a b l) lost.2 said.rows;
          verdict = subst (λ (l : Bool). IsVerdict q v most l counted) (sym lost.1) said.verdict;
        }

    pub selected_in_part : (e : SearchFault) (r : Result Verdict SearchFault) → IsErr r → PutsRows stands stopped q most a b (Err e) counted selected → PutsRows stands stopped q most a b r counted whole
    selected_in_part e r failed said = record {
      given_up = None;
      rows = ends_put stands stopped r a b whole failed (part_of_more stands stopped a b said.given_up selected (events_around f.shown f n line (selected_of q (Some most) counted) status) said.rows);
      verdict = no_answer _ r failed;
    }

    -- nothing is selected, and it is not given up
    module _ (v : Verdict) (none : v.selected ≡ 0) (kept : v.given_up ≡ false) (said : PutsRows stands stopped q most a b (Ok v) counted selected) (c : S) where
      lost : said.given_up ≡ None
      lost = not_lost said.given_up (sym said.verdict.given_up ∙ kept)

      count : selected_of q (Some most) counted ≡ 0
      count = sym (said.verdict.selected ∙ ap (λ (o : Option ℕ). selected_where (is_some o) q (Some most) counted) lost) ∙ none

      put_before : Takes stands a b selected
      put_before = subst (λ (o : Option ℕ). Takes stands a b (told_of_all o selected)) lost said.rows

      one_around : events_around f.shown f n line (selected_of q (Some most) counted) status ≡ events_around f.shown f n line 0 status
      one_around = ap (λ (k : ℕ). events_around f.shown f n line k status) count

      pub around_put : PutsFirst stands stopped b c (Ok true) (λ is_whole. is_whole) (events_around f.shown f n line 0 status) → PutsRows stands stopped q most a c (Ok v) counted whole
      around_put put = record {
        given_up = None;
        rows = subst (λ l. Takes stands a c l)
            (ap (λ (l : List Event). selected ++ l) (all_first (events_around f.shown f n line 0 status) put.first put.others put.split (put.all refl) ∙ sym one_around))
            (both_put stands stopped a b c selected put.first put_before put.puts);
        verdict = subst (λ (o : Option ℕ). IsVerdict q v most (is_some o) counted) lost said.verdict;
      }

      apart_so : (first others : List Event) → events_around f.shown f n line 0 status ≡ first ++ others → whole ≡ (selected ++ first) ++ others
      apart_so first others split = ap (λ (l : List Event). selected ++ l) (one_around ∙ split) ∙ sym (append_assoc selected first others)

      pub around_lost : (w : Verdict) → w.selected ≡ 0 → w.refused ≡ false → w.given_up ≡ true → PutsFirst stands stopped b c (Ok false) (λ is_whole. is_whole) (events_around f.shown f n line 0 status)
          → PutsRows stands stopped q most a c (Ok w) counted whole
      around_lost w zero_selected not_refused given_up put = record {
        given_up = Some (length (selected ++ put.first));
        rows = subst (λ l. Takes stands a c l) (sym (first_told whole (selected ++ put.first) put.others (apart_so put.first put.others put.split)))
            (both_put stands stopped a b c selected put.first put_before put.puts);
        verdict = record { selected = zero_selected; refused = not_refused; given_up = given_up };
      }

      pub around_in_part : (e : SearchFault) (r : Result Verdict SearchFault) → IsErr r → PutsFirst stands stopped b c (Err e) (λ (is_whole : Bool). is_whole) (events_around f.shown f n line 0 status)
          → PutsRows stands stopped q most a c r counted whole
      around_in_part e r failed put = record {
        given_up = None;
        rows = ends_put stands stopped r a c whole failed (put_next stands stopped a b c selected put.first put.others whole (apart_so put.first put.others put.split) put_before put.puts);
        verdict = no_answer _ r failed;
      }

-- ---- a line of whose nodes no more are wanted, and one of which some are

pub none_judged : (most : ℕ) (status : LineStatus) → most ≡ 0 → judged (Some most) status ≡ blank
none_judged zero status none = refl
none_judged (suc most) status none = absurd (cc)

pub all_judged : (most : ℕ) (status : LineStatus) → (most ≡ 0 → ⊥) → judged (Some most) status ≡ status
all_judged zero status some = absurd (some refl)
all_judged (suc most) status some = refl
