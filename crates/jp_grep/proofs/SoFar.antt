-- What is answered of a stream so far, and what a step makes of it.
use Rattle.std.proofs.Common.{◌≡◌, ◌∙◌, ◌+◌, ◌-◌, ◌<◌, ◌≤◌, ◌^◌, ℕ, List, [], ◌∷◌, ◌++◌, length, refl, sym, ap, ap₂, subst, append-nil, length-append, arith, Bool, true, false, ◌||◌, ◌&&◌, eqb, ltb, Option, None, Some, Result, Ok, Err, inl, inr}
use Rattle.std.specs.Prelude.{IsErrAnd, is_none, MatchOption, MatchResult, cond, sum_by, not, ◌⊎◌}
use Rattle.std.proofs.lemmas.List.Sums.{sum_by-append}
use Rattle.std.proofs.lemmas.Bool.{eq-eqb, eqb-true, false≢true, lt-ltb, ne_eqb}
use Rattle.jp_devices.specs.Devices.{Came, Device, HasEnded, Received, has_no_room, one_more_where}
use Rattle.jp_sink.specs.Events.{Event, gap_event}
use Rattle.jp_sink.specs.Telling.{Takes}
use Rattle.jp_devices.proofs.Devices.{CameToEnd, came_so, was_ended}
use Rattle.jp_devices.proofs.Chains.{Part, both_received, part_behind, part_more}
use Rattle.jp_grep.specs.Faults.{is_front_fault, is_inner_fault, is_read_fault, is_report_fault, is_writer_fault}
use Rattle.jp_model.specs.Lines.{is_framed}
use Rattle.jp_grep.specs.Formats.{format_of}
use Rattle.jp_grep.specs.Fronts.{IsOfLines, IsRefused}
use Rattle.jp_grep.specs.Inputs.{WantsMore}
use Rattle.jp_grep.specs.Items.{Item, framing_by, is_given_up, is_unjudged, items_come, unjudged_count}
use Rattle.jp_grep.specs.Outcomes.{CameOfEach, CameOfStream, given_up_count}
use Rattle.jp_grep.specs.Rows.{events_from, messages_from, refused_count, refused_item, selected_count, selected_in, stream_events, summary_of}
use Rattle.jp_grep.specs.Searching.{Answers, GoesOnBy, HasAnswered, answered_after}
use Rattle.jp_grep.specs.Sizes.{IsOversize, held_in}
use Rattle.jp_grep.specs.Stands.{Stands}
use Rattle.jp_grep.specs.Telling.{TakesPart}
use Rattle.jp_grep.specs.Told.{more_refused}
use Rattle.jp_grep.specs.Watching.{Answered, AnsweredInPart, AnsweredToEnd, AreCounts, EndsWith, IsEnough, IsShort, SearchStopped, SearchedLines, TakesSome, answered_of, is_whole, up_to}
use Rattle.jp_grep.specs.declared.fault.SearchFault.{SearchFault}
use Rattle.jp_grep.specs.declared.fault.SearchFault.TheVariants as faults
use Rattle.jp_grep.specs.declared.found.Found.{Found}
use Rattle.jp_grep.specs.declared.found.Limit.{Limit}
use Rattle.jp_grep.specs.declared.found.Limit.TheVariants as limits
use Rattle.jp_grep.specs.declared.found.Unread.{Unread}
use Rattle.jp_form.specs.declared.form.Form.{Form}
use Rattle.jp_grep.specs.declared.progress.Counts.{Counts}
use Rattle.jp_grep.specs.declared.progress.Progress.{Progress}
use Rattle.jp_grep.specs.declared.question.Question.{Question}
use Rattle.jp_grep.specs.declared.source.Source.{Source}
use Rattle.jp_grep.proofs.Coming.{came_length, came_next, none_came}
use Rattle.jp_grep.proofs.Counted.{few_up_to, events-append, messages-append, none_up_to, up_to-append}
use Rattle.jp_grep.proofs.Parts.{in_one}
use Rattle.jp_grep.proofs.Putting.{both_put, part_put, part_put_more, put_so_far}
use Rattle.jp_grep.proofs.Standing.{come_now, goes_as}
use Rattle.jp_grep.proofs.Written.{none_received, part_so_far}

-- an error that is handed on
pub handed : {A E : Type 0} (P : A → Type 0) (Q : E → Type 0) (r : Result A E) (e : E) → IsErrAnd r (λ y. y ≡ e) → Q e → MatchResult r P Q
handed P Q (Ok x) e h q = absurd h
handed P Q (Err y) e h q = subst Q (sym h) q

-- a read into some room that gave nothing came to the end
pub came_to_end : {R : Type 0} (remaining : R → Option (List ℕ)) (s0 s1 s2 : Device R) (count : ℕ) (room : List ℕ) → s0.failed ≡ false → s1.ended ≡ s0.ended → s2.ended ≡ (s1.ended || (eqb count 0 && ltb 0 (length room)))
    → (count ≡ 0 → 0 < length room → HasEnded remaining s2) → count ≡ 0 → 0 < length room → CameToEnd remaining s0 s2
came_to_end remaining s0 s1 s2 count room worked same ended left none some =
    was_ended remaining s0 s2 worked
    (ended ∙ ap₂ (λ (a b : Bool). a || b) same (ap₂ (λ (a b : Bool). a && b) (eq-eqb count 0 none) (lt-ltb 0 (length room) some)))
    (left none some)

-- a message that was not written is told in place of a failed read
pub told_first : (input messages : Bool) (fault : SearchFault) → messages ≡ is_report_fault fault → is_report_fault fault ≡ true → (input && not messages) ≡ is_read_fault fault
told_first input messages faults.Read e report = absurd (cc)
told_first input messages faults.Framing e report = absurd (cc)
told_first input messages (faults.Foreign format) e report = absurd (cc)
told_first input messages faults.Size e report = absurd (cc)
told_first input messages faults.Write e report = absurd (cc)
told_first input messages faults.Memory e report = absurd (cc)
told_first input messages faults.Report e report = ap (λ b. input && not b) e ∙ neither input
  where
    neither : (b : Bool) → (b && false) ≡ false
    neither true = refl
    neither false = refl

-- one that gave something goes on
pub goes_further : (s1 s2 : Bool) (count : ℕ) (room : List ℕ) → s2 ≡ (s1 || (eqb count 0 && ltb 0 (length room))) → (count ≡ 0 → ⊥) → s1 ≡ false → s2 ≡ false
goes_further s1 s2 count room e some going = e ∙ ap₂ (λ (a b : Bool). a || b) going (ap (λ b. b && ltb 0 (length room)) (ne_eqb count 0 some))

-- a call that was not made in vain
pub kept_after : (failed ended : Bool) (room : List ℕ) (old new : ℕ) → new ≡ one_more_where ((failed || ended) || has_no_room room) old → failed ≡ false → ended ≡ false → 0 < length room → new ≡ old
kept_after failed ended room old new e f g some =
    e ∙ ap (λ b. one_more_where b old) (ap₂ (λ (a b : Bool). a || b) (ap₂ (λ (a b : Bool). a || b) f g) (ap not (lt-ltb 0 (length room) some)))

zero_first : (n : ℕ) → 0 + n ≡ n
zero_first n = omega arith

module _ (question : Question) (form : Form) where
  none_taken : (selected : ℕ) → answered_of question form selected [] ≡ []
  none_taken selected = none_up_to question (form.most - selected) form.trailing

  counts_as : (outcomes : List Item) (found : Found) (counts : Counts) → found.counts ≡ counts → AreCounts question counts (answered_of question form 0 outcomes) → AreCounts question found.counts (answered_of question form 0 outcomes)
  counts_as outcomes found counts e h = subst (λ (n : Counts). AreCounts question n (answered_of question form 0 outcomes)) (sym e) h

  module _ (came : Came) (outcomes : List Item) (found : Found) where
    ends_so : Option Unread → Type 0
    ends_so unread = MatchOption unread
        ((format_of came.bytes ≡ None) × CameOfEach (items_come form.units came.ended came.bytes) outcomes × ((came.ended ≡ true) ⊎ IsEnough form found.counts.selected (unjudged_count (answered_of question form 0 outcomes))))
        (λ there. (there.line ≡ 1 + length (answered_of question form 0 outcomes)) × (there.limit ≡ limits.Size → IsOversize form.units came outcomes))

    ends_whole : found.unread ≡ None → (format_of came.bytes ≡ None) × CameOfEach (items_come form.units came.ended came.bytes) outcomes × ((came.ended ≡ true) ⊎ IsEnough form found.counts.selected (unjudged_count (answered_of question form 0 outcomes)))
        → EndsWith question form came outcomes found
    unfolding ends_so
    ends_whole e h = subst ends_so (sym e) h

    ends_short : (there : Unread) → found.unread ≡ Some there → there.line ≡ 1 + length (answered_of question form 0 outcomes) → (there.limit ≡ limits.Size → IsOversize form.units came outcomes)
        → EndsWith question form came outcomes found
    unfolding ends_so
    ends_short there e h oversize = subst ends_so (sym e) (h, oversize)

  -- where all were answered the outcomes are those of all that came, and the stream has ended, or as many were selected as are wanted
  whole_ends : (came : Came) (outcomes : List Item) (found : Found) → is_whole found ≡ true → EndsWith question form came outcomes found
      → CameOfEach (items_come form.units came.ended came.bytes) outcomes × ((came.ended ≡ true) ⊎ IsEnough form found.counts.selected (unjudged_count (answered_of question form 0 outcomes)))
  whole_ends came outcomes found whole ends = let all = first found.unread _ _ (eqb found.counts.given_up 0) whole ends in (all.1, all.2)
    where
      first : {A : Type 0} (o : Option A) (P : Type 0) (Q : A → Type 0) (b : Bool) → (is_none o && b) ≡ true → MatchOption o P Q → P
      first None P Q b e h = h
      first (Some x) P Q b e h = absurd (false≢true e)

  pub whole_came : (came : Came) (outcomes : List Item) (found : Found) → is_whole found ≡ true → EndsWith question form came outcomes found → CameOfEach (items_come form.units came.ended came.bytes) outcomes
  whole_came came outcomes found whole ends = (whole_ends came outcomes found whole ends).0

  pub whole_end : (came : Came) (outcomes : List Item) (found : Found) → is_whole found ≡ true → EndsWith question form came outcomes found
      → (came.ended ≡ true) ⊎ IsEnough form found.counts.selected (unjudged_count (answered_of question form 0 outcomes))
  whole_end came outcomes found whole ends = (whole_ends came outcomes found whole ends).1

  pub whole_kept : (found : Found) → is_whole found ≡ true → found.counts.given_up ≡ 0
  whole_kept found whole = none_of found.unread found.counts.given_up whole
    where
      none_of : {A : Type 0} (o : Option A) (n : ℕ) → (is_none o && eqb n 0) ≡ true → n ≡ 0
      none_of None n e = eqb-true n 0 e
      none_of (Some x) n e = absurd (false≢true e)

  -- of more lines as many are taken as are wanted after the others
  taken_more : (before more : List Item) (progress : Progress) → progress.counts.selected ≡ selected_count question (answered_of question form 0 before)
      → progress.trailed ≡ unjudged_count (answered_of question form 0 before)
      → answered_of question form 0 (before ++ more) ≡ answered_of question form 0 before ++ answered_after question form progress more
  taken_more before more progress selected trailed =
      up_to-append question (form.most - 0) form.trailing before more
      ∙ ap₂ (λ (m n : ℕ). answered_of question form 0 before ++ up_to question m n more) (left form.most progress.counts.selected (selected_count question (answered_of question form 0 before)) selected) (ap (λ (n : ℕ). form.trailing - n) (sym trailed))
    where
      left : (most selected count : ℕ) → selected ≡ count → (most - 0) - count ≡ most - selected
      left most selected count e = omega (arith, e)

  module _ (before more : List Item) (progress : Progress) (number_is : progress.number ≡ 1 + length (answered_of question form 0 before)) (counts_are : AreCounts question progress.counts (answered_of question form 0 before)) (trailed_is : progress.trailed ≡ unjudged_count (answered_of question form 0 before)) where
    sum : answered_of question form 0 (before ++ more) ≡ answered_of question form 0 before ++ answered_after question form progress more
    sum = taken_more before more progress counts_are.selected trailed_is

    pub rows_sum : stream_events question form (answered_of question form 0 (before ++ more))
        ≡ stream_events question form (answered_of question form 0 before) ++ events_from question form progress.number (answered_after question form progress more)
    rows_sum = ap (λ l. gap_event ∷ l)
        (ap (events_from question form 1) sum
        ∙ events-append question form 1 (answered_of question form 0 before) (answered_after question form progress more)
        ∙ ap (λ k. events_from question form 1 (answered_of question form 0 before) ++ events_from question form k (answered_after question form progress more)) (sym number_is))

    pub messages_sum : messages_from form 0 1 (answered_of question form 0 (before ++ more))
        ≡ messages_from form 0 1 (answered_of question form 0 before) ++ messages_from form progress.counts.refused progress.number (answered_after question form progress more)
    messages_sum =
        ap (messages_from form 0 1) sum
        ∙ messages-append question form 0 1 (answered_of question form 0 before) (answered_after question form progress more)
        ∙ ap₂ (λ j k. messages_from form 0 1 (answered_of question form 0 before) ++ messages_from form j k (answered_after question form progress more)) (zero_first _ ∙ sym counts_are.refused) (sym number_is)

    pub number_sum : (after : Progress) → GoesOnBy question form progress after (answered_after question form progress more) → after.number ≡ 1 + length (answered_of question form 0 (before ++ more))
    number_sum after by = by.number ∙ ap (λ k. k + length (answered_after question form progress more)) number_is
        ∙ lengths (length (answered_of question form 0 before)) (length (answered_after question form progress more)) (length (answered_of question form 0 (before ++ more)))
        (ap length sum ∙ length-append (answered_of question form 0 before) (answered_after question form progress more))
      where
        lengths : (a b c : ℕ) → c ≡ a + b → (1 + a) + b ≡ 1 + c
        lengths a b c e = omega (arith, e)

    count_sum : (of : Item → ℕ) (was is : ℕ) → was ≡ sum_by of (answered_of question form 0 before) → is ≡ was + sum_by of (answered_after question form progress more)
        → is ≡ sum_by of (answered_of question form 0 (before ++ more))
    count_sum of was is e f = f ∙ ap (λ k. k + sum_by of (answered_after question form progress more)) e
        ∙ sym (ap (sum_by of) sum ∙ sum_by-append of (answered_of question form 0 before) (answered_after question form progress more))

    pub counts_sum : (after : Progress) → GoesOnBy question form progress after (answered_after question form progress more) → AreCounts question after.counts (answered_of question form 0 (before ++ more))
    counts_sum after by = record {
      selected = count_sum (selected_in question) progress.counts.selected after.counts.selected counts_are.selected by.selected;
      refused = count_sum (λ item. cond (refused_item item) 1 0) progress.counts.refused after.counts.refused counts_are.refused by.refused;
      given_up = count_sum (λ item. cond (is_given_up item) 1 0) progress.counts.given_up after.counts.given_up counts_are.given_up by.given_up;
    }

    pub trailed_sum : (after : Progress) → GoesOnBy question form progress after (answered_after question form progress more) → after.trailed ≡ unjudged_count (answered_of question form 0 (before ++ more))
    trailed_sum after by = count_sum (λ item. cond (is_unjudged item.most) 1 0) progress.trailed after.trailed trailed_is by.trailed

  module _ {S E : Type 0} (stands stopped : S → List Event → Type 0) (messages_in : E → Option (List ℕ)) where
    abbrev pub SoFar : Source → Progress → S → S → Device E → Device E → List ℕ → List Item → List Item → Type 0
    SoFar source progress sink0 sink1 told0 told1 came lines outcomes = HasAnswered stands stopped messages_in question form source progress sink0 sink1 told0 told1 came lines outcomes

    -- a part of what is told of items is one of it and of what stands after it
    pub to_end : (sink0 sink1 : S) (items : List Item) → TakesPart stands stopped sink0 sink1 (stream_events question form items) → TakesSome stands stopped messages_in question form sink0 sink1 items
    to_end sink0 sink1 items part =
        let text = summary_of form.summary form (selected_count question items) true in
        let parts = in_one text in
        (true, parts.0, parts.1, part_put_more stands stopped sink0 sink1 (stream_events question form items) parts.0 part)

    -- at the front
    pub at_start : (source : Source) (progress : Progress) (sink0 sink1 : S) (told : Device E) → Stands form.units [] source [] → Takes stands sink0 sink1 (gap_event ∷ [])
        → progress.number ≡ 1 → progress.counts.selected ≡ 0 → progress.counts.refused ≡ 0 → progress.counts.given_up ≡ 0 → progress.trailed ≡ 0 → SoFar source progress sink0 sink1 told told [] [] []
    at_start source progress sink0 sink1 told position begun number selected refused given_up trailed = record {
      position = position;
      each = tt;
      rows = subst (λ ls. Takes stands sink0 sink1 (stream_events question form ls)) (sym (none_taken 0)) begun;
      messages = subst (λ ls. Received messages_in told told (messages_from form 0 1 ls)) (sym (none_taken 0)) (none_received told);
      number = number ∙ ap (λ (ls : List Item). 1 + length ls) (sym (none_taken 0));
      counts = record {
        selected = selected ∙ ap (selected_count question) (sym (none_taken 0));
        refused = refused ∙ ap refused_count (sym (none_taken 0));
        given_up = given_up ∙ ap given_up_count (sym (none_taken 0));
      };
      trailed = trailed ∙ ap unjudged_count (sym (none_taken 0));
      under_way = record {
        wanted = omega (arith, selected);
        passed = omega (arith, trailed);
        fewer_refused = omega (arith, refused, number);
        fewer_given_up = omega (arith, given_up, number);
      };
    }

    -- both are flushed
    pub flushed : (source : Source) (progress : Progress) (sink0 sink1 sink2 : S) (told0 told1 told2 : Device E) (came : List ℕ) (lines outcomes : List Item) → SoFar source progress sink0 sink1 told0 told1 came lines outcomes
        → Takes stands sink1 sink2 [] → Received messages_in told1 told2 [] → SoFar source progress sink0 sink2 told0 told2 came lines outcomes
    flushed source progress sink0 sink1 sink2 told0 told1 told2 came lines outcomes so rows messages = record {
      position = so.position;
      each = so.each;
      rows = subst (λ t. Takes stands sink0 sink2 t) (append-nil (stream_events question form (answered_of question form 0 outcomes))) (both_put stands stopped sink0 sink1 sink2 _ [] so.rows rows);
      messages = subst (λ t. Received messages_in told0 told2 t) (append-nil (messages_from form 0 1 (answered_of question form 0 outcomes))) (both_received told0 told1 told2 _ [] so.messages messages);
      number = so.number;
      counts = so.counts;
      trailed = so.trailed;
      under_way = so.under_way;
    }

    module _ (source : Source) (progress : Progress) (sink0 sink1 : S) (told0 told1 : Device E) (came : List ℕ) (lines outcomes : List Item) (so : SoFar source progress sink0 sink1 told0 told1 came lines outcomes) where
      -- the lines that came are those that are answered
      pub come : items_come form.units false came ≡ lines
      come = come_now form.units came source lines so.position

      pub all_came : CameOfEach (items_come form.units false came) outcomes
      all_came = subst (λ ls. CameOfEach ls outcomes) (sym come) so.each

      pub came_so_far : (failed : Bool) → CameOfStream form (came_so came false failed) outcomes
      came_so_far failed = record { items = lines; others = []; split = come ∙ sym (append-nil lines); each = so.each }

      pub all_so_far : Answered stands stopped messages_in question form sink0 sink1 told0 told1 (answered_of question form 0 outcomes)
      all_so_far = record { rows = so.rows; messages = so.messages }

      -- as many as are wanted were selected
      pub enough_selected : (failed : Bool) (found : Found) → IsEnough form progress.counts.selected progress.trailed → found.counts ≡ progress.counts → found.unread ≡ None
          → SearchedLines stands stopped messages_in question form sink0 sink1 told0 told1 (came_so came false failed) outcomes found
      enough_selected failed found enough counts unread = record {
        framed = λ ended. absurd (false≢true ended);
        all = all_so_far;
        counts = counts_as outcomes found progress.counts counts so.counts;
        end = ends_whole (came_so came false failed) outcomes found unread ((goes_as form.units came source lines so.position).format, all_came, inr (ap (λ (n : Counts). n.selected) counts ∙ enough.0, sym so.trailed ∙ enough.1));
      }

      -- the rest is passed over
      pub passed_over : (now : Came) (found : Found) (limit : Limit) → (now.ended ≡ true → IsOfLines (framing_by form.units) now.bytes) → (limit ≡ limits.Size → IsOversize form.units now outcomes) → found.counts ≡ progress.counts → found.unread ≡ Some (record { limit = limit; line = progress.number })
          → SearchedLines stands stopped messages_in question form sink0 sink1 told0 told1 now outcomes found
      passed_over now found limit framed oversize counts unread = record {
        framed = framed;
        all = all_so_far;
        counts = counts_as outcomes found progress.counts counts so.counts;
        end = ends_short now outcomes found (record { limit = limit; line = progress.number }) unread so.number oversize;
      }

      -- with the last bytes that came too much is held, or there are more items than 64 bits count
      pub oversize : (now : Came) (last : List ℕ) (items others : List Item) → now.bytes ≡ came ++ last → items_come form.units now.ended now.bytes ≡ (lines ++ items) ++ others
          → (2 ^ 32 ≤ held_in source + length last) ⊎ (2 ^ 64 ≤ progress.number + length items) → IsOversize form.units now outcomes
      oversize now last items others bytes split (inl many) =
          inl (record { before = came; last = last; bytes = bytes; items = lines; each = so.each; source = source; stands = so.position; many = many })
      oversize now last items others bytes split (inr many) =
          inr (inl (as_many progress.number (length (answered_of question form 0 outcomes)) (length outcomes) (length lines) (length items) (length others) (length (items_come form.units now.ended now.bytes))
          so.number (few_up_to question (form.most - 0) form.trailing outcomes) (came_length lines outcomes so.each)
          (ap length split ∙ length-append (lines ++ items) others ∙ ap (λ n. n + length others) (length-append lines items)) many))
        where
          as_many : (number answered all first more rest come : ℕ) → number ≡ 1 + answered → answered ≤ all → first ≡ all → come ≡ (first + more) + rest → 2 ^ 64 ≤ number + more → 2 ^ 64 ≤ 1 + come
          as_many number answered all first more rest come is fewer same sum many = omega (arith, is, fewer, same, sum, many)

      -- fewer lines are selected than are wanted of what came, or fewer are passed after them than are to be
      pub wants_more : IsShort form progress.counts.selected progress.trailed → WantsMore question form came outcomes
      wants_more short = record {
        front = goes_as form.units came source lines so.position;
        each = all_came;
        fewer = subst (λ (n : ℕ). IsShort form n (unjudged_count (answered_of question form 0 outcomes))) so.counts.selected (subst (λ (n : ℕ). IsShort form progress.counts.selected n) so.trailed short);
      }

      -- a part of the answer of these lines, and of others after them
      pub in_part : (sink2 : S) (told2 : Device E) (more : List Item)
          → TakesPart stands stopped sink1 sink2 (events_from question form progress.number (answered_after question form progress more))
          → Part messages_in told1 told2 (messages_from form progress.counts.refused progress.number (answered_after question form progress more))
          → AnsweredInPart stands stopped messages_in question form sink0 sink2 told0 told2 (answered_of question form 0 (outcomes ++ more))
      in_part sink2 told2 more rows messages =
          let all = answered_of question form 0 (outcomes ++ more) in
          record {
            rows = to_end sink0 sink2 all (subst (λ t. TakesPart stands stopped sink0 sink2 t) (sym (rows_sum outcomes more progress so.number so.counts so.trailed)) (part_put stands stopped sink0 sink1 sink2 _ _ so.rows rows));
            messages = part_more told0 told2 (messages_from form 0 1 all) (more_refused form (refused_count all))
                (subst (λ t. Part messages_in told0 told2 t) (sym (messages_sum outcomes more progress so.number so.counts so.trailed)) (part_behind told0 told1 told2 _ _ so.messages messages));
          }

      -- they were not handed on
      pub flush_failed : (sink2 : S) (told2 : Device E) → TakesPart stands stopped sink1 sink2 [] → Received messages_in told1 told2 [] → AnsweredInPart stands stopped messages_in question form sink0 sink2 told0 told2 (answered_of question form 0 outcomes)
      flush_failed sink2 told2 rows messages =
          let all = answered_of question form 0 outcomes in
          record {
            rows = to_end sink0 sink2 all (subst (λ t. TakesPart stands stopped sink0 sink2 t) (append-nil (stream_events question form all)) (part_put stands stopped sink0 sink1 sink2 _ [] so.rows rows));
            messages = part_more told0 told2 (messages_from form 0 1 all) (more_refused form (refused_count all))
                (part_so_far told0 told2 _ (subst (λ t. Received messages_in told0 told2 t) (append-nil (messages_from form 0 1 all)) (both_received told0 told1 told2 _ [] so.messages messages)));
          }

      -- nothing at all was told
      pub none_so_far : (sink2 : S) (told2 : Device E) → lines ≡ [] → sink2 ≡ sink1 → told2 ≡ told1 → Answered stands stopped messages_in question form sink0 sink2 told0 told2 []
      none_so_far sink2 told2 none same told =
          let is = ap (answered_of question form 0) (none_came outcomes (subst (λ ls. CameOfEach ls outcomes) none so.each)) ∙ none_taken 0 in
          record {
            rows = subst (λ (o : S). Takes stands sink0 o (stream_events question form [])) (sym same) (subst (λ ls. Takes stands sink0 sink1 (stream_events question form ls)) is so.rows);
            messages = subst (λ (o : Device E). Received messages_in told0 o []) (sym told) (subst (λ ls. Received messages_in told0 told1 (messages_from form 0 1 ls)) is so.messages);
          }

      module _ (after : Progress) (sink2 : S) (told2 : Device E) (x : Unit {0}) (more : List Item) (answers : Answers stands stopped messages_in question form progress after sink1 sink2 told1 told2 (Ok x) more) where
        both_rows : Takes stands sink0 sink2 (stream_events question form (answered_of question form 0 (outcomes ++ answers.outcomes)))
        both_rows = subst (λ t. Takes stands sink0 sink2 t) (sym (rows_sum outcomes answers.outcomes progress so.number so.counts so.trailed)) (both_put stands stopped sink0 sink1 sink2 _ _ so.rows answers.rows)

        both_messages : Received messages_in told0 told2 (messages_from form 0 1 (answered_of question form 0 (outcomes ++ answers.outcomes)))
        both_messages = subst (λ t. Received messages_in told0 told2 t) (sym (messages_sum outcomes answers.outcomes progress so.number so.counts so.trailed)) (both_received told0 told1 told2 _ _ so.messages answers.messages)

        both_each : CameOfEach (lines ++ more) (outcomes ++ answers.outcomes)
        both_each = came_next lines outcomes more answers.outcomes so.each answers.each

        -- these were answered, too
        pub goes_on_by : (source1 : Source) (piece : List ℕ) → Stands form.units (came ++ piece) source1 (lines ++ more)
            → SoFar source1 after sink0 sink2 told0 told2 (came ++ piece) (lines ++ more) (outcomes ++ answers.outcomes)
        goes_on_by source1 piece position = record {
          position = position;
          each = both_each;
          rows = both_rows;
          messages = both_messages;
          number = number_sum outcomes answers.outcomes progress so.number so.counts so.trailed after answers.progress;
          counts = counts_sum outcomes answers.outcomes progress so.number so.counts so.trailed after answers.progress;
          trailed = trailed_sum outcomes answers.outcomes progress so.number so.counts so.trailed after answers.progress;
          under_way = answers.progress.under_way;
        }

        -- the stream ended, and what its end leaves is answered
        pub searched_all : (failed : Bool) (found : Found) → items_come form.units true came ≡ lines ++ more → IsOfLines (framing_by form.units) came → found.counts ≡ after.counts → found.unread ≡ None
            → SearchedLines stands stopped messages_in question form sink0 sink2 told0 told2 (came_so came true failed) (outcomes ++ answers.outcomes) found
        searched_all failed found all framed counts unread = record {
          framed = λ ended. framed;
          all = record { rows = both_rows; messages = both_messages };
          counts = counts_as (outcomes ++ answers.outcomes) found after.counts counts (counts_sum outcomes answers.outcomes progress so.number so.counts so.trailed after answers.progress);
          end = ends_whole (came_so came true failed) (outcomes ++ answers.outcomes) found unread (framed.format, subst (λ ls. CameOfEach ls (outcomes ++ answers.outcomes)) (sym all) both_each, inl refl);
        }

    -- how many more are refused is told after them
    pub told_to_end : (sink0 sink1 : S) (told0 told1 told2 : Device E) (lines : List Item) (count : ℕ) → count ≡ refused_count lines
        → Answered stands stopped messages_in question form sink0 sink1 told0 told1 lines → Received messages_in told1 told2 (more_refused form count)
        → AnsweredToEnd stands stopped messages_in question form sink0 sink1 told0 told2 lines
    told_to_end sink0 sink1 told0 told1 told2 lines count is answered more = record {
      rows = answered.rows;
      messages = both_received told0 told1 told2 _ _ answered.messages (subst (λ n. Received messages_in told1 told2 (more_refused form n)) is more);
    }

    -- a beginning of that is
    pub told_in_part : (sink0 sink1 : S) (told0 told1 told2 : Device E) (lines : List Item) (count : ℕ) → count ≡ refused_count lines
        → Answered stands stopped messages_in question form sink0 sink1 told0 told1 lines → Part messages_in told1 told2 (more_refused form count)
        → AnsweredInPart stands stopped messages_in question form sink0 sink1 told0 told2 lines
    told_in_part sink0 sink1 told0 told1 told2 lines count is answered more = record {
      rows = to_end sink0 sink1 lines (put_so_far stands stopped sink0 sink1 _ answered.rows);
      messages = part_behind told0 told1 told2 (messages_from form 0 1 lines) _ answered.messages (subst (λ n. Part messages_in told1 told2 (more_refused form n)) is more);
    }

    -- a write failed
    pub stopped_in_part : (sink0 sink1 : S) (told0 told1 : Device E) (fault : SearchFault) (came : Came) (outcomes : List Item) → is_writer_fault fault ≡ true → (came.ended ≡ true → IsOfLines (framing_by form.units) came.bytes)
        → AnsweredInPart stands stopped messages_in question form sink0 sink1 told0 told1 (answered_of question form 0 outcomes) → SearchStopped stands stopped messages_in question form sink0 sink1 told0 told1 fault came outcomes
    stopped_in_part sink0 sink1 told0 told1 faults.Read came outcomes e l h = absurd (cc)
    stopped_in_part sink0 sink1 told0 told1 faults.Framing came outcomes e l h = absurd (cc)
    stopped_in_part sink0 sink1 told0 told1 (faults.Foreign format) came outcomes e l h = absurd (cc)
    stopped_in_part sink0 sink1 told0 told1 faults.Size came outcomes e l h = absurd (cc)
    stopped_in_part sink0 sink1 told0 told1 faults.Write came outcomes e l h = (l, h)
    stopped_in_part sink0 sink1 told0 told1 faults.Report came outcomes e l h = (l, h)
    stopped_in_part sink0 sink1 told0 told1 faults.Memory came outcomes e l h = absurd (cc)

    -- the stream is refused as a whole, before which nothing was written, or a write failed
    pub stopped_by : (sink0 sink1 : S) (told0 told1 : Device E) (fault : SearchFault) (came : Came) (outcomes : List Item) → false ≡ is_read_fault fault → is_inner_fault fault ≡ false
        → (is_front_fault fault ≡ true → IsRefused (framing_by form.units) came fault × Answered stands stopped messages_in question form sink0 sink1 told0 told1 [])
        → (is_front_fault fault ≡ false → came.ended ≡ true → IsOfLines (framing_by form.units) came.bytes)
        → AnsweredInPart stands stopped messages_in question form sink0 sink1 told0 told1 (answered_of question form 0 outcomes) → SearchStopped stands stopped messages_in question form sink0 sink1 told0 told1 fault came outcomes
    stopped_by sink0 sink1 told0 told1 faults.Read came outcomes e i front l h = absurd (cc)
    stopped_by sink0 sink1 told0 told1 faults.Framing came outcomes e i front l h = front refl
    stopped_by sink0 sink1 told0 told1 (faults.Foreign format) came outcomes e i front l h = front refl
    stopped_by sink0 sink1 told0 told1 faults.Size came outcomes e i front l h = absurd (cc)
    stopped_by sink0 sink1 told0 told1 faults.Write came outcomes e i front l h = (l refl, h)
    stopped_by sink0 sink1 told0 told1 faults.Report came outcomes e i front l h = (l refl, h)
    stopped_by sink0 sink1 told0 told1 faults.Memory came outcomes e i front l h = absurd (cc)

-- what is refused at its end is not framed
pub refused_at_end : (form : Form) (fault : SearchFault) (came : Came) → came.ended ≡ true → fault ≡ faults.Framing → format_of came.bytes ≡ None → is_framed (framing_by form.units) came.bytes ≡ false
    → IsRefused (framing_by form.units) came fault
refused_at_end form fault came ended is format framed = inr (ended, is, format, framed)
