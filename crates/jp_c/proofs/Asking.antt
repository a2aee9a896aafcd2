-- Queries that are added one after another, and a text that was searched to its end.
use Rattle.std.proofs.Common.{arith, append-nil, ◌≡◌, ◌∙◌, ◌+◌, ◌-◌, ◌<◌, ◌++◌, ◌∷◌, [], ℕ, zero, suc, List, Bool, true, append_assoc, ap, ap₂, get_or, inl, inr, length, map, subst, sym, take, Option, Some, None}
use Rattle.std.specs.Prelude.{◌&&◌, ◌⊎◌, is_none, IfErr, IsErrAnd, MatchOption, Result, Ok, Err}
use Rattle.std.specs.Io.KnownBytes.{Consumes, IsAtEnd}
use denote.Ref.{Bor}
use Rattle.std.proofs.lemmas.Bool.{false≢true}
use Rattle.std.proofs.lemmas.List.{map-append, take-append-le, take_all, take_more}
use Rattle.jp_devices.specs.Devices.{Begins, Came, Device}
use Rattle.jp_form.specs.declared.form.Form.{Form}
use Rattle.jp_grep.specs.Formats.{format_of}
use Rattle.jp_grep.specs.Fronts.{IsRefused}
use Rattle.jp_grep.specs.Items.{Item, framing_by, items_come, unjudged_count}
use Rattle.jp_grep.specs.Matching.{queries_of}
use Rattle.jp_grep.specs.Watching.{AreCounts, EndsWith, IsEnough, SearchStopped, answered_of, is_whole}
use Rattle.jp_grep.specs.declared.fault.SearchFault.{SearchFault}
use Rattle.jp_grep.specs.declared.fault.SearchFault.TheVariants as search_faults
use Rattle.jp_grep.specs.declared.format.Format.{Format}
use Rattle.jp_grep.specs.declared.found.Found.{Found}
use Rattle.jp_grep.specs.declared.question.Queries.{Queries}
use Rattle.jp_grep.specs.declared.question.Question.{Question}
use Rattle.jp_grep.proofs.Coming.{none_lost}
use Rattle.jp_grep.proofs.SoFar.{whole_came, whole_kept}
use Rattle.jp_model.specs.Query.Syntax.{Path}
use Rattle.jp_sink.specs.Events.{Event}
use Rattle.jp_c.specs.Asked.{AddsQueries, AreQueries, HasRefusedQuery, IsFound, IsRefusedOrMemory, IsRefusedQuery, form_of, found_by}
use Rattle.jp_form.specs.declared.form.Units.{Units}
use Rattle.jp_c.specs.declared.filter.Rows.{Rows}
use Rattle.jp_c.specs.declared.question.FilterFault.{FilterFault}
use Rattle.jp_c.specs.declared.question.FilterFault.TheVariants as faults

-- queries of some texts, and after them those of others
pub both_queries : (purpose : Queries) (texts more : List (List ℕ)) (queries others : List Path) → AreQueries purpose texts queries → AreQueries purpose more others
    → AreQueries purpose (texts ++ more) (queries ++ others)
both_queries purpose [] more [] others h k = k
both_queries purpose [] more (q ∷ queries) others h k = absurd h
both_queries purpose (text ∷ texts) more [] others h k = absurd h
both_queries purpose (text ∷ texts) more (q ∷ queries) others h k = (h.0, both_queries purpose texts more queries others h.1 k)

-- the queries of one text more
pub more_added : (purpose : Queries) (texts : List (Bor (List ℕ))) (n : ℕ) (d : Bor (List ℕ)) (old mid new : Question) → n < length texts
    → AddsQueries purpose (map (λ t. t.now) (take n texts)) old mid → AddsQueries purpose ((get_or texts n d).now ∷ []) mid new → AddsQueries purpose (map (λ t. t.now) (take (n + 1) texts)) old new
more_added purpose texts n d old mid new within so more = (
  so.0 ++ more.0,
  subst (λ (ts : List (List ℕ)). AreQueries purpose ts (so.0 ++ more.0)) (sym longer) (both_queries purpose (map (λ t. t.now) (take n texts)) ((get_or texts n d).now ∷ []) so.0 more.0 so.1 more.1),
  more.2 ∙ ap (λ (qs : List Path). qs ++ more.0) so.2 ∙ append_assoc (queries_of old) so.0 more.0,
)
  where
    longer : map (λ (t : Bor (List ℕ)). t.now) (take (n + 1) texts) ≡ map (λ (t : Bor (List ℕ)). t.now) (take n texts) ++ (get_or texts n d).now ∷ []
    longer = ap (map (λ (t : Bor (List ℕ)). t.now)) (take_more texts n d within) ∙ map-append (λ (t : Bor (List ℕ)). t.now) (take n texts) (get_or texts n d ∷ [])

-- one text among some is refused
pub one_refused : (purpose : Queries) (texts : List (Bor (List ℕ))) (n : ℕ) (d : Bor (List ℕ)) → n < length texts → IsRefusedQuery purpose (get_or texts n d).now
    → HasRefusedQuery purpose (map (λ t. t.now) texts)
one_refused purpose [] n d l h = absurd (omega arith)
one_refused purpose (first ∷ texts) zero d l h = inl h
one_refused purpose (first ∷ texts) (suc n) d l h = inr (one_refused purpose texts n d (omega arith) h)

-- what is told of a part is told of the whole
pub told_of_whole : (fault : FilterFault) (A B : Type 0) → (A → B) → IsRefusedOrMemory fault A → IsRefusedOrMemory fault B
told_of_whole faults.Number A B f h = absurd h
told_of_whole faults.Question A B f h = f h
told_of_whole faults.Format A B f h = absurd h
told_of_whole faults.Memory A B f h = tt

-- a search that gave nothing up, and did not select as many lines as are wanted, came to the end
came_to_end : (came : Came) (question : Question) (form : Form) (outcomes : List Item) (found : Found) → is_whole found ≡ true → (found.counts.selected ≡ form.most → ⊥) → EndsWith question form came outcomes found
    → came.ended ≡ true
came_to_end came question form outcomes found whole fewer ends = by found.unread _ _ _ _ whole ends
  where
    by : {A : Type 0} (o : Option A) (P Q : Type 0) (R : A → Type 0) (b : Bool) → (is_none o && b) ≡ true
        → MatchOption o (P × Q × ((came.ended ≡ true) ⊎ IsEnough form found.counts.selected (unjudged_count (answered_of question form 0 outcomes)))) R → came.ended ≡ true
    by None P Q R b e h = either h.2
      where
        either : (came.ended ≡ true) ⊎ IsEnough form found.counts.selected (unjudged_count (answered_of question form 0 outcomes)) → came.ended ≡ true
        either (inl ended) = ended
        either (inr enough) = absurd (fewer enough.0)
    by (Some x) P Q R b e h = absurd (false≢true e)

-- then what is answered are the lines of the text
pub all_answered : (question : Question) (form : Form) (text : List ℕ) (came : Came) (outcomes : List Item) (found : Found) → is_whole found ≡ true → (found.counts.selected ≡ form.most → ⊥)
    → EndsWith question form came outcomes found → AreCounts question found.counts (answered_of question form 0 outcomes) → (came.ended ≡ true → came.bytes ≡ text)
    → answered_of question form 0 outcomes ≡ answered_of question form 0 (items_come form.units true text)
all_answered question form text came outcomes found whole fewer ends counts all =
    let ended = came_to_end came question form outcomes found whole fewer ends in
    none_lost question (form.most - 0) form.trailing (items_come form.units came.ended came.bytes) outcomes (whole_came question form came outcomes found whole ends) (sym counts.given_up ∙ whole_kept question form found whole)
    ∙ ap₂ (λ (b : Bool) (bytes : List ℕ). answered_of question form 0 (items_come form.units b bytes)) ended (all ended)

-- what is found in such a form
pub found_with : (question : Question) (units : Units) (rows : Rows) (numbered : Bool) (name : Bor (List ℕ)) (form : Form) (text found : List ℕ) → form ≡ form_of name units rows numbered
    → found ≡ found_by question form text → IsFound question units rows numbered text found
found_with question units rows numbered name form text found is h = (name, h ∙ ap (λ (f : Form). found_by question f text) is)

-- the error that a `?` hands on
pub handed_on : {A E : Type 0} (Q : E → Type 0) (r : Result A E) (e : E) → IsErrAnd r (λ y. y ≡ e) → Q e → IfErr r Q
handed_on Q (Ok x) e h q = absurd h
handed_on Q (Err y) e h q = subst Q (sym h) q

-- ---- what came of a text in memory

some_same : {A : Type 0} (x y : A) → Some x ≡ Some y → x ≡ y
some_same x y e = cc

none_some : {A : Type 0} (x : A) → ◌≡◌ {A = Option A} None (Some x) → ⊥
none_some x e = cc

pub all_came : (old new : Option (List ℕ)) (text bytes : List ℕ) → old ≡ Some text → Consumes old new bytes → IsAtEnd new → bytes ≡ text
all_came None new text bytes e given end = absurd (none_some text e)
all_came (Some xs) None text bytes e given end = absurd given
all_came (Some xs) (Some ys) text bytes e given end = sym (append-nil bytes) ∙ ap (λ rest. bytes ++ rest) (sym end) ∙ sym given ∙ some_same xs text e

pub first_came : (old new : Option (List ℕ)) (text bytes : List ℕ) → old ≡ Some text → Consumes old new bytes → Begins bytes text
first_came None new text bytes e given = absurd (none_some text e)
first_came (Some xs) None text bytes e given = absurd given
first_came (Some xs) (Some ys) text bytes e given = ap (take (length bytes)) (sym (some_same xs text e) ∙ given) ∙ take-append-le (length bytes) bytes ys (omega arith) ∙ take_all (length bytes) bytes (omega arith)

no_framing : (format : Format) → search_faults.Foreign format ≡ search_faults.Framing → ⊥
no_framing format e = cc

-- a search that stopped since the text has the mark of a format
pub foreign_mark : {S E : Type 0} (stands stopped : S → List Event → Type 0) (messages_in : E → Option (List ℕ)) (question : Question) (form : Form) (sink0 sink1 : S) (told0 told1 : Device E)
    (fault : SearchFault) (came : Came) (outcomes : List Item) (format : Format) → fault ≡ search_faults.Foreign format
    → SearchStopped stands stopped messages_in question form sink0 sink1 told0 told1 fault came outcomes → format_of came.bytes ≡ Some format
foreign_mark stands stopped messages_in question form sink0 sink1 told0 told1 fault came outcomes format e h =
    by (subst (λ (f : SearchFault). SearchStopped stands stopped messages_in question form sink0 sink1 told0 told1 f came outcomes) e h).0
  where
    by : IsRefused (framing_by form.units) came (search_faults.Foreign format) → format_of came.bytes ≡ Some format
    by (inl is) = is
    by (inr is) = absurd (no_framing format is.1)
