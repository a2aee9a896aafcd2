-- What a step of a search comes to, by what it answers.
use Rattle.std.proofs.Common.{◌≡◌, ◌∙◌, ℕ, List, [], ◌++◌, length, append_assoc, append-nil, sym, subst, inr, refl, true, false, Option, Result, Ok, Err}
use Rattle.std.specs.Prelude.{MatchResult}
use Rattle.jp_devices.specs.Devices.{Came, Device, GaveUpTo}
use Rattle.jp_sink.specs.Events.{Event}
use Rattle.jp_grep.specs.Faults.{is_front_fault, is_inner_fault, is_report_fault, is_writer_fault, limit_of}
use Rattle.jp_grep.specs.Inputs.{ReadOn, WantsMore}
use Rattle.jp_grep.specs.Items.{Item, items_come}
use Rattle.jp_grep.specs.Outcomes.{CameOfEach, CameOfStream}
use Rattle.jp_grep.specs.Searching.{HasAnswered}
use Rattle.jp_grep.specs.Watching.{SearchStopped, SearchedLines}
use Rattle.jp_grep.specs.declared.fault.SearchFault.{SearchFault}
use Rattle.jp_grep.specs.declared.fault.SearchFault.TheVariants as faults
use Rattle.jp_grep.specs.declared.found.Found.{Found}
use Rattle.jp_grep.specs.declared.found.Limit.TheVariants as limits
use Rattle.jp_grep.specs.declared.input.Input.{Input}
use Rattle.jp_grep.specs.declared.progress.Progress.{Progress}
use Rattle.jp_grep.specs.declared.question.Question.{Question}
use Rattle.jp_grep.specs.declared.source.Source.{Source}
use Rattle.jp_form.specs.declared.form.Form.{Form}
use Rattle.jp_grep.proofs.Coming.{came_next}

-- what a search says of its lines
abbrev pub SaysLines : {R S E : Type 0} → (R → Option (List ℕ)) → (stands stopped : S → List Event → Type 0) → (E → Option (List ℕ)) → Question → Form → Input R → Input R → S → S → Device E → Device E → Result Found SearchFault → Type 0
SaysLines remaining stands stopped messages_in question form old new sink0 sink1 told0 told1 result = (came : Came) × (outcomes : List Item) × GaveUpTo remaining old.reader new.reader came
    × CameOfStream form came outcomes × ReadOn question form old new came.bytes outcomes × MatchResult result
    (λ found. SearchedLines stands stopped messages_in question form sink0 sink1 told0 told1 came outcomes found)
    (λ fault. SearchStopped stands stopped messages_in question form sink0 sink1 told0 told1 fault came outcomes)

-- something is so of a result where it is so at Ok and at Err
pub either_way : {A E : Type 0} (G : Result A E → Type 0) (P : A → Type 0) (Q : E → Type 0) (r : Result A E) → MatchResult r P Q → ((x : A) → P x → G (Ok x)) → ((e : E) → Q e → G (Err e)) → G r
either_way G P Q (Ok x) h f k = f x h
either_way G P Q (Err e) h f k = k e h

pub inner_no_writer : (fault : SearchFault) → is_inner_fault fault ≡ true → is_writer_fault fault ≡ false
inner_no_writer faults.Read h = absurd (cc)
inner_no_writer faults.Framing h = absurd (cc)
inner_no_writer (faults.Foreign format) h = absurd (cc)
inner_no_writer faults.Size h = refl
inner_no_writer faults.Write h = absurd (cc)
inner_no_writer faults.Report h = absurd (cc)
inner_no_writer faults.Memory h = refl

pub front_no_writer : (fault : SearchFault) → is_front_fault fault ≡ true → is_writer_fault fault ≡ false
front_no_writer faults.Read h = absurd (cc)
front_no_writer faults.Framing h = refl
front_no_writer (faults.Foreign format) h = refl
front_no_writer faults.Size h = absurd (cc)
front_no_writer faults.Write h = absurd (cc)
front_no_writer faults.Report h = absurd (cc)
front_no_writer faults.Memory h = absurd (cc)

pub inner_other_front : (fault : SearchFault) → is_inner_fault fault ≡ true → is_front_fault fault ≡ false
inner_other_front faults.Read h = absurd (cc)
inner_other_front faults.Framing h = absurd (cc)
inner_other_front (faults.Foreign format) h = absurd (cc)
inner_other_front faults.Size h = refl
inner_other_front faults.Write h = absurd (cc)
inner_other_front faults.Report h = absurd (cc)
inner_other_front faults.Memory h = refl

-- the fault that tells a limit of size is one
pub size_of_limit : (fault : SearchFault) → limit_of fault ≡ limits.Size → fault ≡ faults.Size
size_of_limit faults.Size h = refl
size_of_limit faults.Read h = absurd (cc)
size_of_limit faults.Framing h = absurd (cc)
size_of_limit (faults.Foreign format) h = absurd (cc)
size_of_limit faults.Write h = absurd (cc)
size_of_limit faults.Report h = absurd (cc)
size_of_limit faults.Memory h = absurd (cc)

-- a message that was not written is a fault of a writer
pub of_report : (fault : SearchFault) → is_report_fault fault ≡ true → is_writer_fault fault ≡ true
of_report faults.Read h = absurd (cc)
of_report faults.Framing h = absurd (cc)
of_report (faults.Foreign format) h = absurd (cc)
of_report faults.Size h = absurd (cc)
of_report faults.Write h = absurd (cc)
of_report faults.Report h = refl
of_report faults.Memory h = absurd (cc)

-- the last read brought these bytes, and after those before it more was wanted
pub read_last : (question : Question) (form : Form) {R : Type 0} (old new : Input R) (came last : List ℕ) (outcomes more : List Item) → length last ≡ new.last → WantsMore question form came outcomes
    → ReadOn question form old new (came ++ last) (outcomes ++ more)
read_last question form old new came last outcomes more count wants = inr (record {
  before = came;
  last = last;
  bytes = refl;
  count = count;
  first = outcomes;
  others = more;
  items = refl;
  wants = wants;
})

-- it brought none
pub read_nothing : (question : Question) (form : Form) {R : Type 0} (old new : Input R) (came : List ℕ) (outcomes more : List Item) → new.last ≡ 0 → WantsMore question form came outcomes → ReadOn question form old new came (outcomes ++ more)
read_nothing question form old new came outcomes more none wants = inr (record {
  before = came;
  last = [];
  bytes = sym (append-nil came);
  count = sym none;
  first = outcomes;
  others = more;
  items = refl;
  wants = wants;
})

pub none_more : (question : Question) (form : Form) {R : Type 0} (old new : Input R) (came : List ℕ) (outcomes : List Item) → ReadOn question form old new came (outcomes ++ []) → ReadOn question form old new came outcomes
none_more question form old new came outcomes h = subst (λ (ls : List Item). ReadOn question form old new came ls) (append-nil outcomes) h

-- what came of the first lines of a stream
pub first_came : (form : Form) (came : Came) (lines more others outcomes results : List Item) → items_come form.units came.ended came.bytes ≡ (lines ++ more) ++ others → CameOfEach lines outcomes → CameOfEach more results
    → CameOfStream form came (outcomes ++ results)
first_came form came lines more others outcomes results split each next = record { items = lines ++ more; others = others; split = split; each = came_next lines outcomes more results each next }

pub before_came : (form : Form) (came : Came) (lines more others outcomes : List Item) → items_come form.units came.ended came.bytes ≡ (lines ++ more) ++ others → CameOfEach lines outcomes → CameOfStream form came outcomes
before_came form came lines more others outcomes split each = record { items = lines; others = more ++ others; split = split ∙ append_assoc lines more others; each = each }

-- where nothing was told, all is as it was
pub still : (question : Question) (form : Form) {S E : Type 0} (stands stopped : S → List Event → Type 0) (messages_in : E → Option (List ℕ)) (source : Source) (before after : Progress) (sink0 sink1 sink2 : S) (told0 told1 told2 : Device E)
    (came : List ℕ) (lines outcomes : List Item) → (sink2 ≡ sink1) × (told2 ≡ told1) × (after ≡ before) → HasAnswered stands stopped messages_in question form source before sink0 sink1 told0 told1 came lines outcomes
    → HasAnswered stands stopped messages_in question form source after sink0 sink2 told0 told2 came lines outcomes
still question form {S} {E} stands stopped messages_in source before after sink0 sink1 sink2 told0 told1 told2 came lines outcomes same so =
    subst (λ (p : Progress). HasAnswered stands stopped messages_in question form source p sink0 sink2 told0 told2 came lines outcomes) (sym same.2)
    (subst (λ (d : Device E). HasAnswered stands stopped messages_in question form source before sink0 sink2 told0 d came lines outcomes) (sym same.1)
    (subst (λ (d : S). HasAnswered stands stopped messages_in question form source before sink0 d told0 told1 came lines outcomes) (sym same.0) so))
