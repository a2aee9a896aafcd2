-- What answers none of some bytes, or the lines that end in them, goes on through a stream.
use Rattle.std.proofs.Common.{◌≡◌, ◌∙◌, ◌-◌, ℕ, List, [], ◌++◌, refl, sym, ap, subst, append-nil, arith, Bool, true, false, Option, Result, Ok, Err, IsErr, inr}
use Rattle.std.specs.Prelude.{IfErr, IsErrAnd, MatchResult, OnOk}
use Rattle.jp_model.specs.declared.Framing.{Framing}
use Rattle.jp_devices.specs.Devices.{Device, Writes}
use Rattle.jp_model.specs.Lines.{without_byte_order_mark}
use Rattle.jp_masks.specs.Found.{lines_in}
use Rattle.jp_devices.proofs.Chains.{Part, ends_in_part}
use Rattle.jp_grep.specs.Cuts.{EndsBetween, text_of}
use Rattle.jp_grep.specs.Faults.{IsToldOf, is_front_fault, is_inner_fault, is_input_fault, is_writer_fault}
use Rattle.jp_grep.specs.Fronts.{AreRefused}
use Rattle.jp_grep.specs.Items.{Item}
use Rattle.jp_grep.specs.Positions.{IsAt}
use Rattle.jp_grep.specs.Rows.{events_from, messages_from}
use Rattle.jp_grep.specs.Searching.{Answers, GoesOnBy, IsUnderWay, answered_after}
use Rattle.jp_grep.specs.Sizes.{TellsOfNumbers, TellsOfSize}
use Rattle.jp_grep.specs.Streams.{closed_in}
use Rattle.jp_grep.specs.Telling.{Puts}
use Rattle.jp_sink.specs.Events.{Event}
use Rattle.jp_grep.specs.declared.fault.SearchFault.{SearchFault}
use Rattle.jp_grep.specs.declared.fault.SearchFault.TheVariants as faults
use Rattle.jp_form.specs.declared.form.Form.{Form}
use Rattle.jp_grep.specs.declared.progress.Progress.{Progress}
use Rattle.jp_grep.specs.declared.question.Question.{Question}
use Rattle.jp_grep.specs.declared.source.Source.{Source}
use Rattle.jp_grep.proofs.Counted.{none_up_to}
use Rattle.jp_grep.proofs.Position.{cut_closed, grows}
use Rattle.jp_grep.proofs.Coming.{came_same}
use Rattle.jp_grep.proofs.Putting.{ends_put, none_put, nothing_put, whole_put}
use Rattle.jp_grep.proofs.Written.{none_received, none_written}

-- ---- what is said of a result

pub holds_at_ok : {A E P : Type 0} (r : Result A E) → P → OnOk r P
holds_at_ok (Ok x) p = p
holds_at_ok (Err e) p = tt

pub says_nothing : {A E : Type 0} (P : Type 0) (r : Result A E) → IsErr r → OnOk r P
says_nothing P (Ok x) h = absurd (cc)
says_nothing P (Err e) h = tt

pub at_err : {A E : Type 0} (P : E → Type 0) (r : Result A E) → ((e : E) → P e) → IfErr r P
at_err P (Ok x) f = tt
at_err P (Err e) f = f e

-- a fault of a writer is one
pub of_writer : (fault : SearchFault) → is_writer_fault fault ≡ true → is_writer_fault fault ≡ false → ⊥
of_writer fault h e = apart (sym h ∙ e)
  where
    apart : true ≡ false → ⊥
    apart f = cc

-- where the faults of writers alone are told, nothing is said of others
pub only_writers : (P : Type 0) (r : Result Unit SearchFault) → IfErr r (λ fault. is_writer_fault fault ≡ true) → IfErr r (λ fault. is_writer_fault fault ≡ false → P)
only_writers P (Ok x) h = tt
only_writers P (Err e) h = λ other. absurd (of_writer e h other)

-- a beginning of any text is nothing
pub nothing_of : {W : Type 0} {contents : W → Option (List ℕ)} (device : Device W) (text : List ℕ) → Part contents device device text
nothing_of device text = ([], refl, none_received device)

pub inner_no_front : (fault : SearchFault) → is_inner_fault fault ≡ true → is_front_fault fault ≡ true → ⊥
inner_no_front faults.Read h e = cc
inner_no_front faults.Framing h e = cc
inner_no_front (faults.Foreign format) h e = cc
inner_no_front faults.Size h e = cc
inner_no_front faults.Write h e = cc
inner_no_front faults.Report h e = cc
inner_no_front faults.Memory h e = cc

-- a fault that is not one of what is read
pub other_no_front : (fault : SearchFault) → false ≡ is_input_fault fault → is_front_fault fault ≡ true → ⊥
other_no_front faults.Read h e = cc
other_no_front faults.Framing h e = cc
other_no_front (faults.Foreign format) h e = cc
other_no_front faults.Size h e = cc
other_no_front faults.Write h e = cc
other_no_front faults.Report h e = cc
other_no_front faults.Memory h e = cc

-- a fault of the search itself refuses no stream
pub not_of_front : (P : SearchFault → Type 0) (r : Result Unit SearchFault) (fault : SearchFault) → IsErrAnd r (λ e. e ≡ fault) → is_inner_fault fault ≡ true → IfErr r (λ e. is_front_fault e ≡ true → P e)
not_of_front P (Ok x) fault h inner = tt
not_of_front P (Err e) fault h inner = λ front. absurd (inner_no_front e (ap is_inner_fault h ∙ inner) front)

pub handed_on : (P : SearchFault → Type 0) (r : Result Unit SearchFault) (fault : SearchFault) → IsErrAnd r (λ e. e ≡ fault) → P fault → IfErr r P
handed_on P (Ok x) fault h p = tt
handed_on P (Err e) fault h p = subst P (sym h) p

-- no fault by which a stream is refused as a whole is a size, nor is one of memory
pub front_no_size : (fault : SearchFault) → is_front_fault fault ≡ true → fault ≡ faults.Size → ⊥
front_no_size fault h e = apart (sym h ∙ ap is_front_fault e)
  where
    apart : true ≡ false → ⊥
    apart f = cc

pub memory_no_size : (fault : SearchFault) → fault ≡ faults.Memory → fault ≡ faults.Size → ⊥
memory_no_size fault h e = apart (sym h ∙ e)
  where
    apart : faults.Memory ≡ faults.Size → ⊥
    apart f = cc

-- where the size is that of numbers alone, it is a size
pub numbers_tell : (r : Result Unit SearchFault) (source : Source) (more : ℕ) (before : Progress) (items : List Item) → TellsOfNumbers r before items → TellsOfSize r source more before items
numbers_tell (Ok x) source more before items h = tt
numbers_tell (Err e) source more before items h = λ is. inr (h is)

-- one that is told of no input refuses none, too
pub told_no_front : (P : SearchFault → Type 0) (r : Result Unit SearchFault) → IsToldOf is_input_fault r false → IfErr r (λ e. is_front_fault e ≡ true → P e)
told_no_front P (Ok x) told = tt
told_no_front P (Err e) told = λ front. absurd (other_no_front e told front)

-- what is so however it ended
pub so_anyhow : (P : Type 0) (r : Result Unit SearchFault) → P → MatchResult r (λ _. P) (λ fault. is_front_fault fault ≡ false → P)
so_anyhow P (Ok x) p = p
so_anyhow P (Err e) p = λ _. p

module _ (question : Question) (form : Form) where
  pub none_answered : (progress : Progress) → answered_after question form progress [] ≡ []
  none_answered progress = none_up_to question (form.most - progress.counts.selected) (form.trailing - progress.trailed)

  pub none_by : (progress : Progress) → IsUnderWay form progress → GoesOnBy question form progress progress []
  none_by progress h = record { number = omega arith; selected = omega arith; refused = omega arith; given_up = omega arith; trailed = omega arith; under_way = h }

  module _ {S E : Type 0} (stands stopped : S → List Event → Type 0) (messages_in : E → Option (List ℕ)) (progress : Progress) (sink : S) (told : Device E) (r : Result Unit SearchFault) where
    unwritten : IfErr r (λ fault. is_writer_fault fault ≡ false → (sink ≡ sink) × (told ≡ told) × (progress ≡ progress))
    unwritten = at_err _ r (λ fault. λ other. (refl, refl, refl))

    -- no line is answered
    pub answers_none : IsUnderWay form progress → Answers stands stopped messages_in question form progress progress sink sink told told r []
    answers_none h = record {
      outcomes = [];
      each = tt;
      rows = subst (λ ls. Puts stands stopped sink sink r (events_from question form progress.number ls)) (sym (none_answered progress)) (whole_put stands stopped r sink sink [] (none_put stands stopped sink));
      messages = subst (λ ls. Writes messages_in told told r (messages_from form progress.counts.refused progress.number ls)) (sym (none_answered progress)) (none_written messages_in r told);
      progress = holds_at_ok r (subst (λ ls. GoesOnBy question form progress progress ls) (sym (none_answered progress)) (none_by progress h));
      unwritten = unwritten;
    }

    -- none of some lines is
    pub answers_nothing : (items : List Item) → IsErr r → Answers stands stopped messages_in question form progress progress sink sink told told r items
    answers_nothing items failed = record {
      outcomes = items;
      each = came_same items;
      rows = ends_put stands stopped r sink sink _ failed (nothing_put stands stopped sink _);
      messages = ends_in_part r told told _ failed (nothing_of told _);
      progress = says_nothing _ r failed;
      unwritten = unwritten;
    }

-- none of the lines in more bytes is answered yet
pub none_first : (framing : Framing) (came held piece : List ℕ) (answered : List (List ℕ)) (first : Bool) → IsAt framing came held answered first
    → (others : List (List ℕ)) × (closed_in framing (without_byte_order_mark (came ++ piece)) ≡ (answered ++ []) ++ others)
none_first framing came held piece answered first at =
    let grown = grows framing came held piece answered first at in
    (grown.0, grown.1 ∙ ap (λ ls. ls ++ grown.0) (sym (append-nil answered)))

pub all_first : (framing : Framing) (came held piece front rest : List ℕ) (answered : List (List ℕ)) (first : Bool) → piece ≡ front ++ rest → EndsBetween framing front rest → IsAt framing came held answered first
    → (others : List (List ℕ)) × (closed_in framing (without_byte_order_mark (came ++ piece)) ≡ (answered ++ lines_in framing (text_of first (held ++ front))) ++ others)
all_first framing came held piece front rest answered first e h at = (
  [],
  ap (λ l. closed_in framing (without_byte_order_mark (came ++ l))) e ∙ cut_closed framing came held front rest answered first h at
      ∙ sym (append-nil (answered ++ lines_in framing (text_of first (held ++ front)))),
)

-- where the front of a stream is held, it is refused by what is held and a piece
pub held_refused : (framing : Framing) (came held piece : List ℕ) (answered : List (List ℕ)) (first : Bool) (fault : SearchFault) → first ≡ true → AreRefused framing (held ++ piece) fault
    → IsAt framing came held answered first → (answered ≡ []) × AreRefused framing (came ++ piece) fault
held_refused framing came held piece answered true fault e refused at = (at.none, subst (λ l. AreRefused framing (l ++ piece) fault) at.same refused)
held_refused framing came held piece answered false fault e refused at = absurd (cc)

-- a fault that is handed on says of the lines what it said
module _ (question : Question) (form : Form) {S E : Type 0} {stands stopped : S → List Event → Type 0} {messages_in : E → Option (List ℕ)} where
  pub answers_in_part : (before after : Progress) (sink0 sink1 : S) (told0 told1 : Device E) (items : List Item) (e : SearchFault) (r : Result Unit SearchFault) → IsErr r → IsErrAnd r (λ y. y ≡ e)
      → Answers stands stopped messages_in question form before after sink0 sink1 told0 told1 (Err e) items → Answers stands stopped messages_in question form before after sink0 sink1 told0 told1 r items
  answers_in_part before after sink0 sink1 told0 told1 items e r failed is h = record {
    outcomes = h.outcomes;
    each = h.each;
    rows = ends_put stands stopped r sink0 sink1 _ failed h.rows;
    messages = ends_in_part r told0 told1 _ failed h.messages;
    progress = says_nothing _ r failed;
    unwritten = handed_on _ r e is h.unwritten;
  }
