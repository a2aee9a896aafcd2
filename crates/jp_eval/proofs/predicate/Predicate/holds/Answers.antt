-- Each slot is known, and what was answered is right in each run of the predicate.
use Rattle.std.proofs.Common.{◌≡◌, ◌∙◌, Bool, List, ap, refl, subst, take}
use Rattle.std.specs.Prelude.{IfOk}
use Rattle.jp_model.specs.Meaning.Selecting.{truth}
use Rattle.jp_nodes.specs.Cursors.{line_of, node_of}
use Rattle.jp_eval.specs.Programs.{Table, condition_view, table_of}
use Rattle.jp_eval.specs.declared.frame.Run.{Run}
use Rattle.jp_eval.specs.declared.program.Slot.{Slot}
use Rattle.jp_eval.proofs.Remembering.{run_remembered}
use Rattle.jp_eval.proofs.Tables.{all_known}
use Rattle.jp_eval.proofs.predicate.Predicate.holds.Goals as goal

pub answer_slots-requires : goal.answer_slots-requires
answer_slots-requires c =
    let run : Run = record { alloc = c.args.alloc; slots = c.deref.result; known = c.len.result; root = record { ref_ptr = c.args.self.ref_ptr; now = c.args.root }; at_root = c.requires.root } in
    c.requires.remembers.right run c.deref.ensures.value refl

pub returns-clause-remembers : goal.returns-clause-remembers
returns-clause-remembers c =
    let run : Run = record { alloc = c.args.alloc; slots = c.deref.result; known = c.len.result; root = record { ref_ptr = c.args.self.ref_ptr; now = c.args.root }; at_root = c.requires.root } in
    run_remembered run c.args.self.now.slots.items (line_of c.args.root) c.holds.new.frame c.deref.ensures.value refl c.holds.ensures.lends.kept

pub returns-in_err-answer_slots-clause-remembers : goal.returns-in_err-answer_slots-clause-remembers
returns-in_err-answer_slots-clause-remembers c =
    let run : Run = record { alloc = c.args.alloc; slots = c.deref.result; known = c.len.result; root = record { ref_ptr = c.args.self.ref_ptr; now = c.args.root }; at_root = c.requires.root } in
    run_remembered run c.args.self.now.slots.items (line_of c.args.root) c.answer_slots.new.frame c.deref.ensures.value refl c.answer_slots.ensures.kept

pub returns-clause-truth : goal.returns-clause-truth
returns-clause-truth c =
    let slots = c.args.self.now.slots in
    let all : take c.len.result (table_of c.deref.result.now) ≡ table_of slots.items = ap (λ (l : List Slot). take c.len.result (table_of l)) c.deref.ensures.value ∙ all_known slots.items c.len.result (c.len.ensures ∙ slots.ok.0) in
    subst (λ (table : Table). IfOk c.holds.result (λ (b : Bool). b ≡ truth (condition_view table c.args.self.now.condition) (node_of c.args.node) (node_of c.args.root).tree)) all c.holds.ensures.value
