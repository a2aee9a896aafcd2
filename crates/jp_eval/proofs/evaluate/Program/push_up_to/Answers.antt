-- Each slot is known, and what was answered is right in each run of the program.
use Rattle.std.proofs.Common.{◌≡◌, ◌∙◌, ◌∷◌, [], ap, ap₂, List, refl, take, Result, Ok, Err}
use Rattle.std.specs.Prelude.{OnOk}
use Rattle.jp_model.specs.Json.Tree.{Tree}
use Rattle.jp_model.specs.Meaning.Nodes.{Node}
use Rattle.jp_model.specs.Meaning.Selecting.{nodes}
use Rattle.jp_nodes.specs.Cursors.{line_of, node_of}
use Rattle.jp_eval.specs.Programs.{Table, table_of, steps_view}
use Rattle.jp_eval.specs.Tallies.{tally}
use Rattle.jp_eval.specs.declared.frame.Run.{Run}
use Rattle.jp_eval.specs.declared.program.Slot.{Slot}
use Rattle.jp_eval.specs.declared.program.Step.{Step}
use Rattle.jp_eval.proofs.Goes.{same_tally}
use Rattle.jp_eval.proofs.Remembering.{run_remembered}
use Rattle.jp_eval.proofs.Tables.{all_known}
use Rattle.jp_eval.proofs.evaluate.Program.push_up_to.Goals as goal

on_ok : {A E : Type 0} (r : Result A E) (P Q : Type 0) → (P → Q) → OnOk r P → OnOk r Q
on_ok (Ok x) P Q f h = f h
on_ok (Err e) P Q f h = tt

pub answer_slots-requires : goal.answer_slots-requires
answer_slots-requires c =
    let run : Run = record { alloc = c.args.alloc; slots = c.deref.result; known = c.len.result; root = record { ref_ptr = c.args.self.ref_ptr; now = c.args.root }; at_root = c.requires.root } in
    c.requires.remembers.right run c.deref.ensures.value refl

pub returns-clause-remembers : goal.returns-clause-remembers
returns-clause-remembers c =
    let run : Run = record { alloc = c.args.alloc; slots = c.deref.result; known = c.len.result; root = record { ref_ptr = c.args.self.ref_ptr; now = c.args.root }; at_root = c.requires.root } in
    run_remembered run c.args.self.now.slots.items (line_of c.args.root) c.push_steps.new.frame c.deref.ensures.value refl c.push_steps.ensures.kept

pub returns-in_err-answer_slots-clause-remembers : goal.returns-in_err-answer_slots-clause-remembers
returns-in_err-answer_slots-clause-remembers c =
    let run : Run = record { alloc = c.args.alloc; slots = c.deref.result; known = c.len.result; root = record { ref_ptr = c.args.self.ref_ptr; now = c.args.root }; at_root = c.requires.root } in
    run_remembered run c.args.self.now.slots.items (line_of c.args.root) c.answer_slots.new.frame c.deref.ensures.value refl c.answer_slots.ensures.kept

pub returns-clause-told : goal.returns-clause-told
returns-clause-told c =
    let t : Tree = (node_of c.args.root).tree in
    let n : Node = node_of c.args.start in
    let slots = c.args.self.now.slots in
    let most = c.args.most in
    let seen = λ (table : Table) (steps : List Step). nodes (steps_view table steps) (n ∷ []) t in
    let known : Table = take c.len.result (table_of c.deref.result.now) in
    let all : known ≡ table_of slots.items = ap (λ (l : List Slot). take c.len.result (table_of l)) c.deref.ensures.value ∙ all_known slots.items c.len.result (c.len.ensures ∙ slots.ok.0) in
    let same : seen known c.deref-2.result.now ≡ seen (table_of slots.items) c.args.self.now.steps.items = ap₂ seen all c.deref-2.ensures.value in
    on_ok c.push_steps.result (tally (line_of c.args.root) most c.push_steps.new.frame [] ≡ tally (line_of c.args.root) most c.answer_slots.new.frame (seen known c.deref-2.result.now))
    (tally (line_of c.args.root) most c.push_steps.new.frame [] ≡ tally (line_of c.args.root) most c.args.frame.now (seen (table_of slots.items) c.args.self.now.steps.items))
    (λ e. e ∙ same_tally (line_of c.args.root) most c.answer_slots.new.frame c.args.frame.now _ _ c.in_ok-answer_slots.ensures.same c.in_ok-answer_slots.ensures.sum same) c.push_steps.ensures.told
