-- What a slot asks is read by those before it.
use Rattle.std.proofs.Common.{◌∙◌, ◌<◌, refl, sym, List, length, arith}
use Rattle.std.proofs.lemmas.Bool.{ltb-false}
use Rattle.std.proofs.lemmas.Option.{slice_get_read}
use Rattle.jp_eval.specs.Answers.{slots_in}
use Rattle.jp_eval.specs.declared.program.Slot.{Slot}
use Rattle.jp_eval.proofs.Tables.{get_in_part, no_slot, slot_found}
use Rattle.jp_eval.proofs.frame.Run.slot_at.Goals as goal

pub returns-clause-view : goal.returns-clause-view
returns-clause-view c =
    let slots : List Slot = c.args.self.slots.now in
    let position = c.args.position in
    let l = c.in-Some.ensures.lookup in
    let known : position < c.args.self.known = omega (arith, c.if-position-self.false) in
    sym (get_in_part (slots_in c.args.self) c.args.self.known position known ∙ slot_found slots position c.in-Some.slot.now (slice_get_read slots (length slots) position c.in-Some.slot.now refl l.3.0 l.1))

pub returns-in_default-clause-view : goal.returns-in_default-clause-view
returns-in_default-clause-view c =
    let slots : List Slot = c.args.self.slots.now in
    let position = c.args.position in
    let known : position < c.args.self.known = omega (arith, c.if-position-self.false) in
    let l = ltb-false position (length slots) (sym c.in_default.ensures.lookup.0) in
    sym (get_in_part (slots_in c.args.self) c.args.self.known position known ∙ no_slot slots position (omega (arith, l)))
