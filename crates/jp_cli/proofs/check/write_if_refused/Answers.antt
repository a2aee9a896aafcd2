-- A refused line has one row.
use Rattle.std.proofs.Common.{sym, subst, refl, [], ◌∷◌, append-nil}
use Rattle.jp_model.specs.declared.Framing.{Framing}
use Rattle.jp_devices.specs.Devices.{Writes}
use Rattle.jp_model.specs.Rows.{refusal_text}
use Rattle.jp_model.specs.Script.Machine.{refusals_from}
use Rattle.jp_cli.proofs.Statuses.{nothing_of_blank, nothing_of_tree, told_refused}
use Rattle.jp_store.specs.Collections.{line_status}
use Rattle.jp_cli.proofs.check.write_if_refused.Goals as goal

pub returns-in-Refused-clause-text : goal.returns-in-Refused-clause-text
returns-in-Refused-clause-text g c =
    subst (λ s. Writes g.W.Write.contents c.args.out.now c.write_refusal.new.out c.write_refusal.result (refusals_from c.args.store.now.framing c.args.number (s ∷ [])))
    (sym (told_refused _ c.in-Refused.fault c.in-Refused.ensures))
    (subst (Writes g.W.Write.contents c.args.out.now c.write_refusal.new.out c.write_refusal.result) (sym (append-nil (refusal_text c.args.store.now.framing c.args.number c.in-Refused.fault)))
    (subst (λ (f : Framing). Writes g.W.Write.contents c.args.out.now c.write_refusal.new.out c.write_refusal.result (refusal_text f c.args.number c.in-Refused.fault))
    c.framing.ensures c.write_refusal.ensures.text))

pub returns-in-Blank : goal.returns-in-Blank
returns-in-Blank g c = record {
  text = nothing_of_blank g.W.Write.contents c.args.out.now c.args.store.now.framing c.args.number (line_status c.args.number c.args.store.now) c.line_status.result c.line_status.ensures c.in-Blank.is;
  fault = c.requires.working;
  after = refl;
}

pub returns-in-Tree : goal.returns-in-Tree
returns-in-Tree g c = record {
  text = nothing_of_tree g.W.Write.contents c.args.out.now c.args.store.now.framing c.args.number (line_status c.args.number c.args.store.now) c.line_status.result c.line_status.ensures c.in-Tree.is;
  fault = c.requires.working;
  after = refl;
}
