-- The rows are those of the definition, or a growth was refused.
use Rattle.std.proofs.Common.{ℕ, ◌++◌, subst, sym, refl, true}
use Rattle.std.specs.Prelude.{flat_map, count_by}
use Rattle.jp_query.specs.Status.{query_of}
use Rattle.jp_model.specs.declared.Framing.{Framing}
use Rattle.jp_devices.specs.Devices.{Writes}
use Rattle.jp_model.specs.Script.Commands.{query_line}
use Rattle.jp_model.specs.Script.Machine.{count_line}
use Rattle.jp_types.specs.Checks.{checked_view}
use Rattle.jp_plan.specs.ByLine.{found_in}
use Rattle.jp_cli.specs.Found.{found_text, is_found_node}
use Rattle.jp_cli.specs.Runs.{Adds, at, setup_of}
use Rattle.jp_cli.proofs.Replied.{starved}
use Rattle.jp_cli.proofs.RowsTold.{rows_answered, lines_are}
use Rattle.jp_cli.proofs.session.Session.answer_checked.Goals as goal

pub returns-in-Ok-clause-ran : goal.returns-in-Ok-clause-ran
returns-in-Ok-clause-ran g c text is =
    rows_answered query_of c.args.self.now text (checked_view c.args.checked.now) is g.W.Write.contents c.args.out.now c.write_rows_and_count.new.out
    c.write_rows_and_count.result (found_in c.in-Ok.rows) c.args.self.now.opened c.find_rows.new.opened
    c.in-Ok.ensures.rows c.in-Ok.ensures.lines c.in-Ok.ensures.opened
    (subst (λ (f : Framing). Writes g.W.Write.contents c.args.out.now c.write_rows_and_count.new.out c.write_rows_and_count.result
    (flat_map (found_text f) (found_in c.in-Ok.rows) ++ count_line (count_by is_found_node (found_in c.in-Ok.rows)))) c.framing.ensures c.write_rows_and_count.ensures.text)

pub returns-in-Err-clause-ran : goal.returns-in-Err-clause-ran
returns-in-Err-clause-ran g c text is =
    let over = c.args.self.now.store in
    starved query_of (setup_of c.args.self.now) (query_line text) g.W.Write.contents c.args.out.now c.write_refused_growth.new.out c.write_refused_growth.result
    (at over.state c.args.self.now.opened) (at over.state c.find_rows.new.opened) tt refl
    (subst (λ (n : ℕ). Adds true n c.args.self.now.opened c.find_rows.new.opened)
    (sym (lines_are query_of c.args.self.now text (checked_view c.args.checked.now) is)) c.in-Err.ensures.opened)
    c.write_refused_growth.ensures.text
