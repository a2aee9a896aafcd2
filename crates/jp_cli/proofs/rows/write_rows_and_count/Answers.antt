-- The count stands after the rows: each place is that of one node.
use Rattle.std.proofs.Common.{◌≡◌, subst, ℕ, arith}
use Rattle.std.specs.Prelude.{count_by}
use Rattle.jp_devices.specs.Devices.{Writes}
use Rattle.jp_model.specs.Script.Machine.{count_line}
use Rattle.jp_devices.proofs.Chains.{ends_behind}
use Rattle.jp_plan.specs.ByLine.{found_in}
use Rattle.jp_cli.specs.Found.{is_found_node}
use Rattle.jp_cli.proofs.RowsTold.{places_counted}
use Rattle.jp_cli.proofs.rows.write_rows_and_count.Goals as goal

pub returns-clause-text : goal.returns-clause-text
returns-clause-text g c =
    let rows = c.args.rows.now in
    let count : c.len.result ≡ count_by is_found_node (found_in rows) = omega (arith, c.len.ensures, places_counted rows.lines.items rows.places.items c.requires.turn) in
    ends_behind c.write_count.result _ _ _ _ _ c.in_ok-write_rows.ensures.text
    (subst (λ (n : ℕ). Writes g.W.Write.contents c.write_rows.new.out c.write_count.new.out c.write_count.result (count_line n)) count c.write_count.ensures.text)
