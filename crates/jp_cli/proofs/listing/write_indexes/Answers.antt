-- The count stands after the paths.
use Rattle.std.proofs.Common.{subst, ℕ}
use Rattle.jp_devices.specs.Devices.{Writes}
use Rattle.jp_model.specs.Script.Machine.{count_line}
use Rattle.jp_devices.proofs.Chains.{ends_behind}
use Rattle.jp_cli.proofs.listing.write_indexes.Goals as goal

pub returns-in-Ok-clause-text : goal.returns-in-Ok-clause-text
returns-in-Ok-clause-text g c =
    ends_behind c.write_count.result _ _ _ _ _ c.in-Ok.ensures.text
    (subst (λ (n : ℕ). Writes g.W.Write.contents c.write_paths.new.out c.write_count.new.out c.write_count.result (count_line n)) c.index_count.ensures c.write_count.ensures.text)
