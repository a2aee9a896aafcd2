-- The digits follow the words.
use Rattle.std.proofs.Common.{◌≡◌, ◌∙◌, decimal}
use Rattle.jp_devices.proofs.Chains.{ends_behind}
use Rattle.jp_rows.proofs.summary.write_counted.Goals as goal

pub returns-clause-text : goal.returns-clause-text
returns-clause-text g c =
    let number : c.as_bytes.result.now ≡ decimal c.args.count = c.as_bytes.ensures.value ∙ c.format.ensures.text in
    rw number at (ends_behind c.write_whole-2.result _ _ _ _ _ c.in_ok-write_whole.ensures.text c.write_whole-2.ensures.text)
