-- Each turn takes one more piece of the text, and the writer goes on working.
use Rattle.std.proofs.Common.{ap, ◌∙◌}
use Rattle.jp_devices.specs.Devices.{one_more_where}
use Rattle.jp_devices.proofs.Chains.{both_received}
use Rattle.jp_devices.proofs.Transfers.{still_working, first_taken, taken_within}
use Rattle.jp_devices.proofs.whole.write_whole.Goals as goal

pub loop-at-preserved : goal.loop-at-preserved
loop-at-preserved g c =
    let promised = c.in-Ok.ensures in
    record {
      within = taken_within _ _ _ c.loop-at.invariant.within promised.bound;
      early = promised.after ∙ (ap (λ b. one_more_where b c.loop-at.out.after) c.loop-at.invariant.working ∙ c.loop-at.invariant.early);
      working = still_working _ _ c.in-Ok.taken _ promised.failed c.loop-at.invariant.working c.if-taken-eq0.false;
      written = rw (first_taken c.loop-at.at c.in-Ok.taken c.args.text.now) (both_received _ _ _ _ _ c.loop-at.invariant.written (record { taken = promised.taken; held = promised.bytes }));
    }
