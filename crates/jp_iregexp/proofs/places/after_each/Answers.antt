use Rattle.std.proofs.Common.{◌≡◌, get_or, arith, sym, ◌∙◌}
use Rattle.std.proofs.lemmas.List.{get_or_read}
use Rattle.jp_iregexp.proofs.Alone.{after_none, after_insert, after_skip, after_all}
use Rattle.jp_iregexp.proofs.places.after_each.Goals as goal
use Rattle.jp_iregexp.proofs.places.after_each.Goals.{then-text-p+in_ok-insert, else-text-p}

pub loop-p-init : goal.loop-p-init
loop-p-init c = after_none c.args.text.now c.args.scalar c.empty-after.result c.empty-after.ensures

pub loop-p-preserved : goal.loop-p-preserved
loop-p-preserved c =
    let text = c.args.text.now in
    let l = c.loop-p in
    let read : c.index-text-p.result ≡ get_or text l.p 0 = get_or_read text l.p c.index-text-p.result c.loop-p-test.true c.index-text-p.is 0 in
    elim c.if-text-p.branch [
      | then-text-p+in_ok-insert w ↦
          (let e = w.in_ok-insert.ensures in
          rw w.after-is (after_insert text c.args.scalar l.p l.after w.insert.new.self l.invariant (sym read ∙ w.if-text-p.true) e.same e.old e.new))
      | else-text-p w ↦ rw w.after-is (after_skip text c.args.scalar l.p l.after l.invariant (λ i. w.if-text-p.false (read ∙ i)))
    ]

pub returns : goal.returns
returns c = after_all c.args.text.now c.args.scalar c.loop-p.p c.loop-p.after (omega (arith, c.loop-p-test.false, c.loop-p.auto.p-end)) c.loop-p.invariant
