use Rattle.std.proofs.Common.{arith}
use Rattle.jp_iregexp.proofs.Rows.{rows_start, row_skip, row_add, rows_all}
use Rattle.jp_iregexp.proofs.tables.ends_in.Goals as goal
use Rattle.jp_iregexp.proofs.tables.ends_in.Goals.{then-contains+in_ok-add_all, else-contains}

pub loop-p-preserved : goal.loop-p-preserved
loop-p-preserved c =
    let rows = c.args.rows.now in
    let starts = c.args.starts.now in
    let n = c.loop-p.p in
    elim c.if-contains.branch [
      | then-contains+in_ok-add_all w ↦
          (let e = w.in_ok-add_all.ensures in
          rw w.out-is (row_add rows starts c.loop-p.out w.index-rows-p.result w.add_all.new.self n c.loop-p.invariant (c.contains.ensures.0 w.if-contains.true)
          (let short = c.loop-p-test.true in let min = c.min-p-end.ensures in omega (arith, short, min)) w.index-rows-p.is e.old e.added e.new))
      | else-contains w ↦
          (rw w.out-is (row_skip rows starts c.loop-p.out n c.loop-p.invariant (λ h. let yes = c.contains.ensures.1 h in let no = w.if-contains.false in cc)))
    ]

pub loop-p-init : goal.loop-p-init
loop-p-init c = rows_start c.low-low.result c.args.rows.now c.args.starts.now c.empty-out.result c.low-low.ensures c.empty-out.ensures

pub returns : goal.returns
returns c =
    let l = c.loop-p in
    let past = c.loop-p-test.false in
    let min = c.min-p-end.ensures in
    rows_all c.args.rows.now c.args.starts.now l.out l.p (λ p h inside. let high = c.high-high.ensures.above p h in omega (arith, past, min, high, inside)) l.invariant
