-- Each turn joins the next row with the one before it, or keeps that one.
use Rattle.std.proofs.Common.{[], ◌++◌, ◌≡◌, ◌<◌, ◌+◌, ◌∙◌, List, ap, sym, arith, drop, get_or, length}
use Rattle.std.proofs.lemmas.Grind.{common_steps}
use Rattle.jp_tally.specs.Counting.{entries_of, entries_of_counted, joined, lead}
use Rattle.jp_tally.specs.Tallies.{Entry}
use Rattle.jp_tally.specs.declared.counted.Counted.{Counted}
use Rattle.jp_tally.proofs.Joining.{entry, turn_other, turn_same}
use Rattle.jp_tally.proofs.Listing.{listed_more}
use Rattle.jp_tally.proofs.counting.join_rows.Goals as goal
use Rattle.jp_tally.proofs.counting.join_rows.Goals.{then-eq+in_ok-current, else-eq+in_ok-push}

pub loop-next-preserved : goal.loop-next-preserved
loop-next-preserved c =
    let others = c.in-Some.others.now in
    let i = c.loop-next.next-index in
    let d : Counted = record { row = record { ref_ptr = (0, 0); now = [] }; count = 0 } in
    let before = c.loop-next.current in
    let rest = joined (entries_of_counted (drop (i + 1) others)) in
    let within : i < length others = omega arith in
    elim c.if-eq.branch [
      | then-eq+in_ok-current w ↦
          let total : w.in_ok-current.field-0 ≡ before.count + (get_or others i d).count = grind (arith, common_steps, w.checked_add.ensures, w.ok_or.ensures.value) in
          let turn = turn_same others i d before.row.now before.count w.in_ok-current.field-0 within (sym c.eq.ensures ∙ w.if-eq.true) total in
          rw (w.current-is, w.rows-is) (ap (λ (l : List Entry). entries_of c.loop-next.rows ++ l) (sym turn) ∙ c.loop-next.invariant)
      | else-eq+in_ok-push w ↦
          let next = get_or others i d in
          let turn = turn_other others i d before.row.now before.count within (sym c.eq.ensures ∙ w.if-eq.false) in
          rw (w.current-is, w.rows-is) (listed_more (entries_of c.loop-next.rows) (entries_of w.push.new.self) (entry before.row.now before.count)
          (lead (entry before.row.now before.count) (joined (entries_of_counted (drop i others)))) (lead (entry next.row.now next.count) rest) _ c.loop-next.invariant turn w.in_ok-push.ensures.pushed)
    ]
