use Rattle.std.proofs.Common.{ℕ, ◌+◌, Vec, Global, get_or, sym, subst, take, arith}
use Rattle.std.proofs.lemmas.List.{take_all, take_more}
use Rattle.jp_iregexp.specs.declared.branches.First.{First}
use Rattle.jp_iregexp.specs.Branches.{IsRow}
use Rattle.jp_iregexp.proofs.Branching.{row_none, row_take, row_skip}
use Rattle.jp_iregexp.proofs.branches.row.Goals.{then-first-code+in_ok-push, else-first-code}
use Rattle.jp_iregexp.proofs.branches.row.Goals as goal

pub loop-first-init : goal.loop-first-init
loop-first-init c = subst (IsRow _ c.args.code) (sym c.new-row.ensures.items) (row_none c.args.code)

pub loop-first-preserved : goal.loop-first-preserved
loop-first-preserved c =
    let l = c.loop-first in
    let firsts = c.args.firsts.now in
    let code = c.args.code in
    let none : First = record { scalar = 0; next = 0 } in
    let before = take l.first-index firsts in
    let first = get_or firsts l.first-index none in
    let cut = take_more firsts l.first-index none c.loop-first-test.true in
    elim c.if-first-code.branch [
      | then-first-code+in_ok-push w ↦ subst (λ (v : Vec ℕ Global). IsRow (take (l.first-index + 1) firsts) code v.items) (sym w.row-is)
          (subst (λ fs. IsRow fs code w.push.new.self.items) (sym cut) (row_take before code l.row.items w.push.new.self.items first w.if-first-code.true w.in_ok-push.ensures.items l.invariant))
      | else-first-code w ↦ subst (λ (v : Vec ℕ Global). IsRow (take (l.first-index + 1) firsts) code v.items) (sym w.row-is)
          (subst (λ fs. IsRow fs code l.row.items) (sym cut) (row_skip before code l.row.items first w.if-first-code.false l.invariant))
    ]

pub returns : goal.returns
returns c =
    let l = c.loop-first in
    subst (λ fs. IsRow fs c.args.code l.row.items) (take_all l.first-index c.args.firsts.now (omega arith)) l.invariant
