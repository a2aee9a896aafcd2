use Rattle.std.proofs.Common.{ℕ, ◌+◌, Vec, Global, get_or, sym, subst, take, arith}
use Rattle.std.proofs.lemmas.List.{take_all, take_more}
use Rattle.jp_iregexp.specs.declared.branches.First.{First}
use Rattle.jp_iregexp.specs.Branches.{AreTold, IsFirst}
use Rattle.jp_iregexp.proofs.Branching.{told_first, told_other}
use Rattle.jp_iregexp.proofs.Layouts.{some_of}
use Rattle.jp_iregexp.proofs.entries.Entries.told_apart.Goals.{in-Some+in_ok-push-in-Some, in-None+in_ok-push-in-None}
use Rattle.jp_iregexp.proofs.entries.Entries.told_apart.Goals as goal

pub loop-branch-preserved : goal.loop-branch-preserved
loop-branch-preserved c =
    let l = c.loop-branch in
    let states = c.args.self.now.states.items in
    let base = c.args.base in
    let branches = c.args.branches.now in
    let before = take l.branch-index branches in
    let branch = get_or branches l.branch-index 0 in
    let cut = take_more branches l.branch-index 0 c.loop-branch-test.true in
    elim c.match-first.branch [
      | in-Some+in_ok-push-in-Some w ↦
          subst (λ (v : Vec First Global). AreTold states base (take (l.branch-index + 1) branches) v.items c.match-first.others.items) (sym w.firsts-is)
          (subst (λ (v : Vec ℕ Global). AreTold states base (take (l.branch-index + 1) branches) w.push.new.self.items v.items) (sym w.others-is)
          (subst (λ bs. AreTold states base bs w.push.new.self.items l.others.items) (sym cut)
          (told_first states base before l.firsts.items w.push.new.self.items l.others.items branch w.in-Some.first w.in_ok-push-in-Some.ensures.items
          (some_of (λ (f : First). IsFirst states base branch f) c.first.result w.in-Some.first w.in-Some.is c.first.ensures) l.invariant)))
      | in-None+in_ok-push-in-None w ↦
          subst (λ (v : Vec First Global). AreTold states base (take (l.branch-index + 1) branches) v.items c.match-first.others.items) (sym w.firsts-is)
          (subst (λ (v : Vec ℕ Global). AreTold states base (take (l.branch-index + 1) branches) l.firsts.items v.items) (sym w.others-is)
          (subst (λ bs. AreTold states base bs l.firsts.items w.push-in-None.new.self.items) (sym cut)
          (told_other states base before l.firsts.items l.others.items w.push-in-None.new.self.items branch w.in_ok-push-in-None.ensures.items l.invariant)))
    ]

pub returns : goal.returns
returns c =
    let l = c.loop-branch in
    subst (λ bs. AreTold c.args.self.now.states.items c.args.base bs l.firsts.items l.others.items) (take_all l.branch-index c.args.branches.now (omega arith)) l.invariant
