use Rattle.std.proofs.Common.{List, ℕ, take, drop, refl, sym, ap, subst, ◌∙◌}
use Rattle.std.proofs.lemmas.List.{take_rest}
use Rattle.jp_cut.specs.Passing.{Keeps}
use Rattle.jp_cut.proofs.Passing.{passed}
use Rattle.jp_cut.proofs.Reading.{read_on}
use Rattle.jp_cut.proofs.cutter.Cutter.pass_over.Goals as goal

pub returns-clause-read : goal.returns-clause-read
returns-clause-read c pieces stream handed h =
    let s = c.args.self.now in
    let p = c.pass_on-passed in
    let n = p.result.len in
    let rest = take_rest c.deref.result.now s.cut ∙ ap (λ (xs : List ℕ). drop s.cut xs) c.deref.ensures.value in
    read_on pieces stream handed s _ h c.requires c.requires
    (λ bytes cut. passed pieces bytes handed s _ n cut
    (subst (λ (xs : List ℕ). Keeps s.pieces s.known (take n xs) p.result.known) rest p.ensures.keeps) refl refl refl refl refl)
