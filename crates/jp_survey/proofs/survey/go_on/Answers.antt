-- The line goes on, or another begins.
use Rattle.std.proofs.Common.{◌≡◌, ◌∙◌, ℕ, ap, eqb, refl, subst, sym}
use Rattle.std.specs.Option.{option_eq}
use Rattle.std.specs.Prelude.{Option, Some}
use Rattle.std.proofs.lemmas.Bool.{eq-eqb, false≢true}
use Rattle.jp_survey.specs.Paths.{Line}
use Rattle.jp_survey.specs.Seen.{HasBegun}
use Rattle.jp_survey.specs.Told.{lines_before}
use Rattle.jp_survey.proofs.Lines.{line_is_new}
use Rattle.jp_survey.proofs.survey.go_on.Goals as goal

pub returns-clause-begun : goal.returns-clause-begun
returns-clause-begun c fold told h =
    let next = c.args.next in let tree = c.begin_line.new.self in
    let apart : c.args.number.now ≡ Some next → ⊥ = λ e. false≢true (sym c.if-eq.false ∙ (c.eq.ensures ∙ (ap (λ (n : Option ℕ). option_eq eqb n (Some next)) e ∙ eq-eqb next next refl))) in
    let fresh = line_is_new fold told c.args.number.now next c.args.tree.now apart h in
    subst (λ (line : Line). HasBegun fold (lines_before told next) line tree) (sym fresh.1) (c.in_ok-begin_line.ensures.begun fold (lines_before told next) fresh.0)
