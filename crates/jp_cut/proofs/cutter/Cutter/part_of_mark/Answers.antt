use Rattle.std.proofs.Common.{◌≡◌, length, arith, sym, ap, subst, ◌∙◌}
use Rattle.std.proofs.lemmas.Bool.{eqb-true, eq-eqb}
use Rattle.jp_cut.specs.declared.cutter.PieceAt.{PieceAt}
use Rattle.std.proofs.Common.{ℕ, List, true}
use Rattle.std.specs.Prelude.{vec_len}
use Rattle.jp_cut.specs.Cuts.{Piece, pieces_come}
use Rattle.jp_cut.specs.Holding.{HandsOut}
use Rattle.jp_cut.proofs.Reading.{no_part, a_part, not_both}
use Rattle.jp_cut.proofs.cutter.Cutter.part_of_mark.Goals as goal

pub returns-then-is_empty-clause-last : goal.returns-then-is_empty-clause-last
returns-then-is_empty-clause-last c pieces stream handed h =
    no_part pieces stream handed c.args.self.now h c.requires.front (omega (arith, eqb-true (vec_len c.args.self.now.held) 0 (sym c.is_empty.ensures ∙ c.if-is_empty.true)))

pub returns-clause-last : goal.returns-clause-last
returns-clause-last c pieces stream handed h =
    let s = c.args.self.now in
    let at = λ (n : ℕ). let made : PieceAt = record { start = 0; end = n; is_closed = true; line_feeds = 0 } in made in
    subst (λ (x : PieceAt). HandsOut (λ (now : List Piece). pieces_come pieces true stream ≡ now) handed s x) (ap at (let n : length s.held.items ≡ c.len.result = omega (arith, c.len.ensures) in n))
    (a_part pieces stream handed s h c.requires.front c.requires.part
    (λ e. not_both c.is_empty.result (c.is_empty.ensures ∙ eq-eqb (vec_len s.held) 0 (omega (arith, e))) c.if-is_empty.false))
