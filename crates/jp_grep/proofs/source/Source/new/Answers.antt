-- No byte came.
use Rattle.std.proofs.Common.{[], ℕ, List, ap, arith, length, refl, subst, sym, true, Bool}
use Rattle.jp_form.specs.declared.form.Units.{Units}
use Rattle.jp_grep.specs.Positions.{IsAt}
use Rattle.jp_grep.specs.Stands.{Stands}
use Rattle.jp_grep.specs.declared.source.Source.TheVariants as sources
use Rattle.jp_grep.proofs.Position.{at_front}
use Rattle.jp_grep.proofs.source.Source.new.Goals as goal

pub returns-in-Lines : goal.returns-in-Lines
returns-in-Lines c =
    let framing = c.in-Lines.framing in
    let stream = c.new.result in
    let said = c.new.ensures in
    subst (λ (u : Units). Stands u [] (sources.Lines stream) []) (sym c.in-Lines.is) (record {
      lines = [];
      items = refl;
      at = subst (λ (b : Bool). IsAt framing [] stream.held.items [] b) (sym said.first) (subst (λ (l : List ℕ). IsAt framing [] l [] true) (sym said.held) (at_front framing));
      framed = said.framing;
      few = omega (arith, ap length said.held);
    })
