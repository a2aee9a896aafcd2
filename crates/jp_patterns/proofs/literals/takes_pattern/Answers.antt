-- The name is the first of the two, or as the second.
use Rattle.std.proofs.Common.{◌∙◌, Bool, ap, codes, refl, sym}
use Rattle.std.specs.Prelude.{◌||◌}
use Rattle.std.specs.Str.{chars}
use lib.Utf8.{encode}
use Rattle.jp_model.specs.Characters.{text_equal}
use Rattle.jp_patterns.proofs.Names.{word_same}
use Rattle.jp_patterns.proofs.literals.takes_pattern.Goals as goal

pub returns-then-eq : goal.returns-then-eq
unfolding chars encode
returns-then-eq c =
    let first = c.eq.ensures ∙ word_same c.args.name.now (codes "match") c.utf8.name refl refl in
    c.if-eq.true ∙ sym (ap (λ (b : Bool). b || text_equal (chars c.args.name.now) (codes "search")) (sym first ∙ c.if-eq.true))

pub returns-else-eq : goal.returns-else-eq
unfolding chars encode
returns-else-eq c =
    let first = c.eq.ensures ∙ word_same c.args.name.now (codes "match") c.utf8.name refl refl in
    let second = c.eq-else-eq.ensures ∙ word_same c.args.name.now (codes "search") c.utf8.name refl refl in
    second ∙ sym (ap (λ (b : Bool). b || text_equal (chars c.args.name.now) (codes "search")) (sym first ∙ c.if-eq.false))
