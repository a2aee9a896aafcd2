-- An expression within its limits was read from the text.
use Rattle.std.proofs.Common.{◌≡◌, sym, true}
use Rattle.std.proofs.lemmas.Bool.{and_parts}
use Rattle.jp_model.specs.Query.Limits.{has_exact_integers, has_small_exponents}
use Rattle.jp_syntax.specs.Filters.{filter_by}
use Rattle.jp_syntax.specs.View.{logical_view}
use Rattle.jp_query.proofs.Alone.{filter_passes, well_formed_alone}
use Rattle.jp_query.proofs.SoundNumbers.{well_formed_sound}
use Rattle.jp_query.proofs.parser.conditions.answer.Goals as goal

pub new-requires-3 : goal.new-requires-3
new-requires-3 c =
    let l = logical_view c.in-Ok.expression in
    let exact : has_exact_integers (filter_by l) ≡ true = filter_passes l _ true (sym c.if-not-logical_passes.ensures) in
    let small : has_small_exponents (filter_by l) ≡ true = filter_passes l _ true (sym c.if-not-logical_passes-2.ensures) in
    let formed = well_formed_alone c.args.text.now l (sym c.if-is_oversized.ensures) c.in-Ok.ensures exact small in
    record { well_formed = ∣ formed ∣₁; sound = (and_parts _ _ (and_parts _ _ (well_formed_sound (filter_by l) formed)).0).0 }
