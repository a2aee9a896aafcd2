-- Segments within their limits were read from the whole text.
use Rattle.std.proofs.Common.{◌≡◌, true, sym}
use Rattle.jp_model.specs.Query.Limits.{has_exact_integers, has_small_exponents}
use Rattle.jp_syntax.specs.View.{origin_view, segments_view}
use Rattle.jp_query.proofs.RelativeOutcomes.{well_formed_behind}
use Rattle.jp_query.proofs.SoundNumbers.{well_formed_sound}
use Rattle.jp_query.proofs.parser.answer.Goals as goal

pub new-requires-3 : goal.new-requires-3
new-requires-3 c =
    let q = segments_view c.in-Ok.segments.items in
    let exact : has_exact_integers q ≡ true = sym (rw c.deref.ensures.value at c.if-not-segments_pass.ensures) in
    let small : has_small_exponents q ≡ true = sym (rw c.deref-2.ensures.value at c.if-not-segments_pass-2.ensures) in
    let formed = well_formed_behind (origin_view c.args.origin) c.args.text.now q ((sym c.if-is_oversized.ensures, c.in-Ok.ensures), (exact, small)) in
    record { well_formed = ∣ formed ∣₁; sound = well_formed_sound q formed }
