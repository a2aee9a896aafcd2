use Rattle.std.proofs.Common.{refl, sym, ap, ◌∙◌}
use Rattle.std.specs.List.{slice_get}
use Rattle.std.specs.Str.{IsUtf8}
use Rattle.jp_masks.specs.Found.{all_at}
use Rattle.jp_masks.proofs.LinesLaw.{line_stands, lines_stand, lines_utf8}
use Rattle.jp_masks.proofs.lines.Marks.line_is_utf8.Goals as goal

pub is_utf8_at-requires : goal.is_utf8_at-requires
is_utf8_at-requires c =
    let source = c.requires.source in
    let text = c.args.source.now in
    let stands = line_stands (λ bytes. Unit {0}) text (all_at source.framing text) c.args.k _ (lines_stand source.framing text) (ap (λ lines. slice_get lines c.args.k) (sym source.all.lines) ∙ c.line.ensures) in
    record { order = stands.order; within = stands.within }

pub returns-then-self : goal.returns-then-self
returns-then-self c line e =
    let source = c.requires.source in
    let text = c.args.source.now in
    let stands = line_stands IsUtf8 text (all_at source.framing text) c.args.k line (lines_utf8 source.framing text (source.all.utf8 c.if-self.true)) (ap (λ lines. slice_get lines c.args.k) (sym source.all.lines) ∙ e) in
    (λ told. stands.holds, λ is. refl)
