use Rattle.std.proofs.Common.{sym, ◌∙◌}
use Rattle.jp_tape.proofs.Ahead.{skips_white}
use Rattle.jp_tape.proofs.builder.scan.skip_white.Goals as goal

pub returns : goal.returns
returns c =
    let e = c.is_white_at.ensures in
    let w = c.if-not-is_white_at.false in
    let s = skips_white c.args.line.now c.args.marks.now c.args.from _ (e.inside w) (sym e.is ∙ w) c.requires.ahead c.first_mark.ensures.value in
    record { white = s.white; stops = s.stops; ahead = s.ahead }
