use Rattle.jp_tape.proofs.Ahead.{skips_to_mark}
use Rattle.jp_tape.proofs.builder.scan.next_token.Goals as goal

pub returns : goal.returns
returns c =
    let r = c.requires in
    let s = skips_to_mark c.args.line.now c.args.marks.now c.args.from _ r.within r.begins r.ahead c.first_mark.ensures.value in
    record { white = s.white; stops = s.stops; ahead = s.ahead; inside = c.first_mark.ensures.inside c.args.from r.ahead; next = record { ahead = s.ahead; first = c.first_mark.ensures.value } }
