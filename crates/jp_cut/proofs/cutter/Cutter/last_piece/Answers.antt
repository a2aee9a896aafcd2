use Rattle.std.proofs.Common.{Bool, ap}
use Rattle.jp_cut.proofs.Reading.{no_last, last_word, last_other}
use Rattle.jp_cut.specs.declared.cutter.PieceAt.{PieceAt}
use Rattle.jp_cut.proofs.cutter.Cutter.last_piece.Goals as goal
use Rattle.jp_cut.proofs.cutter.Cutter.last_piece.Goals.{in-Word, in_default}

pub returns-in-Between-clause-last : goal.returns-in-Between-clause-last
returns-in-Between-clause-last c pieces stream handed h = no_last pieces stream handed c.args.self.now h c.if-self.false (c.requires.behind_front c.if-self.false) c.in-Between.is

pub returns-clause-last : goal.returns-clause-last
returns-clause-last c pieces stream handed h =
    let s = c.args.self.now in
    let at = λ (b : Bool). let made : PieceAt = record { start = s.start; end = s.cut; is_closed = b; line_feeds = s.line_feeds } in made in
    let front = c.if-self.false in
    elim c.match-self.branch [
      | in-Word w ↦ last_word pieces stream handed s h front (c.requires.behind_front front) _ (ap at w.is_closed-is) w.in-Word.is
      | in_default w ↦ last_other pieces stream handed s h front (c.requires.behind_front front) _ (ap at w.is_closed-is) w.in_default.not-Between w.in_default.not-Word
    ]
