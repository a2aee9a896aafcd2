-- The front of the stream is held, or the pieces that ended are answered.
use Rattle.std.proofs.Common.{ℕ, List, [], ◌++◌, ap, false, inl, length}
use Rattle.jp_grep.specs.Faults.{is_inner_fault}
use Rattle.jp_grep.specs.Finding.{noted_items}
use Rattle.jp_grep.specs.Items.{Item}
use Rattle.jp_grep.specs.Stands.{Stands}
use Rattle.jp_grep.specs.declared.source.Source.TheVariants as sources
use Rattle.jp_grep.proofs.Advancing.{answers_none, handed_on, holds_at_ok, memory_no_size, not_of_front, numbers_tell, says_nothing, told_no_front}
use Rattle.jp_grep.proofs.LiftedPieces.{ended_come, first_come, in_pieces, pieces_of_it, read_of, refused_so, stand_before, stand_more}
use Rattle.jp_grep.proofs.answering.Answering.answer_pieces.Goals as goal

pub returns-in_err-take_in-clause-advances : goal.returns-in_err-take_in-clause-advances
returns-in_err-take_in-clause-advances g c =
    let q = c.args.answerer.question.now in
    let f = c.args.answerer.form.now in
    let units = f.units in
    let cutting = c.args.cutting.now in
    let bytes = c.args.bytes.now in
    let r = c.from_residual.result in
    let e = c.in_err-take_in.field-0.0 in
    record {
      items = [];
      answers = answers_none q f g.S.Sink.stands g.S.Sink.stopped g.E.Write.contents c.args.self.now.progress c.args.sink.now c.args.messages.now r c.requires.under_way;
      position = says_nothing _ r c.from_residual.ensures.0;
      first = λ came answered st. first_come units came cutting answered st false bytes;
      size = handed_on _ r e c.from_residual.ensures.1 (λ is. inl (c.in_err-take_in.ensures.size is));
      refused = handed_on _ r e c.from_residual.ensures.1 (λ front came answered st. let s = in_pieces units came cutting answered st in
          refused_so units came cutting answered st bytes e (c.in_err-take_in.ensures.taken (pieces_of_it units came cutting answered st) came s.handed s.at front));
    }

pub returns-then-cutting-clause-advances : goal.returns-then-cutting-clause-advances
returns-then-cutting-clause-advances g c =
    let q = c.args.answerer.question.now in
    let f = c.args.answerer.form.now in
    let units = f.units in
    let cutting = c.args.cutting.now in
    let bytes = c.args.bytes.now in
    record {
      items = [];
      answers = answers_none q f g.S.Sink.stands g.S.Sink.stopped g.E.Write.contents c.args.self.now.progress c.args.sink.now c.args.messages.now _ c.requires.under_way;
      position = λ came answered st. let s = in_pieces units came cutting answered st in
          stand_before units came cutting answered st c.take_in.new.self bytes (c.in_ok-take_in.ensures.taken (pieces_of_it units came cutting answered st) came s.handed s.at) c.if-cutting.true;
      first = λ came answered st. first_come units came cutting answered st false bytes;
      size = tt;
      refused = tt;
    }

pub returns-in_err-find_ended-clause-advances : goal.returns-in_err-find_ended-clause-advances
returns-in_err-find_ended-clause-advances g c =
    let q = c.args.answerer.question.now in
    let f = c.args.answerer.form.now in
    let units = f.units in
    let cutting = c.args.cutting.now in
    let bytes = c.args.bytes.now in
    let r = c.from_residual-in_err-find_ended.result in
    let e = c.in_err-find_ended.field-0.0 in
    record {
      items = [];
      answers = answers_none q f g.S.Sink.stands g.S.Sink.stopped g.E.Write.contents c.args.self.now.progress c.args.sink.now c.args.messages.now r c.requires.under_way;
      position = says_nothing _ r c.from_residual-in_err-find_ended.ensures.0;
      first = λ came answered st. first_come units came cutting answered st false bytes;
      size = handed_on _ r e c.from_residual-in_err-find_ended.ensures.1 (λ is. absurd (memory_no_size e c.in_err-find_ended.ensures.fault is));
      refused = not_of_front _ r e c.from_residual-in_err-find_ended.ensures.1 (ap is_inner_fault c.in_err-find_ended.ensures.fault);
    }

pub returns-clause-advances : goal.returns-clause-advances
returns-clause-advances g c =
    let q = c.args.answerer.question.now in
    let f = c.args.answerer.form.now in
    let units = f.units in
    let cutting = c.args.cutting.now in
    let taken = c.take_in.new.self in
    let noted = c.find_ended.new.self in
    let bytes = c.args.bytes.now in
    let r = c.answer_noted.result in
    let said = c.answer_noted.ensures in
    let is = λ (came : List ℕ) (answered : List Item) (st : Stands units came (sources.Pieces cutting) answered). c.in_ok-take_in.ensures.taken (pieces_of_it units came cutting answered st) came (in_pieces units came cutting answered st).handed (in_pieces units came cutting answered st).at in
    let found = λ (came : List ℕ) (answered : List Item) (st : Stands units came (sources.Pieces cutting) answered). c.in_ok-find_ended.ensures.found (pieces_of_it units came cutting answered st) (came ++ bytes) (in_pieces units came cutting answered st).handed
    (read_of units came cutting answered st taken bytes (is came answered st) c.if-cutting.false) in
    record {
      items = noted_items noted;
      answers = said.answers;
      position = holds_at_ok r (λ came answered st. stand_more units came cutting answered st taken noted bytes (is came answered st) c.if-cutting.false c.in_ok-find_ended.ensures.is_first (found came answered st));
      first = λ came answered st. ended_come units came cutting answered st noted bytes (found came answered st);
      size = numbers_tell r (sources.Pieces cutting) (length bytes) c.args.self.now.progress (noted_items noted) said.size;
      refused = told_no_front _ r said.tells.2;
    }
