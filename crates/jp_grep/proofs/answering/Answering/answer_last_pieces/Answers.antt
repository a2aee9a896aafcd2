-- The pieces that the end of the stream leaves are the others.
use Rattle.std.proofs.Common.{◌∙◌, ◌+◌, ◌≤◌, ℕ, List, [], ◌++◌, ap, arith, inl, sym, append-nil, true}
use Rattle.jp_grep.specs.Finding.{noted_items}
use Rattle.jp_grep.specs.Items.{Item, items_come}
use Rattle.jp_grep.specs.Stands.{Stands}
use Rattle.jp_grep.specs.declared.source.Source.TheVariants as sources
use Rattle.jp_grep.proofs.Advancing.{answers_none, handed_on, holds_at_ok, not_of_front, numbers_tell, says_nothing, so_anyhow, told_no_front}
use Rattle.jp_grep.proofs.LiftedPieces.{all_come, first_come, framed_so, in_pieces, pieces_of_it}
use Rattle.jp_grep.proofs.answering.Answering.answer_last_pieces.Goals as goal

with_none : (most held : ℕ) → most ≤ held → most ≤ held + 0
with_none most held h = omega (arith, h)

pub returns-in_err-find_last-clause-ends : goal.returns-in_err-find_last-clause-ends
returns-in_err-find_last-clause-ends g c =
    let q = c.args.answerer.question.now in
    let f = c.args.answerer.form.now in
    let units = f.units in
    let cutting = c.args.cutting.now in
    let r = c.from_residual.result in
    record {
      items = [];
      answers = answers_none q f g.S.Sink.stands g.S.Sink.stopped g.E.Write.contents c.args.self.now.progress c.args.sink.now c.args.messages.now r c.requires.under_way;
      all = says_nothing _ r c.from_residual.ensures.0;
      first = λ came answered st. let first = first_come units came cutting answered st true [] in
          (first.0, ap (items_come units true) (sym (append-nil came)) ∙ first.1);
      framed = λ came answered st. so_anyhow _ r (framed_so units came cutting answered st);
      size = handed_on _ r c.in_err-find_last.field-0.0 c.from_residual.ensures.1 (λ is. inl (with_none _ _ (c.in_err-find_last.ensures.size is)));
      refused = not_of_front _ r c.in_err-find_last.field-0.0 c.from_residual.ensures.1 c.in_err-find_last.ensures.fault;
    }

pub returns-clause-ends : goal.returns-clause-ends
returns-clause-ends g c =
    let q = c.args.answerer.question.now in
    let f = c.args.answerer.form.now in
    let units = f.units in
    let cutting = c.args.cutting.now in
    let noted = c.find_last.new.self in
    let r = c.answer_noted.result in
    let said = c.answer_noted.ensures in
    let all = λ (came : List ℕ) (answered : List Item) (st : Stands units came (sources.Pieces cutting) answered). all_come units came cutting answered st noted
    (c.in_ok-find_last.ensures.found (pieces_of_it units came cutting answered st) came (in_pieces units came cutting answered st).handed (in_pieces units came cutting answered st).at) in
    record {
      items = noted_items noted;
      answers = said.answers;
      all = holds_at_ok r all;
      first = λ came answered st. ([], all came answered st ∙ sym (append-nil (answered ++ noted_items noted)));
      framed = λ came answered st. so_anyhow _ r (framed_so units came cutting answered st);
      size = numbers_tell r (sources.Pieces cutting) 0 c.args.self.now.progress (noted_items noted) said.size;
      refused = told_no_front _ r said.tells.2;
    }
