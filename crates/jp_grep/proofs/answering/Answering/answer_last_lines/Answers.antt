-- The stream is not framed, or the lines of what is held are the others.
use Rattle.std.proofs.Common.{◌≡◌, ◌∙◌, ℕ, List, [], ◌++◌, ap, arith, map, subst, sym, take, append-nil, false, true}
use Rattle.std.proofs.lemmas.List.{take_all}
use Rattle.jp_model.specs.Lines.{is_framed}
use Rattle.jp_masks.specs.Found.{lines_in}
use Rattle.jp_grep.specs.Cuts.{text_of}
use Rattle.jp_grep.specs.Faults.{is_front_fault}
use Rattle.jp_grep.specs.Items.{Item, items_come, line_item}
use Rattle.jp_grep.specs.Searching.{Answers}
use Rattle.jp_grep.specs.Sizes.{TellsOfNumbers}
use Rattle.jp_grep.specs.Stands.{Stands}
use Rattle.jp_grep.specs.declared.fault.SearchFault.TheVariants as faults
use Rattle.jp_grep.specs.declared.source.Source.TheVariants as sources
use Rattle.jp_grep.proofs.Advancing.{answers_none, handed_on, holds_at_ok, numbers_tell, says_nothing, so_anyhow, told_no_front}
use Rattle.jp_grep.proofs.Lifted.{all_lines, framed_so, in_lines, none_answered, unframed_so}
use Rattle.jp_grep.proofs.Position.{all_answered, ends_as_lines}
use Rattle.jp_grep.proofs.SoFar.{handed}
use Rattle.jp_grep.proofs.answering.Answering.answer_last_lines.Goals as goal

apart : true ≡ false → ⊥
apart h = cc

framing_no_size : faults.Framing ≡ faults.Size → ⊥
framing_no_size h = cc

pub returns-in_err-check_end-clause-ends : goal.returns-in_err-check_end-clause-ends
returns-in_err-check_end-clause-ends g c =
    let q = c.args.answerer.question.now in
    let f = c.args.answerer.form.now in
    let units = f.units in
    let stream = c.args.stream.now in
    let r = c.from_residual.result in
    let e = c.in_err-check_end.field-0.0 in
    let said = c.in_err-check_end.ensures in
    record {
      items = [];
      answers = answers_none q f g.S.Sink.stands g.S.Sink.stopped g.E.Write.contents c.args.self.now.progress c.args.sink.now c.args.messages.now r c.requires.under_way;
      all = says_nothing _ r c.from_residual.ensures.0;
      first = λ came answered st. (items_come units true came, sym (ap (λ l. (l ++ []) ++ items_come units true came) (none_answered units came stream answered st said.1).0));
      framed = λ came answered st. handed _ _ r e c.from_residual.ensures.1 (λ other. absurd (apart (sym (ap is_front_fault said.0) ∙ other)));
      size = handed_on _ r e c.from_residual.ensures.1 (λ is. absurd (framing_no_size (sym said.0 ∙ is)));
      refused = handed_on _ r e c.from_residual.ensures.1 (λ front. (
        said.0,
        λ came answered st. let none = none_answered units came stream answered st said.1 in
            (none.0, none.1, unframed_so units came stream answered st (ap (is_framed stream.framing) (sym none.2) ∙ said.2)),
      ));
    }

pub returns-clause-ends : goal.returns-clause-ends
returns-clause-ends g c =
    let q = c.args.answerer.question.now in
    let f = c.args.answerer.form.now in
    let units = f.units in
    let stream = c.args.stream.now in
    let framing = stream.framing in
    let r = c.answer_until.result in
    let said = c.answer_until.ensures in
    let whole : take c.len.result stream.held.items ≡ stream.held.items = take_all c.len.result stream.held.items (omega (arith, c.len.ensures, stream.held.ok)) in
    let lines = lines_in framing (text_of stream.is_first stream.held.items) in
    let all = λ (came : List ℕ) (answered : List Item) (st : Stands units came (sources.Lines stream) answered). all_lines units came stream answered st lines
    (all_answered framing came stream.held.items (in_lines units came stream answered st).lines stream.is_first (in_lines units came stream answered st).at) in
    record {
      items = map (line_item framing) lines;
      answers = subst (λ (l : List ℕ). Answers g.S.Sink.stands g.S.Sink.stopped g.E.Write.contents q f c.args.self.now.progress c.answer_until.new.self.progress c.args.sink.now c.answer_until.new.sink c.args.messages.now c.answer_until.new.messages r
          (map (line_item framing) (lines_in framing (text_of stream.is_first l)))) whole said.answers;
      all = holds_at_ok r all;
      first = λ came answered st. ([], all came answered st ∙ sym (append-nil (answered ++ map (line_item framing) lines)));
      framed = λ came answered st. so_anyhow _ r (framed_so units came stream answered st
          (ends_as_lines framing came stream.held.items (in_lines units came stream answered st).lines stream.is_first (in_lines units came stream answered st).at c.in_ok-check_end.ensures));
      size = numbers_tell r (sources.Lines stream) 0 c.args.self.now.progress (map (line_item framing) lines)
          (subst (λ (l : List ℕ). TellsOfNumbers r c.args.self.now.progress (map (line_item framing) (lines_in framing (text_of stream.is_first l)))) whole said.size);
      refused = told_no_front _ r said.tells.2;
    }
