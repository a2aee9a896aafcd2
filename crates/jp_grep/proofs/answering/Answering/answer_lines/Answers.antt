-- No line ends among the bytes, or those in front of the cut are answered.
use Rattle.std.proofs.Common.{◌≡◌, ◌∙◌, ◌+◌, ◌<◌, ℕ, List, [], ◌++◌, ap, arith, drop, length, map, subst, sym, take, take-append-drop, append-nil, length-drop, false, true, Bool, Ok, Err, inl, inr, ◌≤◌, ◌^◌}
use Rattle.std.proofs.Math.Seq.{take-append-add, drop-append-add}
use Rattle.jp_model.specs.declared.Framing.{Framing}
use Rattle.jp_masks.specs.Found.{lines_in}
use Rattle.jp_grep.specs.Cuts.{HasNoEnd, text_of}
use Rattle.jp_grep.specs.Items.{Item, line_item}
use Rattle.jp_grep.specs.Positions.{IsAt}
use Rattle.jp_grep.specs.Searching.{Answers}
use Rattle.jp_grep.specs.Fronts.{AreRefused, MayGoOn}
use Rattle.jp_grep.proofs.Advancing.{all_first, answers_in_part, answers_none, front_no_size, handed_on, held_refused, none_first, not_of_front, other_no_front, says_nothing}
use Rattle.jp_grep.proofs.Lifted.{first_more, front_goes, in_lines, refused_more, stand_more}
use Rattle.jp_grep.proofs.Position.{cut_off, held_more}
use Rattle.jp_grep.proofs.answering.Answering.answer_lines.Goals as goal

module _ (held piece : List ℕ) (from end : ℕ) (now : List ℕ) (is : from ≡ length held) (grown : now ≡ held ++ piece) where
  front_is : take (from + end) now ≡ held ++ take end piece
  front_is = ap (take (from + end)) grown ∙ ap (λ n. take (n + end) (held ++ piece)) is ∙ take-append-add held piece end

  rest_is : drop (from + end) now ≡ drop end piece
  rest_is = ap (drop (from + end)) grown ∙ ap (λ n. drop (n + end) (held ++ piece)) is ∙ drop-append-add held piece end

-- the lines of what is held now are those of what was held and came
read_as : (now_framing framing : Framing) (now_first first : Bool) (now front : List ℕ) → now_framing ≡ framing → now_first ≡ first → now ≡ front
    → map (line_item now_framing) (lines_in now_framing (text_of now_first now)) ≡ map (line_item framing) (lines_in framing (text_of first front))
read_as now_framing framing now_first first now front f b l = cc

-- what was held before stands in front
front_held : (held bytes : List ℕ) (from : ℕ) (now : List ℕ) → from ≡ length held → now ≡ held ++ bytes → take from now ≡ held
front_held held bytes from now is grown = ap (take from) grown ∙ ap (λ n. take n (held ++ bytes)) (is ∙ plus_none (length held)) ∙ take-append-add held bytes 0 ∙ append-nil held
  where
    plus_none : (n : ℕ) → n ≡ n + 0
    plus_none n = omega arith

pub check_front-requires-clause-before : goal.check_front-requires-clause-before
check_front-requires-clause-before g c = λ first.
    let stood = c.requires.stands in
    let stream = c.args.stream.now in
    let goes = front_goes c.args.answerer.form.now.units stood.came stream stood.answered stood.stands (sym c.in_ok-hold.ensures.first ∙ first) in
    subst (λ (f : Framing). MayGoOn f (take c.len-from.result c.hold.new.self.held.items)) (sym c.in_ok-hold.ensures.framing)
    (subst (λ l. MayGoOn stream.framing l) (sym (front_held stream.held.items c.args.bytes.now c.len-from.result c.hold.new.self.held.items (let n : c.len-from.result ≡ length stream.held.items = omega (arith, c.len-from.ensures, stream.held.ok) in n) c.in_ok-hold.ensures.held)) goes.0)

pub check_front-requires-clause-unended : goal.check_front-requires-clause-unended
check_front-requires-clause-unended g c = λ first.
    let stood = c.requires.stands in
    let stream = c.args.stream.now in
    let goes = front_goes c.args.answerer.form.now.units stood.came stream stood.answered stood.stands (sym c.in_ok-hold.ensures.first ∙ first) in
    subst (λ (f : Framing). HasNoEnd f (take c.len-from.result c.hold.new.self.held.items)) (sym c.in_ok-hold.ensures.framing)
    (subst (λ l. HasNoEnd stream.framing l) (sym (front_held stream.held.items c.args.bytes.now c.len-from.result c.hold.new.self.held.items (let n : c.len-from.result ≡ length stream.held.items = omega (arith, c.len-from.ensures, stream.held.ok) in n) c.in_ok-hold.ensures.held)) goes.1)

pub returns-in_err-hold-clause-advances : goal.returns-in_err-hold-clause-advances
returns-in_err-hold-clause-advances g c =
    let q = c.args.answerer.question.now in
    let f = c.args.answerer.form.now in
    let units = f.units in
    let stream = c.args.stream.now in
    let framing = stream.framing in
    let bytes = c.args.bytes.now in
    let r = c.from_residual.result in
    record {
      items = [];
      answers = answers_none q f g.S.Sink.stands g.S.Sink.stopped g.E.Write.contents c.args.self.now.progress c.args.sink.now c.args.messages.now r c.requires.under_way;
      position = says_nothing _ r c.from_residual.ensures.0;
      first = λ came answered st. let s = in_lines units came stream answered st in
          let none = none_first framing came stream.held.items bytes s.lines stream.is_first s.at in
          first_more units came stream answered st bytes [] none.0 none.1;
      size = handed_on _ r c.in_err-hold.field-0.0 c.from_residual.ensures.1 (λ is. inl (c.in_err-hold.ensures.size is));
      refused = not_of_front _ r c.in_err-hold.field-0.0 c.from_residual.ensures.1 c.in_err-hold.ensures.fault;
    }

pub returns-in_err-check_front-clause-advances : goal.returns-in_err-check_front-clause-advances
returns-in_err-check_front-clause-advances g c =
    let q = c.args.answerer.question.now in
    let f = c.args.answerer.form.now in
    let units = f.units in
    let stream = c.args.stream.now in
    let framing = stream.framing in
    let bytes = c.args.bytes.now in
    let held = c.in_ok-hold.ensures.held in
    let first = c.in_ok-hold.ensures.first in
    let said = c.in_err-check_front.ensures in
    let e = c.in_err-check_front.field-0.0 in
    let r = c.from_residual-in_err-check_front.result in
    let refused = subst (λ framing. AreRefused framing (stream.held.items ++ bytes) e) c.in_ok-hold.ensures.framing
    (subst (λ l. AreRefused c.hold.new.self.framing l e) held said.1) in
    record {
      items = [];
      answers = answers_none q f g.S.Sink.stands g.S.Sink.stopped g.E.Write.contents c.args.self.now.progress c.args.sink.now c.args.messages.now r c.requires.under_way;
      position = says_nothing _ r c.from_residual-in_err-check_front.ensures.0;
      first = λ came answered st. let s = in_lines units came stream answered st in
          let none = none_first framing came stream.held.items bytes s.lines stream.is_first s.at in
          first_more units came stream answered st bytes [] none.0 none.1;
      size = handed_on _ r e c.from_residual-in_err-check_front.ensures.1 (λ is. absurd (front_no_size e said.2 is));
      refused = handed_on _ r e c.from_residual-in_err-check_front.ensures.1
          (λ front came answered st. let s = in_lines units came stream answered st in
          refused_more units came stream answered st bytes e (held_refused framing came stream.held.items bytes s.lines stream.is_first e (sym first ∙ said.0) refused s.at));
    }

-- what is held goes on as lines
module _ (framing : Framing) (held piece : List ℕ) (now_framing : Framing) (now : List ℕ) (before after : Bool) (same : now_framing ≡ framing) (grown : now ≡ held ++ piece) (first : after ≡ before) (goes : after ≡ true → MayGoOn now_framing now) where
  goes_so : before ≡ true → MayGoOn framing (held ++ piece)
  goes_so e = subst (λ f. MayGoOn f (held ++ piece)) same (subst (λ l. MayGoOn now_framing l) grown (goes (first ∙ e)))

pub returns-in-None-clause-advances : goal.returns-in-None-clause-advances
returns-in-None-clause-advances g c =
    let q = c.args.answerer.question.now in
    let f = c.args.answerer.form.now in
    let units = f.units in
    let stream = c.args.stream.now in
    let framing = stream.framing in
    let bytes = c.args.bytes.now in
    let now = c.hold.new.self in
    let held = c.in_ok-hold.ensures.held in
    let first = c.in_ok-hold.ensures.first in
    let goes = goes_so framing stream.held.items bytes now.framing now.held.items stream.is_first now.is_first c.in_ok-hold.ensures.framing held first c.in_ok-check_front.ensures in
    record {
      items = [];
      answers = answers_none q f g.S.Sink.stands g.S.Sink.stopped g.E.Write.contents c.args.self.now.progress c.args.sink.now c.args.messages.now _ c.requires.under_way;
      position = λ came answered st. let s = in_lines units came stream answered st in
          stand_more units came stream answered st now bytes []
          (subst (λ (ls : List (List ℕ)). IsAt framing (came ++ bytes) now.held.items ls now.is_first) (sym (append-nil s.lines))
          (subst (λ (b : Bool). IsAt framing (came ++ bytes) now.held.items s.lines b) (sym first)
          (subst (λ (l : List ℕ). IsAt framing (came ++ bytes) l s.lines stream.is_first) (sym held) (held_more framing came stream.held.items bytes s.lines stream.is_first c.in-None.ensures goes s.at))))
          c.in_ok-hold.ensures.framing c.in_ok-hold.ensures.few;
      first = λ came answered st. let s = in_lines units came stream answered st in
          let none = none_first framing came stream.held.items bytes s.lines stream.is_first s.at in
          first_more units came stream answered st bytes [] none.0 none.1;
      size = tt;
      refused = tt;
    }

pub returns-in_err-answer_until-in-Some-clause-advances : goal.returns-in_err-answer_until-in-Some-clause-advances
returns-in_err-answer_until-in-Some-clause-advances g c =
    let q = c.args.answerer.question.now in
    let f = c.args.answerer.form.now in
    let units = f.units in
    let stream = c.args.stream.now in
    let framing = stream.framing in
    let bytes = c.args.bytes.now in
    let end = c.in-Some.end in
    let from : c.len-from.result ≡ length stream.held.items = omega (arith, c.len-from.ensures, stream.held.ok) in
    let before = c.args.self.now.progress in
    let after = c.answer_until.new.self.progress in
    let now = c.hold.new.self in
    let r = c.from_residual-in_err-answer_until-in-Some.result in
    let e = c.in_err-answer_until-in-Some.field-0.0 in
    let front = front_is stream.held.items bytes c.len-from.result end now.held.items from c.in_ok-hold.ensures.held in
    let cut = c.in-Some.ensures.1 in
    let whole = sym (take-append-drop end bytes) in
    let lines = lines_in framing (text_of stream.is_first (stream.held.items ++ take end bytes)) in
    let said = c.in_err-answer_until-in-Some.ensures in
    let same = read_as now.framing framing now.is_first stream.is_first _ _ c.in_ok-hold.ensures.framing c.in_ok-hold.ensures.first front in
    let answers = subst (λ (ls : List Item). Answers g.S.Sink.stands g.S.Sink.stopped g.E.Write.contents q f before after c.args.sink.now c.answer_until.new.sink c.args.messages.now c.answer_until.new.messages (Err e) ls) same said.answers in
    record {
      items = map (line_item framing) lines;
      answers = answers_in_part q f before after c.args.sink.now c.answer_until.new.sink c.args.messages.now c.answer_until.new.messages _ _ r c.from_residual-in_err-answer_until-in-Some.ensures.0 c.from_residual-in_err-answer_until-in-Some.ensures.1 answers;
      position = says_nothing _ r c.from_residual-in_err-answer_until-in-Some.ensures.0;
      first = λ came answered st. let s = in_lines units came stream answered st in
          let all = all_first framing came stream.held.items bytes (take end bytes) (drop end bytes) s.lines stream.is_first whole cut s.at in
          first_more units came stream answered st bytes lines all.0 all.1;
      size = handed_on _ r e c.from_residual-in_err-answer_until-in-Some.ensures.1 (λ is. inr (subst (λ (ls : List Item). 2 ^ 64 ≤ before.number + length ls) same (said.size is)));
      refused = handed_on _ r e c.from_residual-in_err-answer_until-in-Some.ensures.1 (λ front. absurd (other_no_front e said.tells.2 front));
    }

pub returns-in_ok-answer_until-in-Some-clause-advances : goal.returns-in_ok-answer_until-in-Some-clause-advances
returns-in_ok-answer_until-in-Some-clause-advances g c =
    let q = c.args.answerer.question.now in
    let f = c.args.answerer.form.now in
    let units = f.units in
    let stream = c.args.stream.now in
    let framing = stream.framing in
    let bytes = c.args.bytes.now in
    let now = c.let_go.new.self in
    let grown = c.hold.new.self in
    let end = c.in-Some.end in
    let from : c.len-from.result ≡ length stream.held.items = omega (arith, c.len-from.ensures, stream.held.ok) in
    let before = c.args.self.now.progress in
    let after = c.answer_until.new.self.progress in
    let front = front_is stream.held.items bytes c.len-from.result end grown.held.items from c.in_ok-hold.ensures.held in
    let cut = c.in-Some.ensures.1 in
    let whole = sym (take-append-drop end bytes) in
    let lines = lines_in framing (text_of stream.is_first (stream.held.items ++ take end bytes)) in
    let said = c.in_ok-answer_until-in-Some.ensures in
    let answers = subst (λ (ls : List Item). Answers g.S.Sink.stands g.S.Sink.stopped g.E.Write.contents q f before after c.args.sink.now c.answer_until.new.sink c.args.messages.now c.answer_until.new.messages (Ok tt) ls)
    (read_as grown.framing framing grown.is_first stream.is_first _ _ c.in_ok-hold.ensures.framing c.in_ok-hold.ensures.first front) said.answers in
    let goes = goes_so framing stream.held.items bytes grown.framing grown.held.items stream.is_first grown.is_first c.in_ok-hold.ensures.framing c.in_ok-hold.ensures.held c.in_ok-hold.ensures.first c.in_ok-check_front.ensures in
    let parted = λ (first : stream.is_first ≡ true). subst (λ l. MayGoOn framing (stream.held.items ++ l)) whole (goes first) in
    let rest = rest_is stream.held.items bytes c.len-from.result end grown.held.items from c.in_ok-hold.ensures.held in
    let few = shorter (c.len-from.result + end) grown.held.items c.in_ok-hold.ensures.few in
    record {
      items = map (line_item framing) lines;
      answers = answers;
      position = λ came answered st. let s = in_lines units came stream answered st in
          let first = c.let_go.ensures.first in
          let held = c.let_go.ensures.held in
          stand_more units came stream answered st now bytes lines
          (subst (λ (b : Bool). IsAt framing (came ++ bytes) now.held.items (s.lines ++ lines) b) (sym first)
          (subst (λ (l : List ℕ). IsAt framing (came ++ bytes) l (s.lines ++ lines) false) (sym (held ∙ rest))
          (subst (λ (l : List ℕ). IsAt framing (came ++ l) (drop end bytes) (s.lines ++ lines) false) (sym whole)
          (cut_off framing came stream.held.items (take end bytes) (drop end bytes) s.lines stream.is_first cut s.at parted))))
          (c.let_go.ensures.framing ∙ c.in_ok-hold.ensures.framing) (subst (λ l. length l < 4294967296) (sym held) few);
      first = λ came answered st. let s = in_lines units came stream answered st in
          let all = all_first framing came stream.held.items bytes (take end bytes) (drop end bytes) s.lines stream.is_first whole cut s.at in
          first_more units came stream answered st bytes lines all.0 all.1;
      size = tt;
      refused = tt;
    }
  where
    shorter : (n : ℕ) (l : List ℕ) → length l < 4294967296 → length (drop n l) < 4294967296
    shorter n l few = omega (arith, few, length-drop n l)
