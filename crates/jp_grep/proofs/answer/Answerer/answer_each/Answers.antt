-- One of them is answered after the others.
use Rattle.std.proofs.Common.{◌≡◌, ◌∙◌, ◌<◌, ◌+◌, ◌-◌, ◌++◌, [], ◌∷◌, ℕ, List, ap, ap₂, sym, subst, append_assoc, drop, length, length-append, take, take-append-drop, refl, arith, inl, inr, true, false, Bool, Some}
use Rattle.std.specs.Prelude.{cond, sum_by, suc, zero, ◌==◌, ◌^◌, ◌≤◌, ◌⊎◌}
use Rattle.std.proofs.lemmas.Bool.{eq-eqb, ne_eqb}
use Rattle.std.proofs.lemmas.List.{take_more}
use Rattle.std.proofs.lemmas.Option.{get_or_from_slice_get}
use Rattle.jp_devices.specs.Devices.{Received}
use Rattle.jp_devices.proofs.Chains.{Part, both_received, ends_in_part}
use Rattle.jp_sink.specs.Events.{Event}
use Rattle.jp_sink.specs.Telling.{Takes}
use Rattle.jp_grep.specs.Telling.{TakesPart}
use Rattle.jp_grep.specs.Items.{Item, is_given_up, is_unjudged}
use Rattle.jp_grep.specs.Outcomes.{CameOfEach}
use Rattle.jp_grep.specs.ReadItems.{item_of, items_of}
use Rattle.jp_grep.specs.Rows.{events_from, item_events, item_message, messages_from, refused_count, refused_item, selected_in}
use Rattle.jp_grep.specs.Searching.{GoesOnBy, answered_after}
use Rattle.jp_grep.specs.Watching.{cut_to}
use Rattle.jp_grep.proofs.Advancing.{none_answered, none_by, says_nothing}
use Rattle.jp_grep.proofs.Batched.{enough, messages_around, messages_more, one_more, rows_around, rows_more, with_next}
use Rattle.jp_grep.proofs.Coming.{came_next, came_one, came_same}
use Rattle.std.proofs.lemmas.List.Sums.{sum_by_push}
use Rattle.jp_grep.proofs.Counted.{few_up_to}
use Rattle.jp_grep.proofs.Putting.{both_put, ends_put, none_put, put_next}
use Rattle.jp_grep.proofs.Written.{around, none_received, part_next}
use Rattle.jp_grep.proofs.answer.Answerer.answer_each.Goals as goal

-- the counts go on by one at most
one_fewer : (before after number next : ℕ) (b : Bool) → after ≡ before + cond b 1 0 → next ≡ number + 1 → before < number → after < next
one_fewer before after number next true e k l = omega (arith, e, k, l)
one_fewer before after number next false e k l = omega (arith, e, k, l)

-- more is counted
together : (a b c d : ℕ) → d ≡ b + c → (a + b) + c ≡ a + d
together a b c d e = omega (arith, e)

counted : (of : Item → ℕ) (before was is one : ℕ) (done : List Item) (item : Item) → was ≡ before + sum_by of done → is ≡ was + one → one ≡ of item → is ≡ before + sum_by of (done ++ item ∷ [])
counted of before was is one done item e f same =
    f ∙ ap₂ (λ (n k : ℕ). n + k) e same ∙ together before (sum_by of done) (of item) (sum_by of (done ++ item ∷ [])) (sum_by_push of done item)

-- one is not judged where as many are selected as are wanted
unjudged_where : (selected most : ℕ) → selected ≤ most → (selected == most) ≡ is_unjudged (Some (most - selected))
unjudged_where selected most few = by_left (most - selected) refl
  where
    by_left : (left : ℕ) → left ≡ most - selected → (selected == most) ≡ is_unjudged (Some left)
    by_left zero e = eq-eqb selected most (omega (arith, few, e))
    by_left (suc left) e = ne_eqb selected most (λ same. omega (arith, same, e))

-- no more are passed after these than are to be
one_passed : (selected most trailed trailing next : ℕ) → next ≡ trailed + cond (selected == most) 1 0 → trailed ≤ trailing → (selected < most) ⊎ (trailed < trailing) → next ≤ trailing
one_passed selected most trailed trailing next e few (inl l) = as_many next trailed trailing (e ∙ ap (λ (b : Bool). trailed + cond b 1 0) (ne_eqb selected most (λ same. omega (arith, same, l)))) few
  where
    as_many : (next trailed trailing : ℕ) → next ≡ trailed + 0 → trailed ≤ trailing → next ≤ trailing
    as_many next trailed trailing e few = omega (arith, e, few)
one_passed selected most trailed trailing next e few (inr l) = one_at_most next trailed trailing (selected == most) e l
  where
    one_at_most : (next trailed trailing : ℕ) (b : Bool) → next ≡ trailed + cond b 1 0 → trailed < trailing → next ≤ trailing
    one_at_most next trailed trailing true e l = omega (arith, e, l)
    one_at_most next trailed trailing false e l = omega (arith, e, l)

few_passed : (selected most trailed trailing : ℕ) → selected ≡ most → trailing < 2 ^ 64 → (selected < most) ⊎ (trailed < trailing) → trailed + 1 < 2 ^ 64
few_passed selected most trailed trailing all few (inl l) = absurd (omega (arith, all, l))
few_passed selected most trailed trailing all few (inr l) = omega (arith, few, l)

pub loop-index-init : goal.loop-index-init
loop-index-init g c =
    let q = c.args.self.question.now in
    let f = c.args.self.form.now in
    let none = none_answered q f c.args.progress.now in
    record {
      so_far = (
        [],
        refl,
        record { each = tt; by = subst (λ (ls : List Item). GoesOnBy q f c.args.progress.now c.args.progress.now ls) (sym none) (none_by q f c.args.progress.now c.requires.under_way) },
        subst (λ (ls : List Item). Takes g.S.Sink.stands c.args.sink.now c.args.sink.now (events_from q f c.args.progress.now.number ls)) (sym none) (none_put g.S.Sink.stands g.S.Sink.stopped c.args.sink.now),
        subst (λ (ls : List Item). Received g.E.Write.contents c.args.messages.now c.args.messages.now (messages_from f c.args.progress.now.counts.refused c.args.progress.now.number ls)) (sym none) (none_received c.args.messages.now),
      );
      writes = c.requires.open.0;
      reports = c.requires.open.1;
      kept = (refl, refl);
      messages_after = refl;
    }

pub returns-then-is_done-clause-answers : goal.returns-then-is_done-clause-answers
returns-then-is_done-clause-answers g c =
    let q = c.args.self.question.now in
    let f = c.args.self.form.now in
    let all = items_of c.args.items in
    let i = c.loop-index.index in
    let before = c.args.progress.now in
    let so = c.loop-index.invariant.so_far in
    let done = so.0 in
    let is_enough = c.is_done.ensures.done c.if-is_done.true in
    let is = sym (enough q f before done (drop i all) (sym so.2.by.selected ∙ is_enough.0, sym so.2.by.trailed ∙ is_enough.1)) in
    record {
      outcomes = done ++ drop i all;
      each = subst (λ (ls : List Item). CameOfEach ls (done ++ drop i all)) (take-append-drop i all) (came_next (take i all) done (drop i all) (drop i all) so.2.each (came_same (drop i all)));
      rows = subst (λ (ls : List Item). Takes g.S.Sink.stands c.args.sink.now c.loop-index.sink (events_from q f before.number ls)) is so.3;
      messages = subst (λ (ls : List Item). Received g.E.Write.contents c.args.messages.now c.loop-index.messages (messages_from f before.counts.refused before.number ls)) is so.4;
      progress = subst (λ (ls : List Item). GoesOnBy q f before c.loop-index.progress ls) is so.2.by;
    }

pub returns-in_err-verdict-clause-answers : goal.returns-in_err-verdict-clause-answers
returns-in_err-verdict-clause-answers g c =
    let q = c.args.self.question.now in
    let f = c.args.self.form.now in
    let all = items_of c.args.items in
    let i = c.loop-index.index in
    let item = item_of c.item-item.result in
    let before = c.args.progress.now in
    let so = c.loop-index.invariant.so_far in
    let done = so.0 in
    let said = c.in_err-verdict.ensures.answers in
    let out = c.answer_item.new.sink in
    let told = c.answer_item.new.messages in
    let r = c.from_residual.result in
    let failed = c.from_residual.ensures.0 in
    let within : i < length all = omega (arith, c.loop-index-test.true, c.count-index-end.ensures) in
    let is = sym (get_or_from_slice_get all i item item c.item-item.ensures.item) in
    let rest = drop (i + 1) all in
    let answered = answered_after q f before done in
    let short = c.is_done.ensures.more c.if-is_done.false in
    let cut = cut_to (f.most - c.loop-index.progress.counts.selected) said.outcome in
    let next = one_more q f before done c.loop-index.progress so.2.by short said.outcome rest in
    let rows = subst (λ k. TakesPart g.S.Sink.stands g.S.Sink.stopped c.loop-index.sink out (item_events q f k cut)) so.2.by.number said.rows in
    let part = subst (λ (l : List ℕ). Part g.E.Write.contents c.loop-index.messages told l) (ap₂ (λ j k. item_message f j k cut) so.2.by.refused so.2.by.number) said.message in
    record {
      outcomes = done ++ said.outcome ∷ rest;
      each = subst (λ (ls : List Item). CameOfEach ls (done ++ said.outcome ∷ rest)) (sym (around all i item within ∙ ap (λ (x : Item). (take i all ++ x ∷ []) ++ rest) (sym is) ∙ append_assoc (take i all) (item ∷ []) rest))
          (came_next (take i all) done (item ∷ rest) (said.outcome ∷ rest) so.2.each (said.came, came_same rest));
      rows = ends_put g.S.Sink.stands g.S.Sink.stopped r c.args.sink.now out (events_from q f before.number (answered_after q f before (done ++ said.outcome ∷ rest))) failed
          (put_next g.S.Sink.stands g.S.Sink.stopped c.args.sink.now c.loop-index.sink out _ (item_events q f (before.number + length answered) cut) _ _
          (rows_around q f answered cut before.number _ next.0 next.1) so.3 rows);
      messages = ends_in_part r _ _ _ failed
          (part_next c.args.messages.now c.loop-index.messages told _ (item_message f (before.counts.refused + refused_count answered) (before.number + length answered) cut) _ _
          (messages_around q f answered cut before.counts.refused before.number _ next.0 next.1) so.4 part);
      progress = says_nothing _ r failed;
    }

pub loop-index-preserved : goal.loop-index-preserved
loop-index-preserved g c =
    let q = c.args.self.question.now in
    let f = c.args.self.form.now in
    let all = items_of c.args.items in
    let i = c.loop-index.index in
    let item = item_of c.item-item.result in
    let before = c.args.progress.now in
    let inv = c.loop-index.invariant in
    let so = inv.so_far in
    let done = so.0 in
    let by = so.2.by in
    let said = c.in_ok-verdict.ensures.answers in
    let tells = c.in_ok-verdict.ensures.tells in
    let out = c.answer_item.new.sink in
    let told = c.answer_item.new.messages in
    let passed = c.pass.ensures in
    let now = c.pass.new.self in
    let within : i < length all = omega (arith, c.loop-index-test.true, c.count-index-end.ensures) in
    let is = sym (get_or_from_slice_get all i item item c.item-item.ensures.item) in
    let answered = answered_after q f before done in
    let short = c.is_done.ensures.more c.if-is_done.false in
    let cut = cut_to (f.most - c.loop-index.progress.counts.selected) said.outcome in
    let all_now = with_next q f before done c.loop-index.progress by short said.outcome in
    let rows = subst (λ k. Takes g.S.Sink.stands c.loop-index.sink out (item_events q f k cut)) by.number said.rows in
    let message = subst (λ (l : List ℕ). Received g.E.Write.contents c.loop-index.messages told l) (ap₂ (λ j k. item_message f j k cut) by.refused by.number) said.message in
    record {
      so_far = (
        done ++ said.outcome ∷ [],
        length-append done (said.outcome ∷ []) ∙ ap (λ n. n + 1) so.1,
        record {
          each = subst (λ (ls : List Item). CameOfEach ls (done ++ said.outcome ∷ [])) (sym (take_more all i item within ∙ ap (λ (x : Item). take i all ++ x ∷ []) (sym is)))
              (came_next (take i all) done (item ∷ []) (said.outcome ∷ []) so.2.each (came_one item said.outcome said.came));
          by = subst (λ (ls : List Item). GoesOnBy q f before now ls) (sym all_now) (record {
            number = passed.number ∙ ap (λ n. n + 1) by.number ∙ longer before.number (length answered) (length (answered ++ cut ∷ [])) (length-append answered (cut ∷ []));
            selected = counted (selected_in q) before.counts.selected _ _ _ answered cut by.selected passed.selected said.verdict.selected;
            refused = counted (λ x. cond (refused_item x) 1 0) before.counts.refused _ _ _ answered cut by.refused passed.refused (ap (λ (b : Bool). let n : ℕ = cond b 1 0 in n) said.verdict.refused);
            given_up = counted (λ x. cond (is_given_up x) 1 0) before.counts.given_up _ _ _ answered cut by.given_up passed.given_up (ap (λ (b : Bool). let n : ℕ = cond b 1 0 in n) said.verdict.given_up);
            trailed = counted (λ x. cond (is_unjudged x.most) 1 0) before.trailed _ _ _ answered cut by.trailed passed.trailed
                (ap (λ (b : Bool). let n : ℕ = cond b 1 0 in n) (unjudged_where c.loop-index.progress.counts.selected f.most by.under_way.wanted));
            under_way = record {
              wanted = omega (arith, passed.selected, c.in_ok-verdict.ensures.fits);
              passed = one_passed c.loop-index.progress.counts.selected f.most c.loop-index.progress.trailed f.trailing now.trailed passed.trailed by.under_way.passed short;
              fewer_refused = one_fewer _ _ _ _ _ passed.refused passed.number by.under_way.fewer_refused;
              fewer_given_up = one_fewer _ _ _ _ _ passed.given_up passed.number by.under_way.fewer_given_up;
            };
          });
        },
        subst (λ (l : List Event). Takes g.S.Sink.stands c.args.sink.now out l) (sym (ap (events_from q f before.number) all_now ∙ rows_more q f answered cut before.number)) (both_put g.S.Sink.stands g.S.Sink.stopped c.args.sink.now c.loop-index.sink out _ _ so.3 rows),
        subst (λ (l : List ℕ). Received g.E.Write.contents c.args.messages.now told l) (sym (ap (messages_from f before.counts.refused before.number) all_now ∙ messages_more q f answered cut before.counts.refused before.number)) (both_received _ _ _ _ _ so.4 message),
      );
      writes = tells.0;
      reports = tells.1;
      kept = (tells.3.0 ∙ inv.kept.0, tells.3.1 ∙ inv.kept.1);
      messages_after = tells.4 ∙ inv.messages_after;
    }
  where
    longer : (a b c : ℕ) → c ≡ b + 1 → (a + b) + 1 ≡ a + c
    longer a b c e = omega (arith, e)

pub pass-requires-clause-number : goal.pass-requires-clause-number
pass-requires-clause-number g c =
    let so = c.loop-index.invariant.so_far in
    let few = few_up_to c.args.self.question.now (c.args.self.form.now.most - c.args.progress.now.counts.selected) (c.args.self.form.now.trailing - c.args.progress.now.trailed) so.0 in
    omega (arith, so.1, so.2.by.number, few, c.requires.numbers, c.loop-index-test.true, c.count-index-end.ensures)

pub pass-requires-clause-selected : goal.pass-requires-clause-selected
pass-requires-clause-selected g c = omega (arith, c.in_ok-verdict.ensures.fits, c.is_done.ensures.fits)

pub pass-requires-clause-trailed : goal.pass-requires-clause-trailed
pass-requires-clause-trailed g c = λ all. few_passed c.loop-index.progress.counts.selected c.args.self.form.now.most c.loop-index.progress.trailed c.args.self.form.now.trailing all c.is_done.ensures.few (c.is_done.ensures.more c.if-is_done.false)
