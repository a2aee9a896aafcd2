-- Each span begins a run of its own, or belongs to the run before it.
use Rattle.std.proofs.Common.{map, length, ◌≤◌, ◌≡◌, ◌∙◌, ℕ, ◌+◌, ◌-◌, List, [], ◌∷◌, ◌++◌, ap, ap₂, drop, refl, subst, sym, take-append-drop, append_assoc, arith}
use Rattle.std.specs.Prelude.{slice_index_or, suc, Result, Ok, Err, OnOk, is_ok, if◌then◌else◌}
use Rattle.std.specs.List.Sorted.{IsNonDecreasingBy}
use Rattle.std.proofs.Math.Seq.{drop-cons}
use Rattle.std.proofs.lemmas.List.{drop_all, length-drop, length-take-le}
use Rattle.std.proofs.lemmas.List.Elements.{All-map}
use Rattle.std.specs.List.{All}
use Rattle.std.proofs.lemmas.List.Sorted.{IsNonDecreasingBy-drop}
use Rattle.std.proofs.lemmas.Result.{on_ok_weaker}
use Rattle.jp_model.specs.declared.Span.{Span}
use Rattle.jp_model.specs.Json.Places.{bytes_between}
use Rattle.jp_paint.specs.Marked.{clipped, marked_text, run_text}
use Rattle.jp_paint.proofs.Runs.{IsSpanOf, Stands, clipped_alike, clipped_within, empty_first, first_begins, last_run, run_appended, run_grows, run_stays}
use Rattle.jp_paint.proofs.marked.push_in_order.Goals as goal
use Rattle.jp_paint.proofs.marked.push_in_order.Goals.{then-span-run+in_ok-push_run+in_ok-extend_from_slice, else-span-run+then-span-run-2, else-span-run+else-span-run-2}

one_more : (n : ℕ) → suc n ≡ n + 1
one_more n = omega (arith)

-- a part of a line has the bytes between its ends
size_of : (part : Span) (line : List ℕ) → part.start ≤ part.end → part.end ≤ length line → part.end ≡ part.start + length (bytes_between line part.start part.end)
size_of part line order within =
    let left = length-drop part.start line in
    let size = length-take-le (part.end - part.start) (drop part.start line) (omega (arith, left, order, within)) in
    omega (arith, size, order)

pub loop-span-preserved : goal.loop-span-preserved
loop-span-preserved c =
    let spans = c.args.spans.now in
    let part = c.args.part in
    let bytes = bytes_between c.args.line.now part.start part.end in
    let all = map (clipped part) spans in
    let i = c.loop-span.span-index in
    let first = slice_index_or spans i (record { start = 0; end = 0 }) in
    let next = c.clip-span.result in
    let clips = sym c.clip-span.ensures in
    let later = drop (i + 1) spans in
    let others = map (clipped part) later in
    let before = c.loop-span in
    let split : drop i spans ≡ first ∷ later = drop-cons spans i (record { start = 0; end = 0 }) c.loop-span-test.true ∙ ap (λ n. first ∷ drop n spans) (one_more i) in
    let stands = subst (λ (left : List Span). Stands all part.start bytes c.args.text.now.items before.text.items before.run left before.rest.now)
    (ap (map (clipped part)) split ∙ ap (λ s. s ∷ others) clips) before.invariant in
    let is : IsSpanOf part.start bytes next = subst (IsSpanOf part.start bytes) clips (clipped_within part first bytes c.requires.order (size_of part c.args.line.now c.requires.order c.requires.within)) in
    let order = subst (λ (n : Span). All (λ (s : Span). n.start ≤ s.start) (n ∷ others)) clips
    (first_begins part first later (subst (λ (left : List Span). IsNonDecreasingBy (λ (s : Span). s.start) left) split (IsNonDecreasingBy-drop (λ (s : Span). s.start) i spans c.requires.spans))) in
    let after : List ℕ → Span → List ℕ → Type 0 = λ text run rest. Stands all part.start bytes c.args.text.now.items text run others rest in
    elim c.if-span-run.branch [
      | then-span-run+in_ok-push_run+in_ok-extend_from_slice w ↦
          let first = w.split_at in
          let second = w.split_at-then-span-run in
          let cut : before.rest.now ≡ first.result.0.now ++ (second.result.0.now ++ second.result.1.now) =
          sym (take-append-drop (before.run.end - before.run.start) before.rest.now)
          ∙ ap₂ (λ (a b : List ℕ). a ++ b) (sym first.ensures.front) (sym first.ensures.back
          ∙ (sym (take-append-drop (next.start - before.run.end) first.result.1.now) ∙ ap₂ (λ (a b : List ℕ). a ++ b) (sym second.ensures.front) (sym second.ensures.back))) in
          let made : w.extend_from_slice.new.self.items ≡ (before.text.items ++ run_text first.result.0.now) ++ second.result.0.now =
          w.in_ok-extend_from_slice.ensures.items ∙ ap (λ l. l ++ second.result.0.now) w.in_ok-push_run.ensures in
          subst (λ v. after v.items c.if-span-run.run c.if-span-run.rest.now) (sym w.text-is)
          (subst (λ run. after w.extend_from_slice.new.self.items run c.if-span-run.rest.now) (sym w.run-is)
          (subst (λ rest. after w.extend_from_slice.new.self.items next rest.now) (sym w.rest-is)
          (subst (λ (l : List ℕ). after l next second.result.1.now) (sym made)
          (run_appended all part.start bytes c.args.text.now.items before.text.items before.run next others before.rest.now stands is first.result.0.now second.result.0.now second.result.1.now
          cut first.ensures.front_len second.ensures.front_len w.if-span-run.true order))))
      | else-span-run+then-span-run-2 w ↦
          subst (λ v. after v.items c.if-span-run.run c.if-span-run.rest.now) (sym w.text-is)
          (subst (λ run. after before.text.items run c.if-span-run.rest.now) (sym w.run-is)
          (subst (λ rest. after before.text.items (record { start = before.run.start; end = next.end }) rest.now) (sym w.rest-is)
          (run_grows all part.start bytes c.args.text.now.items before.text.items before.run next others before.rest.now stands is w.if-span-run.false w.if-span-run-2.true)))
      | else-span-run+else-span-run-2 w ↦
          subst (λ v. after v.items c.if-span-run.run c.if-span-run.rest.now) (sym w.text-is)
          (subst (λ run. after before.text.items run c.if-span-run.rest.now) (sym w.run-is)
          (subst (λ rest. after before.text.items before.run rest.now) (sym w.rest-is)
          (run_stays all part.start bytes c.args.text.now.items before.text.items before.run next others before.rest.now stands is w.if-span-run-2.false)))
    ]

whole_if_ok : {T E : Type 0} (r : Result T E) (items whole begun : List ℕ) → items ≡ (if is_ok r then whole else begun) → OnOk r (items ≡ whole)
whole_if_ok (Ok x) items whole begun e = e
whole_if_ok (Err x) items whole begun e = tt

pub returns : goal.returns
returns c =
    let spans = c.args.spans.now in
    let part = c.args.part in
    let line = c.args.line.now in
    let bytes = bytes_between line part.start part.end in
    let last = c.loop-span in
    let cut = c.split_at-2 in
    let stands = subst (λ (left : List Span). Stands (map (clipped part) spans) part.start bytes c.args.text.now.items last.text.items last.run (map (clipped part) left) last.rest.now) (drop_all last.span-index spans c.loop-span-test.false) last.invariant in
    let split : last.rest.now ≡ cut.result.0.now ++ cut.result.1.now =
    sym (take-append-drop (last.run.end - last.run.start) last.rest.now) ∙ ap₂ (λ (a b : List ℕ). a ++ b) (sym cut.ensures.front) (sym cut.ensures.back) in
    on_ok_weaker c.extend_from_slice-2.result (λ added.
    added
    ∙ ap (λ l. l ++ cut.result.1.now) c.in_ok-push_run-2.ensures
    ∙ append_assoc last.text.items (run_text cut.result.0.now) cut.result.1.now
    ∙ ap (λ l. last.text.items ++ l) (sym (last_run last.run cut.result.0.now cut.result.1.now stands.runs cut.ensures.front_len) ∙ ap (λ l. marked_text (last.run ∷ []) last.run.start l) (sym split))
    ∙ stands.text
    ∙ ap (λ l. c.args.text.now.items ++ l) (clipped_alike part spans bytes (size_of part line c.requires.order c.requires.within)))
    (whole_if_ok c.extend_from_slice-2.result _ _ _ c.extend_from_slice-2.ensures.items)

pub loop-span-init : goal.loop-span-init
loop-span-init c =
    let part = c.args.part in
    let bytes = bytes_between c.args.line.now part.start part.end in
    let size = size_of part c.args.line.now c.requires.order c.requires.within in
    record {
      text = ap (λ l. c.args.text.now.items ++ l) (sym (empty_first part.start (map (clipped part) c.args.spans.now) bytes));
      order = All-map (λ (s : Span). part.start ≤ s.start) (clipped part) c.args.spans.now (λ k d there. (clipped_within part (slice_index_or c.args.spans.now k d) bytes c.requires.order size).begins);
      runs = omega (arith);
      room = refl;
      within = omega (arith);
    }
