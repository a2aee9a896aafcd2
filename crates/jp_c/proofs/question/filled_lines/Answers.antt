-- The lines so far are those of the pieces so far that are not empty.
use Rattle.std.proofs.Common.{rules, tests, ◌≡◌, ◌∙◌, ℕ, ◌+◌, ◌<◌, ◌==◌, Bool, true, false, List, [], ◌∷◌, ◌++◌, append_assoc, append-nil, get_or, length, drop, map, refl, sym, ap, arith}
use denote.Ref.{Bor}
use Rattle.std.proofs.lemmas.Bool.{false≢true, ne_eqb}
use Rattle.std.proofs.lemmas.Iterator.Splits.{YieldsList-from_slice_split}
use Rattle.std.proofs.lemmas.Iterator.Consumers.{YieldsList-at, YieldsList-turn, YieldsList-end}
use Rattle.std.proofs.lemmas.List.{at_drop_more, at_drop_all, length_push}
use Rattle.jp_model.specs.Lines.{is_separator, line_unless_empty, pieces, without_empty}
use Rattle.jp_c.proofs.question.filled_lines.Goals as goal

taken : (parts : List (List ℕ)) (n : ℕ) (x : List ℕ) → (n < length parts) × (x ≡ get_or parts n x) → without_empty (drop n parts) ≡ line_unless_empty x ++ without_empty (drop (n + 1) parts)
taken parts n x h = at_drop_more without_empty parts n x h.0 ∙ ap (λ y. line_unless_empty y ++ without_empty (drop (n + 1) parts)) (sym h.1)

step : (held more parts : List (List ℕ)) (n m : ℕ) (x : List ℕ) → m ≡ n + 1 → (n < length parts) × (x ≡ get_or parts n x) → line_unless_empty x ≡ more
    → held ++ without_empty (drop n parts) ≡ without_empty parts → (held ++ more) ++ without_empty (drop m parts) ≡ without_empty parts
step held more parts n m x next h is so =
    ap (λ k. (held ++ more) ++ without_empty (drop k parts)) next
    ∙ append_assoc held more (without_empty (drop (n + 1) parts))
    ∙ ap (λ z. held ++ (z ++ without_empty (drop (n + 1) parts))) (sym is)
    ∙ ap (λ z. held ++ z) (sym (taken parts n x h))
    ∙ so

filled : (x : List ℕ) (e : Bool) → e ≡ (length x == 0) → e ≡ false → line_unless_empty x ≡ x ∷ []
filled [] e is so = absurd (cc)
filled (b ∷ x) e is so = refl

blank : (x : List ℕ) (e : Bool) → e ≡ (length x == 0) → e ≡ true → line_unless_empty x ≡ []
blank [] e is so = refl
blank (b ∷ x) e is so = absurd (false≢true (sym (is ∙ ne_eqb (length (b ∷ x)) 0 (λ z. omega arith)) ∙ so))

with_last : (held : List (Bor (List ℕ))) (line : Bor (List ℕ)) → map (λ l. l.now) (held ++ line ∷ []) ≡ map (λ l. l.now) held ++ line.now ∷ []
with_last [] line = refl
with_last (first ∷ held) line = ap (λ ls. first.now ∷ ls) (with_last held line)

pub loop-line-preserved-in-Continue-1 : goal.loop-line-preserved-in-Continue-1
loop-line-preserved-in-Continue-1 c =
    let l = c.loop-line in
    let parts = pieces 0x0A c.args.text.now in
    let t = YieldsList-turn (YieldsList-at c.into_iter-line-iterator.ensures.into_iter_gives (YieldsList-from_slice_split _ (is_separator 0x0A) c.args.text.now c.split-line-items.ensures.rest c.split-line-items.ensures.done c.split-line-items.ensures.closure (λ x r q k. search (rules, tests)))) l.yielded _ l.yielded_by _ _ c.in-Some.line c.in-Some.is c.next.ensures.steps in
    let n : ℕ = length (l.yielded ++ c.in-Some.line ∷ []) in
    let held : List (List ℕ) = map (λ (line : Bor (List ℕ)). line.now) l.lines.items in
    let more : List (List ℕ) = c.in-Some.line.now ∷ [] in
    ap (λ (lines : List (Bor (List ℕ))). map (λ line. line.now) lines ++ without_empty (drop n parts)) c.in_ok-push.ensures.items
    ∙ ap (λ (lines : List (List ℕ)). lines ++ without_empty (drop n parts)) (with_last l.lines.items c.in-Some.line)
    ∙ step held more parts (length l.yielded) n c.in-Some.line.now (length_push l.yielded c.in-Some.line) t (filled c.in-Some.line.now c.is_empty.result c.is_empty.ensures c.if-not-is_empty.true) l.invariant

pub loop-line-preserved : goal.loop-line-preserved
loop-line-preserved c =
    let l = c.loop-line in
    let parts = pieces 0x0A c.args.text.now in
    let t = YieldsList-turn (YieldsList-at c.into_iter-line-iterator.ensures.into_iter_gives (YieldsList-from_slice_split _ (is_separator 0x0A) c.args.text.now c.split-line-items.ensures.rest c.split-line-items.ensures.done c.split-line-items.ensures.closure (λ x r q k. search (rules, tests)))) l.yielded _ l.yielded_by _ _ c.in-Some.line c.in-Some.is c.next.ensures.steps in
    let n : ℕ = length (l.yielded ++ c.in-Some.line ∷ []) in
    let held : List (List ℕ) = map (λ (line : Bor (List ℕ)). line.now) l.lines.items in
    ap (λ (lines : List (List ℕ)). lines ++ without_empty (drop n parts)) (sym (append-nil held))
    ∙ step held [] parts (length l.yielded) n c.in-Some.line.now (length_push l.yielded c.in-Some.line) t (blank c.in-Some.line.now c.is_empty.result c.is_empty.ensures c.if-not-is_empty.false) l.invariant

pub returns : goal.returns
returns c =
    let l = c.loop-line in
    let parts = pieces 0x0A c.args.text.now in
    let held : List (List ℕ) = map (λ (line : Bor (List ℕ)). line.now) l.lines.items in
    let t = YieldsList-end (YieldsList-at c.into_iter-line-iterator.ensures.into_iter_gives (YieldsList-from_slice_split _ (is_separator 0x0A) c.args.text.now c.split-line-items.ensures.rest c.split-line-items.ensures.done c.split-line-items.ensures.closure (λ x r q k. search (rules, tests)))) l.yielded _ l.yielded_by _ _ c.in-None.is c.next.ensures.steps in
    sym (append-nil held) ∙ ap (λ z. held ++ z) (sym (at_drop_all without_empty parts (length l.yielded) (omega (arith, t.1)))) ∙ l.invariant
