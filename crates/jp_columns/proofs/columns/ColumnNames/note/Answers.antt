-- One more column of the name has the member.
use Rattle.std.proofs.Common.{◌≡◌, ◌∙◌, ◌+◌, ◌-◌, ◌<◌, ℕ, List, length, get_or, take, drop, true, false, Some, None, sym, ap, refl, subst, arith, inl, inr, ◌≤◌}
use Rattle.std.specs.Cmp.Lexicographic.{slice_cmp}
use Rattle.std.specs.List.Sorted.{IsPartitionPoint}
use Rattle.std.specs.Ordering.{is_eq, is_gt, nat_cmp}
use Rattle.std.proofs.lemmas.Bool.{cases_lt, true≢false}
use Rattle.std.proofs.lemmas.Grind.{get_or-set_at}
use Rattle.std.proofs.lemmas.List.{get_or-drop, get_or-set_other, length-drop, length-map, length-set}
use Rattle.jp_model.specs.Characters.{text_equal}
use Rattle.jp_nodes.specs.Cursors.{name_of}
use Rattle.jp_strings.specs.Points.{points_of}
use Rattle.jp_columns.specs.Names.{name_at, text_of}
use Rattle.jp_columns.proofs.Members.{name_is, written}
use Rattle.jp_columns.proofs.Standing.{all_noted, alike, before_other, is_apart, is_level, rest_is}
use Rattle.jp_columns.proofs.columns.ColumnNames.note.Goals as goal

pub loop-column-init : goal.loop-column-init
loop-column-init c = record {
  length = refl;
  noted = λ k low high. absurd (omega (arith, low, high));
  others = λ column index e. refl;
}

pub loop-column-preserved : goal.loop-column-preserved
loop-column-preserved c =
    let columns = c.args.self.now in
    let sorted = columns.sorted.items in
    let points = points_of c.in-Some.body.now in
    let first = c.first_of-first.result in
    let slice = c.deref-3.result.now in
    let i = c.loop-column.column-index in
    let found = c.loop-column.found in
    let before = c.loop-column.invariant in
    let rest : take (length slice - first) (drop first slice) ≡ drop first sorted = rest_is slice first ∙ ap (drop first) c.deref-3.ensures.value in
    let column = get_or (take (length slice - first) (drop first slice)) i 0 in
    let at : column ≡ get_or sorted (first + i) 0 = ap (λ l. get_or l i 0) rest ∙ get_or-drop first sorted i 0 in
    let inner : i < length (drop first sorted) = subst (λ l. i < length l) rest c.loop-column-test.true in
    let inside : first + i < length sorted = omega (arith, inner, length-drop first sorted) in
    let there : get_or sorted (first + i) 0 < length columns.names.items = columns.columns (first + i) 0 inside in
    let within : column < length found = omega (arith, at, there, before.length, c.requires, length-map columns.names.items text_of) in
    let order : is_eq (slice_cmp nat_cmp points (name_at columns.names.items column)) ≡ true =
    ap (λ names. is_eq (slice_cmp nat_cmp points (name_at names column))) (sym c.deref-in-loop-column.ensures.value)
    ∙ ap is_eq (sym c.compare_with.ensures) ∙ is_level c.compare_with.result (sym c.is_ne.ensures ∙ c.if-is_ne.false) in
    record {
      length = length-set found column (Some c.args.member) ∙ before.length;
      noted = λ k low high. elim (cases_lt k (first + i)) [
        | inl front ↦ written found column (get_or sorted k 0) (Some c.args.member) None within (before.noted k low front)
        | inr last ↦
            let same : k ≡ first + i = omega (arith, last, high) in
            get_or-set_at found column (get_or sorted k 0) (Some c.args.member) None (ap (λ n. get_or sorted n 0) same ∙ sym at) within
      ];
      others = λ other index e.
          get_or-set_other found column other (Some c.args.member) None (λ same. true≢false (
          sym (alike points (name_at columns.names.items column) order)
          ∙ ap (λ n. text_equal (name_at columns.names.items n) points) (sym same)
          ∙ sym (name_is (name_at columns.names.items other) index (name_of c.args.member) points c.in-Some.ensures.points)
          ∙ e))
          ∙ before.others other index e;
    }

pub returns-then-is_ne-clause-named : goal.returns-then-is_ne-clause-named
returns-then-is_ne-clause-named c = λ column index within e.
    let columns = c.args.self.now in
    let names = columns.names.items in
    let sorted = columns.sorted.items in
    let points = points_of c.in-Some.body.now in
    let first = c.first_of-first.result in
    let slice = c.deref-3.result.now in
    let i = c.loop-column.column-index in
    let before = c.loop-column.invariant in
    let rest : take (length slice - first) (drop first slice) ≡ drop first sorted = rest_is slice first ∙ ap (drop first) c.deref-3.ensures.value in
    let here = get_or (take (length slice - first) (drop first slice)) i 0 in
    let at : here ≡ get_or sorted (first + i) 0 = ap (λ l. get_or l i 0) rest ∙ get_or-drop first sorted i 0 in
    let inner : i < length (drop first sorted) = subst (λ l. i < length l) rest c.loop-column-test.true in
    let inside : first + i < length sorted = omega (arith, inner, length-drop first sorted) in
    let cut = subst (λ (l : List ℕ). IsPartitionPoint (λ n. is_gt (slice_cmp nat_cmp points (name_at names n)) ≡ true) (λ n. is_gt (slice_cmp nat_cmp points (name_at names n)) ≡ false) l first) c.deref-2.ensures.value
    (subst (λ ns. IsPartitionPoint (λ n. is_gt (slice_cmp nat_cmp points (name_at ns n)) ≡ true) (λ n. is_gt (slice_cmp nat_cmp points (name_at ns n)) ≡ false) c.deref-2.result.now first) c.deref.ensures.value c.first_of-first.ensures.first) in
    let other : is_eq (slice_cmp nat_cmp points (name_at names (get_or sorted (first + i) 0))) ≡ false =
    ap (λ n. is_eq (slice_cmp nat_cmp points (name_at names n))) (sym at)
    ∙ ap (λ ns. is_eq (slice_cmp nat_cmp points (name_at ns here))) (sym c.deref-in-loop-column.ensures.value)
    ∙ ap is_eq (sym c.compare_with.ensures) ∙ is_apart c.compare_with.result (sym c.is_ne.ensures ∙ c.if-is_ne.true) in
    all_noted names sorted points columns.in_order first cut c.loop-column.found c.args.member (first + i) columns.all
    (before_other names sorted points columns.in_order first cut (first + i) (omega arith) inside other) before.noted
    column (omega (arith, within, c.requires, length-map names text_of)) (sym (name_is (name_at names column) index (name_of c.args.member) points c.in-Some.ensures.points) ∙ e)

pub returns-clause-named : goal.returns-clause-named
returns-clause-named c = λ column index within e.
    let columns = c.args.self.now in
    let names = columns.names.items in
    let sorted = columns.sorted.items in
    let points = points_of c.in-Some.body.now in
    let first = c.first_of-first.result in
    let slice = c.deref-3.result.now in
    let i = c.loop-column.column-index in
    let rest : take (length slice - first) (drop first slice) ≡ drop first sorted = rest_is slice first ∙ ap (drop first) c.deref-3.ensures.value in
    let cut = subst (λ (l : List ℕ). IsPartitionPoint (λ n. is_gt (slice_cmp nat_cmp points (name_at names n)) ≡ true) (λ n. is_gt (slice_cmp nat_cmp points (name_at names n)) ≡ false) l first) c.deref-2.ensures.value
    (subst (λ ns. IsPartitionPoint (λ n. is_gt (slice_cmp nat_cmp points (name_at ns n)) ≡ true) (λ n. is_gt (slice_cmp nat_cmp points (name_at ns n)) ≡ false) c.deref-2.result.now first) c.deref.ensures.value c.first_of-first.ensures.first) in
    let out : length (drop first sorted) ≤ i = subst (λ l. length l ≤ i) rest c.loop-column-test.false in
    all_noted names sorted points columns.in_order first cut c.loop-column.found c.args.member (first + i) columns.all
    (λ k l same. omega (arith, l, out, length-drop first sorted)) c.loop-column.invariant.noted
    column (omega (arith, within, c.requires, length-map names text_of)) (sym (name_is (name_at names column) index (name_of c.args.member) points c.in-Some.ensures.points) ∙ e)
