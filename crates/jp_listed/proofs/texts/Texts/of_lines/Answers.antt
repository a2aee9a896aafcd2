-- The slots are sorted, and so their texts are the lines still.
use Rattle.std.proofs.Common.{◌∙◌, ◌+◌, ◌/◌, All, bytes_eq, refl, sym, ap, subst, arith}
use Rattle.std.specs.List.Sorted.{IsNonDecreasingBy}
use Rattle.std.proofs.lemmas.List.Sorted.{All-permutation, list_any-IsPermutation}
use Rattle.jp_model.specs.Lines.{closed_lines}
use Rattle.jp_listed.specs.Slots.{AreStarts, Ascend, IsHashed, has_text, text_at, texts_at}
use Rattle.jp_listed.proofs.Order.{all_whole, any_at, rising}
use Rattle.jp_listed.proofs.texts.Texts.of_lines.Goals as goal

pub find_starts-requires-clause-rising : goal.find_starts-requires-clause-rising
find_starts-requires-clause-rising c =
    subst (λ slots. IsNonDecreasingBy (λ slot. slot.hash) slots) (sym c.deref-3.ensures.value) (rising c.deref-2.result.now c.sort_slots.new.slots.items c.sort_slots.ensures.sorted)

pub invariant_of-result : goal.invariant_of-result
invariant_of-result c =
    let buckets = c.len.result / 8 + 2 in
    let width = 18446744073709551615 / buckets + 1 in
    record {
      sorted = subst (λ bytes. Ascend bytes c.sort_slots.new.slots.items) c.deref-2.ensures.value c.sort_slots.ensures.sorted;
      hashed = All-permutation (IsHashed c.args.bytes.items) c.in_ok-slots.slots.items c.sort_slots.new.slots.items c.sort_slots.ensures.permutation
          (subst (λ bytes. All (IsHashed bytes) c.in_ok-slots.slots.items) c.deref.ensures.value c.in_ok-slots.ensures.hashed);
      wide = omega arith;
      cut = subst (λ slots. AreStarts width slots c.in_ok-starts.starts.items) c.deref-3.ensures.value c.in_ok-starts.ensures.starts;
      whole = all_whole width buckets c.in_ok-starts.starts.items (omega arith) refl c.in_ok-starts.ensures.count;
    }

pub returns : goal.returns
returns c = λ text.
    let bytes = c.args.bytes.items in
    let old = c.in_ok-slots.slots.items in
    let new = c.sort_slots.new.slots.items in
    any_at bytes new text ∙ sym (list_any-IsPermutation (λ slot. bytes_eq (text_at bytes slot) text) old new c.sort_slots.ensures.permutation) ∙ sym (any_at bytes old text)
    ∙ ap (λ texts. has_text texts text) (ap (λ b. texts_at b old) (sym c.deref.ensures.value) ∙ c.in_ok-slots.ensures.texts ∙ ap closed_lines c.deref.ensures.value)
