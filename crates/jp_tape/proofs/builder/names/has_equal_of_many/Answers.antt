use Rattle.std.proofs.Common.{◌≡◌, ◌<◌, ◌≤◌, ◌^◌, ◌∙◌, length, subst, sym}
use Rattle.jp_tape.specs.Keys.{slot_in, slot_count, FallByText}
use Rattle.jp_tape.proofs.Slots.{some_slots, few_slots, fall_by_text}
use Rattle.jp_tape.proofs.builder.names.has_equal_of_many.Goals as goal

pub has_equal_by-requires : goal.has_equal_by-requires
has_equal_by-requires c =
    let line = c.args.line.now in
    let names = c.args.names.now in
    let count : slot_count names ≡ length c.deref_mut.result.now = sym (c.deref_mut.ensures.len ∙ c.in_ok-resize.ensures.len ∙ c.slots_for.ensures) in
    record {
      kept = c.requires;
      some = subst (λ n. 0 < n) count (some_slots names);
      few = subst (λ n. n ≤ 2 ^ 32) count (few_slots names);
      told = subst (λ n. FallByText line names (slot_in line n)) count (fall_by_text line names c.requires);
    }
