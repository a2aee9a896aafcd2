use Rattle.std.proofs.Common.{◌≡◌, ℕ, ◌<◌, ◌≤◌, ◌^◌, List, length, take, subst, sym}
use Rattle.std.proofs.lemmas.List.{length-take-le}
use Rattle.jp_tape.specs.Keys.{slot_in, FallByText}
use Rattle.jp_tape.proofs.Slots.{apart_differ, some_slots, few_slots, fall_by_text}
use Rattle.jp_tape.proofs.builder.names.has_equal_of_some.Goals as goal

-- what is known of `n` is known of how many the first `n` places of some are
of_length : (P : ℕ → Type 0) (n slots : ℕ) (hits : List ℕ) → slots ≡ n → slots ≤ length hits → P n → P (length (take slots hits))
of_length P n slots hits e l h = subst P (sym (length-take-le slots hits l)) (subst P (sym e) h)

pub returns-then-are_apart : goal.returns-then-are_apart
returns-then-are_apart c = apart_differ c.args.line.now c.args.names.now c.requires (c.are_apart.ensures c.if-are_apart.true)

pub has_equal_by-requires : goal.has_equal_by-requires
has_equal_by-requires c =
    let line = c.args.line.now in
    let names = c.args.names.now in
    let count = c.slots_for-slots.ensures in
    let few = c.if-slots-gt-FEW_SLOTS.false in
    record {
      kept = c.requires;
      some = of_length (λ n. 0 < n) _ _ _ count few (some_slots names);
      few = of_length (λ n. n ≤ 2 ^ 32) _ _ _ count few (few_slots names);
      told = of_length (λ n. FallByText line names (slot_in line n)) _ _ _ count few (fall_by_text line names c.requires);
    }
