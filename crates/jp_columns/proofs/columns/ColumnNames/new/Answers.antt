-- The numbers of all columns are sorted.
use Rattle.std.proofs.Common.{◌≡◌, ◌-◌, length, refl, subst, arith}
use Rattle.std.specs.List.{range_with_len}
use Rattle.std.specs.List.Sorted.{IsPermutation}
use Rattle.std.proofs.lemmas.Iterator.{YieldsList-from_range, items_from_collect}
use Rattle.std.proofs.lemmas.Result.{IfOk-at_ok}
use Rattle.jp_columns.specs.Names.{Ascend}
use Rattle.jp_columns.proofs.Numbered.{all_numbered, each_numbered}
use Rattle.jp_columns.proofs.columns.ColumnNames.new.Goals as goal

pub invariant_of-result : goal.invariant_of-result
invariant_of-result c =
    let n = length c.args.names.items in
    let sorted = c.sort_columns.new.columns.items in
    let count : c.len.result - 0 ≡ n = omega (arith, c.len.ensures, c.args.names.ok.0) in
    let all : c.in_ok-sorted.sorted.items ≡ range_with_len 0 n = IfOk-at_ok _ c.in_ok-sorted.was (items_from_collect _ c.collect.ensures.ran (YieldsList-from_range 0 c.len.result n refl count)) in
    let moved = subst (λ xs. IsPermutation xs sorted) all c.sort_columns.ensures.permutation in
    record {
      in_order = subst (λ names. Ascend names sorted) c.deref.ensures.value c.sort_columns.ensures.sorted;
      all = all_numbered n sorted moved;
      columns = each_numbered n sorted moved;
    }
