-- The lines that have a key are sorted.
use Rattle.std.proofs.Common.{◌∙◌, subst, sym}
use Rattle.std.specs.List.Sorted.{IsSortedBy}
use Rattle.std.specs.Ordering.{is_lt}
use Rattle.jp_index.specs.ByKey.{line_order, AreByKey}
use Rattle.jp_index.specs.Cells.{key_at}
use Rattle.jp_index.proofs.Numbers.{sorted_are}
use Rattle.jp_index.proofs.builder.IndexBuilder.finish.Goals as goal

pub returns : goal.returns
returns c = λ path lines entries is.
    record {
      path_is = is.path_is;
      cells_are = is.cells_are;
      order_is = subst (AreByKey (key_at c.args.self.cells.items)) (sym (c.in_ok-order.ensures ∙ c.deref-3.ensures.value)) (sorted_are c.args.self.cells.items c.args.self.by_key.items c.sort_by_key.new.lines.items is.keyed_are c.sort_by_key.ensures.permutation
          (subst (λ cs. IsSortedBy (λ a b. is_lt (line_order (key_at cs) a b)) c.sort_by_key.new.lines.items) c.deref.ensures.value c.in_ok-sort_by_key.ensures.sorted));
    }
