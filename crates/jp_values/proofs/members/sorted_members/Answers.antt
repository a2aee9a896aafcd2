-- A sort keeps the members.
use Rattle.std.proofs.lemmas.List.Sorted.{IsPermutation-sym}
use Rattle.jp_values.proofs.Gathered.{members_moved}
use Rattle.jp_values.proofs.members.sorted_members.Goals as goal

pub returns : goal.returns
returns c =
    let old = c.in_ok-members.members.items in
    let new = c.sort_unstable.new.self.items in
    let moved = c.sort_unstable.ensures.permutation in
    record {
      all = members_moved _ old new (IsPermutation-sym old new moved) moved c.in_ok-members.ensures;
      sorted = c.sort_unstable.ensures.sorted;
    }
