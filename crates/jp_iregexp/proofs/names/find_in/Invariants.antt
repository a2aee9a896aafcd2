use Rattle.std.proofs.Common.{◌≡◌, length, map}
use Rattle.jp_model.specs.Pattern.Classes.{look_up}
use Rattle.jp_iregexp.specs.Names.{entry_of}
use Rattle.jp_iregexp.proofs.names.find_in.Given as goal

abbrev pub invariant-loop-left : goal.invariant-loop-left
invariant-loop-left l = look_up (map entry_of l.left) l.name ≡ look_up (map entry_of l.table) l.name

abbrev pub decreases-loop-left : goal.decreases-loop-left
decreases-loop-left l = length l.left
