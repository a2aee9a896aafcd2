use Rattle.std.proofs.Common.{◌≡◌, length, take}
use Rattle.std.specs.List.{filter}
use Rattle.jp_tape.specs.Keys.{slot_in, shares_slot}
use Rattle.jp_tape.specs.Names.{all_points, spelled_names}
use Rattle.jp_tape.proofs.builder.names.doubtful.Given as goal

abbrev pub invariant-loop-name : goal.invariant-loop-name
invariant-loop-name l = all_points l.bodies.items ≡ spelled_names l.line (filter (shares_slot (slot_in l.line (length l.hits)) l.hits) (take l.name-index l.names))
