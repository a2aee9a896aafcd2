use Rattle.std.proofs.Common.{◌≡◌, true, take}
use Rattle.std.specs.List.{list_all}
use Rattle.jp_tape.specs.declared.builder.kept.KeptName.{KeptName}
use Rattle.jp_tape.proofs.builder.names.are_plain.Given as goal

abbrev pub invariant-loop-name : goal.invariant-loop-name
invariant-loop-name l = list_all (λ (n : KeptName). n.is_plain) (take l.name-index l.names) ≡ true
