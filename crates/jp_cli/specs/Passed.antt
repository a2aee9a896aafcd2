-- What passed through a device between two of its states.
use Rattle.std.specs.Prelude.{ℕ, List, length, drop}
use Rattle.jp_devices.specs.Devices.{Device}

-- the bytes that its reads gave
abbrev pub given_since : {R : Type 0} → Device R → Device R → List ℕ
given_since old new = drop (length old.given) new.given
