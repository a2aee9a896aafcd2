use Rattle.std.proofs.Common.{◌≡◌, ◌<◌, ℕ, false, List, [], ◌∷◌, length, refl, arith}
use Rattle.jp_model.specs.Json.Faults.{has_repeated}
use Rattle.jp_tape.specs.declared.builder.kept.KeptName.{KeptName}
use Rattle.jp_tape.specs.Names.{spelled_names}
use Rattle.jp_tape.proofs.builder.names.has_equal.Goals as goal

few_apart : (line : List ℕ) (names : List KeptName) → length names < 2 → false ≡ has_repeated (spelled_names line names)
few_apart line [] l = refl
few_apart line (name ∷ []) l = refl
few_apart line (name ∷ other ∷ more) l = absurd (omega (arith, l))

pub returns-then-names-lt-PAIR : goal.returns-then-names-lt-PAIR
returns-then-names-lt-PAIR c = few_apart c.args.line.now c.args.names.now c.if-names-lt-PAIR.true
