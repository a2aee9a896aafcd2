use Rattle.std.proofs.Common.{◌≡◌, ℕ, List, [], ◌∷◌, length, refl, arith}
use Rattle.jp_tape.specs.Keys.{key_of, mixed}
use Rattle.jp_tape.proofs.builder.keys.key.Goals as goal

no_bytes : (name : List ℕ) → length name ≡ 0 → 0 ≡ key_of name
unfolding key_of mixed
no_bytes [] e = refl
no_bytes (x ∷ xs) e = absurd (omega (arith, e))

pub returns-then-length-eq0 : goal.returns-then-length-eq0
returns-then-length-eq0 c = no_bytes c.args.name.now c.if-length-eq0.true
