-- The lines of a collection are few, and hold little more than its bytes.
use Rattle.std.proofs.Common.{◌≡◌, ◌<◌, ◌^◌, ℕ, List, length, map, ap, arith}
use Rattle.std.proofs.lemmas.List.{length-map}
use Rattle.jp_model.specs.declared.Framing.{Framing}
use Rattle.jp_model.specs.Lines.{lines}
use Rattle.jp_model.specs.Script.Machine.{bytes_held}
use Rattle.jp_lines.specs.declared.line.Line.{Line}
use Rattle.jp_lines.specs.Stored.{stored_text}
use Rattle.jp_lines.proofs.Sizes.{lines_few}

pub few_stored : (framing : Framing) (bytes : List ℕ) (stored : List Line) → map (stored_text bytes) stored ≡ lines framing bytes → length bytes < 2 ^ 32
    → (length stored < 2 ^ 32) × (bytes_held (map (stored_text bytes) stored) < 2 ^ 64)
few_stored framing bytes stored came short =
    let few = lines_few framing bytes in
    (omega (arith, few.0, short, ap length came, length-map stored (stored_text bytes)), omega (arith, few.1, short, ap bytes_held came))
