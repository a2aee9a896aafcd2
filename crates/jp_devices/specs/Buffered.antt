-- What a writer behind a buffer took (profile).
use Rattle.std.specs.Prelude.{◌≡◌, ℕ, List, ◌++◌, false, Option, None}
use Rattle.std.specs.Io.Buffered.{writer_buffer, writer_inner}
use Rattle.std.specs.declared.io.buffered.BufWriter.{BufWriter}
use Rattle.jp_devices.specs.Devices.{Begins, Device}

-- a writer that does not tell its bytes: what its writes took is known alone
abbrev pub untold : {W : Type 0} → W → Option (List ℕ)
untold writer = None

-- The writer behind a buffer, as it is once it took what the buffer holds.
abbrev pub filled : {W A : Type 0} → BufWriter (Device W) A → Device W
filled out = record (writer_inner out) { taken = (writer_inner out).taken ++ writer_buffer out }

-- The writer took the bytes of the whole, or where a call of it failed a beginning of them.
pub record Took {W : Type 0} (new whole : Device W) : Type 0 where
  pub begins : Begins new.taken whole.taken
  pub all : new.failed ≡ false → new.taken ≡ whole.taken
