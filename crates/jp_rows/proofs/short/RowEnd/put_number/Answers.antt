-- A number of 32 bits has at most ten digits.
use Rattle.std.proofs.Common.{arith}
use Rattle.std.proofs.lemmas.Fmt.{length-decimal-le}
use Rattle.jp_rows.proofs.short.RowEnd.put_number.Goals as goal

pub write_digits-self-inside-requires : goal.write_digits-self-inside-requires
write_digits-self-inside-requires c =
    let told = c.self.told in
    let within = c.self.inside.within in
    let short = length-decimal-le 10 c.from.result (omega arith) (omega arith) (omega arith) in
    (omega arith, omega arith)
