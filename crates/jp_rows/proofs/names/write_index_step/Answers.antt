-- The bracket, the index, and the other bracket follow one another.
use Rattle.std.proofs.Common.{◌≡◌, ℕ, ℤ, List, codes, sym, subst, rules}
use Rattle.std.proofs.lemmas.Int.{ints}
use Rattle.std.specs.Fmt.{signed_decimal}
use Rattle.std.specs.Str.{IsAscii}
use Rattle.jp_devices.proofs.Chains.{both_received, part_more, part_behind, ends_behind, ends_in_part}
use Rattle.jp_rows.proofs.Printed.{indexed}
use Rattle.jp_rows.proofs.names.write_index_step.Goals as goal

ascii : (i : ℤ) (bytes text : List ℕ) → bytes ≡ text → bytes ≡ signed_decimal i → IsAscii text → IsAscii (signed_decimal i)
ascii i bytes text e number h = subst IsAscii number (subst IsAscii (sym e) h)

pub returns-in_err-write_whole-2-clause-text : goal.returns-in_err-write_whole-2-clause-text
returns-in_err-write_whole-2-clause-text g c =
    let number : c.as_bytes.result.now ≡ signed_decimal c.args.index = search (rules, ints) in
    let part = rw number at (part_behind _ _ _ (codes "[") _ c.in_ok-write_whole.ensures.text c.in_err-write_whole-2.ensures.text) in
    rw (indexed c.args.index (ascii c.args.index c.as_bytes.result.now _ c.as_bytes.ensures.value number c.format.ensures.ascii))
    (ends_in_part c.from_residual-in_err-write_whole-2.result _ _ _ c.from_residual-in_err-write_whole-2.ensures.0 (part_more _ _ _ (codes "]") part))

pub returns-clause-text : goal.returns-clause-text
returns-clause-text g c =
    let number : c.as_bytes.result.now ≡ signed_decimal c.args.index = search (rules, ints) in
    let written = rw number at (both_received _ _ _ (codes "[") _ c.in_ok-write_whole.ensures.text c.in_ok-write_whole-2.ensures.text) in
    rw (indexed c.args.index (ascii c.args.index c.as_bytes.result.now _ c.as_bytes.ensures.value number c.format.ensures.ascii))
    (ends_behind c.write_whole-3.result _ _ _ _ (codes "]") written c.write_whole-3.ensures.text)
