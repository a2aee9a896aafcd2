use Rattle.std.proofs.Common.{◌%◌, refl, ap, add_comm, rules, arith}
use lib.Count.{ones, ones_in}
use Rattle.jp_lanes.specs.Word.{bit}
use Rattle.jp_masks.specs.Positions.{byte_bits}
use Rattle.jp_masks.proofs.ByteRows.{row_written, count_of, rows_are, table_of}
use Rattle.jp_masks.proofs.block.write_byte.Goals as goal

pub returns-clause-written : goal.returns-clause-written
returns-clause-written c =
    row_written _ _ c.args.at c.args.base c.args.byte c.args.positions.now c.bit_numbers-numbers.result (omega (arith, c.ranges.byte.fits)) (search rules) c.bit_numbers-numbers.ensures c.requires (λ i. ap (λ n. n % 4294967296) (add_comm i c.args.base))

pub returns-clause-count : goal.returns-clause-count
returns-clause-count c = count_of c.args.byte (omega (arith, c.ranges.byte.fits))

pub bit_numbers-numbers-requires : goal.bit_numbers-numbers-requires
unfolding rows_are ones ones_in byte_bits bit
bit_numbers-numbers-requires c = table_of _ refl refl
