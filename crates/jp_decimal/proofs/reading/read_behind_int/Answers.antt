use Rattle.jp_decimal.proofs.Spelled.{no_point_refused, point_refused, not_empty}
use Rattle.jp_decimal.proofs.reading.read_behind_int.Goals as goal

pub returns-in-Err-clause-read : goal.returns-in-Err-clause-read
returns-in-Err-clause-read c = no_point_refused c.in-Err.fault c.args.text.now c.in_default.ensures c.in-Err.ensures.read

pub returns-in-Err-read_exponent-clause-read : goal.returns-in-Err-read_exponent-clause-read
returns-in-Err-read_exponent-clause-read c =
    point_refused c.in-Err-read_exponent.fault c.args.text.now c.in-Some.rest.now c.split_digits.result.0.now c.split_digits.result.1.now c.in-Some.ensures c.split_digits.ensures.joined c.split_digits.ensures.digits c.split_digits.ensures.end (not_empty _ _ c.is_empty.ensures c.if-is_empty.false) c.in-Err-read_exponent.ensures.read
