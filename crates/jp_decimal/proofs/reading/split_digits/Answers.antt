use Rattle.jp_decimal.proofs.ReadDigits.{digits_by_index}
use Rattle.jp_decimal.proofs.reading.split_digits.Goals as goal

pub returns-clause-digits : goal.returns-clause-digits
returns-clause-digits c = rw c.split_at.ensures.front (digits_by_index _ _ c.count_digits.ensures.within c.count_digits.ensures.digits)
