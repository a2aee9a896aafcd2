use Rattle.std.proofs.Common.{rules, ◌≡◌, refl, sym, true, ◌||◌, ◌==◌}
use Rattle.std.proofs.lemmas.List.{take_rest}
use Rattle.jp_model.specs.Json.Numbers.{head_of}
use Rattle.jp_types.proofs.Exponents.{letter_read, digits_behind_zeros}
use Rattle.jp_types.proofs.numbers.begins_with_long_exponent.Goals as goal

pub returns-in-101 : goal.returns-in-101
returns-in-101 c =
    let letter : ((head_of c.args.text.now == 0x65) || (head_of c.args.text.now == 0x45)) ≡ true = search rules in
    rw (c.digit_count.ensures.count, c.behind_zeros.ensures, sym (digits_behind_zeros c.behind_sign.result.now), c.behind_sign.ensures, take_rest c.args.text.now 1, letter_read c.args.text.now letter) refl
