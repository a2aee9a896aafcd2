use Rattle.std.proofs.Common.{◌<◌, ℕ, subst, sym, arith}
use Rattle.jp_query.proofs.Spellings.{number_stands, ascii_at}
use Rattle.jp_query.proofs.parser.numbers.number_bytes.Goals as goal

pub overflow_cast-c : goal.overflow_cast-c
overflow_cast-c c =
    let stands = number_stands c.args.text.now (c.in_ok-spelling.spelling.now, c.in_ok-spelling.rest.now) c.in_ok-spelling.ensures in
    let below : c.c-item.result < 128 = subst (λ (n : ℕ). n < 128) (sym c.c-item.is) (ascii_at c.in_ok-spelling.spelling.now c.loop-c.c-index c.c-item.result c.loop-c-test.true stands.1) in
    omega arith
