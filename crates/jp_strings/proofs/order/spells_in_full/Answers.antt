-- A body without an escape spells a text exactly where it is its bytes.
use Rattle.std.proofs.Common.{nat_le, length, ap, arith}
use Rattle.std.proofs.lemmas.Bool.{leb-true, le-leb}
use Rattle.jp_strings.proofs.Runs.{plain_text_equal}
use Rattle.jp_strings.proofs.order.spells_in_full.Goals as goal

pub returns-then-is_plain : goal.returns-then-is_plain
returns-then-is_plain c =
    plain_text_equal (nat_le (length c.args.body.now) (length c.args.text.now)) c.args.body.now c.args.text.now c.requires.body (c.is_plain.ensures.plain c.if-is_plain.true) c.utf8.text
    (λ h. c.requires.same (leb-true _ _ h)) (λ e. le-leb _ _ (let l = ap length e in omega (arith, l)))
