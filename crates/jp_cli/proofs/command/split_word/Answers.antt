-- The first space parts the word and its argument.
use Rattle.std.proofs.Common.{◌≡◌, ◌+◌, ◌∙◌, ap, sym, subst, suc, drop, arith}
use Rattle.std.specs.Prelude.{Some}
use Rattle.std.proofs.lemmas.List.{take_rest}
use Rattle.memchr.specs.Find.{IsFirstByte, is_byte}
use Rattle.jp_cli.proofs.CommandWords.{no_argument, parted}
use Rattle.jp_cli.proofs.command.split_word.Goals as goal

pub returns-in_default : goal.returns-in_default
returns-in_default c = no_argument c.args.line.now (subst (IsFirstByte (is_byte 32) c.args.line.now) c.in_default.is c.memchr.ensures)

pub returns : goal.returns
returns c =
    let line = c.args.line.now in
    let at = c.in-Some.end in
    let parts = parted line at (subst (IsFirstByte (is_byte 32) line) c.in-Some.is c.memchr.ensures) in
    let next : suc at ≡ at + 1 = omega arith in
    (parts.0, parts.1 ∙ ap Some (ap (λ n. drop n line) next ∙ sym (take_rest line (at + 1))))
