-- A line with a word and its argument asks for what these ask for.
use Rattle.std.proofs.Common.{◌∙◌, ap, ap₂, sym, length}
use Rattle.jp_model.specs.Characters.{text_equal}
use Rattle.jp_model.specs.Script.Commands.{command_with}
use Rattle.jp_cli.proofs.CommandWords.{asks_by_word, not_empty}
use Rattle.jp_cli.proofs.command.read_command.Goals as goal

pub returns-in-Some : goal.returns-in-Some
returns-in-Some c =
    let line = c.args.line.now in
    let parts = c.in-Some.ensures in
    c.read_argument.ensures
    ∙ sym (asks_by_word line (not_empty (length line) _ c.is_empty.ensures c.if-is_empty.false)
    (ap (text_equal line) (sym c.as_slice.ensures) ∙ sym c.eq.ensures ∙ c.if-eq.false) (ap (text_equal line) (sym c.as_slice-2.ensures) ∙ sym c.eq-2.ensures ∙ c.if-eq-2.false)
    ∙ ap₂ command_with parts.0 parts.1)
