use Rattle.std.proofs.Common.{sym, ap, map, option_map, ◌∷◌, [], ◌∙◌}
use Rattle.std.specs.Option.{option_map_or}
use Rattle.jp_cli.proofs.Program.{refused_by_sources}
use Rattle.jp_cli.proofs.words.read_words.Goals as goal

pub returns-clause-refused : goal.returns-clause-refused
returns-clause-refused c =
    refused_by_sources _ c.in_ok-options.options.file.now (option_map (λ s. s.now) c.in_ok-options.options.script) (map (λ s. s.now) c.in_ok-options.options.commands.items)
    c.in-Some.kind c.in_ok-error-in-Some.field-0 c.in_ok-options.ensures.refused c.in_ok-options.ensures.asked.file c.in_ok-options.ensures.asked.script c.in_ok-options.ensures.asked.commands
    (sym (ap (λ found. option_map_or (λ fault. fault.0 ∷ []) found []) c.in-Some.is) ∙ c.source_fault.ensures)
    c.in_ok-error-in-Some.ensures.kind
