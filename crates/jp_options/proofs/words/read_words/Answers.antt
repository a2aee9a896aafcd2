use Rattle.std.proofs.Common.{ap, sym, map, ◌∷◌, [], ◌∙◌}
use Rattle.std.specs.Option.{option_map_or}
use Rattle.jp_options.specs.Command.{found_in}
use Rattle.jp_options.proofs.Program.{fails_on, has_first_kind, refused_by_conflict}
use Rattle.jp_options.proofs.words.read_words.Goals as goal

pub returns-clause-refused : goal.returns-clause-refused
returns-clause-refused c =
    refused_by_conflict _ (found_in (map (λ w. w.now) c.args.words.now)) c.in-Some.kind c.in_ok-error-in-Some.field-0 c.in_ok-options.ensures.refused
    (sym (ap (λ conflict. option_map_or (λ fault. fault.0 ∷ []) conflict []) c.in-Some.is) ∙ c.conflict.ensures _ c.in_ok-options.ensures.asked)
    c.in_ok-error-in-Some.ensures.kind

pub returns-in_err-options-clause-refused : goal.returns-in_err-options-clause-refused
returns-in_err-options-clause-refused c =
    fails_on _ c.from_residual.result c.in_err-options.field-0.0 c.from_residual.ensures.1 (has_first_kind _ _ c.in_err-options.field-0.0 c.in_err-options.ensures.refused)
