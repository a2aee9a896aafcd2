use Rattle.std.proofs.Common.{ap, refl, sym, subst, map, Ok, Err, ◌∙◌}
use Rattle.clap.specs.Words.{app_of}
use Rattle.clap.specs.declared.parser.matches.ArgMatches.{ArgMatches}
use Rattle.jp_options.specs.Command.{IsAskedBy, found_in, has_values}
use Rattle.jp_options.proofs.Program.{value_refused, values_taken, fails_by_faults, fails_on, has_first_kind, matches_found}
use Rattle.jp_options.proofs.words.parse.Goals as goal

pub returns-in_err-matches-clause-refused : goal.returns-in_err-matches-clause-refused
returns-in_err-matches-clause-refused c =
    fails_on _ c.from_residual-in_err-matches.result c.in_err-matches.field-0.0 c.from_residual-in_err-matches.ensures.1
    (has_first_kind _ _ c.in_err-matches.field-0.0
    (fails_by_faults {X = ArgMatches} (app_of c.in_ok-command.command) _ (Err c.in_err-matches.field-0.0) c.in_ok-command.ensures c.in_err-matches.ensures.kinds))

pub returns-in-Ok-clause-asked : goal.returns-in-Ok-clause-asked
returns-in-Ok-clause-asked c = subst (λ found. IsAskedBy found c.in_ok-read_matches-in-Ok.field-0)
    (matches_found (app_of c.in_ok-command.command) _ c.in_ok-matches.matches c.in_ok-command.ensures c.in_ok-matches.ensures.matches)
    c.in_ok-read_matches-in-Ok.ensures

pub returns-in-Ok-clause-refused : goal.returns-in-Ok-clause-refused
returns-in-Ok-clause-refused c = values_taken _ (found_in (map (λ w. w.now) c.args.words.now))
    (fails_by_faults {X = ArgMatches} (app_of c.in_ok-command.command) _ (Ok c.in_ok-matches.matches) c.in_ok-command.ensures c.in_ok-matches.ensures.kinds)
    (sym (ap has_values (matches_found (app_of c.in_ok-command.command) _ c.in_ok-matches.matches c.in_ok-command.ensures c.in_ok-matches.ensures.matches))
    ∙ c.in-Ok.ensures.taken refl)

pub returns-clause-refused : goal.returns-clause-refused
returns-clause-refused c = value_refused _ (found_in (map (λ w. w.now) c.args.words.now)) c.in_ok-error-in-Err.field-0
    (fails_by_faults {X = ArgMatches} (app_of c.in_ok-command.command) _ (Ok c.in_ok-matches.matches) c.in_ok-command.ensures c.in_ok-matches.ensures.kinds)
    (sym (ap has_values (matches_found (app_of c.in_ok-command.command) _ c.in_ok-matches.matches c.in_ok-command.ensures c.in_ok-matches.ensures.matches))
    ∙ c.in-Err.ensures.refused refl)
    c.in_ok-error-in-Err.ensures.kind
