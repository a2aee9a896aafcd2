use Rattle.std.proofs.Common.{ap, sym, refl, codes, map, option_map, unwrap_or, Ok, Err, [], ◌∙◌}
use Rattle.clap.specs.Words.{app_of}
use Rattle.clap.specs.declared.parser.matches.ArgMatches.{ArgMatches}
use Rattle.clap.proofs.CallerLemmas.{some_of_text}
use Rattle.jp_cli.specs.Words.{framing_of}
use Rattle.jp_cli.proofs.Program.{all_found, fails_by_faults, fails_on, first_found, values_or_none}
use Rattle.jp_cli.proofs.words.parse.Goals as goal

pub returns-in_err-matches-clause-refused : goal.returns-in_err-matches-clause-refused
returns-in_err-matches-clause-refused c =
    fails_on _ c.from_residual-in_err-matches.result c.in_err-matches.field-0.0 c.from_residual-in_err-matches.ensures.1
    (fails_by_faults {X = ArgMatches} (app_of c.in_ok-command.command) _ (Err c.in_err-matches.field-0.0) c.in_ok-command.ensures.program c.in_err-matches.ensures.kinds)

pub unwrap-requires : goal.unwrap-requires
unwrap-requires c =
    some_of_text _ c.get_str.result _ c.get_str.ensures (c.in_ok-command.ensures.file c.in_ok-matches.matches c.in_ok-matches.ensures.parsed)

pub returns-clause-asked : goal.returns-clause-asked
returns-clause-asked c = record {
  file = first_found (app_of c.in_ok-command.command) _ c.in_ok-matches.matches (codes "file") c.in_ok-command.ensures.program c.in_ok-matches.ensures.matches
      ∙ sym c.get_str.ensures ∙ ap (option_map (λ s. s.now)) c.unwrap.ensures;
  script = first_found (app_of c.in_ok-command.command) _ c.in_ok-matches.matches (codes "script") c.in_ok-command.ensures.program c.in_ok-matches.ensures.matches
      ∙ sym c.get_str-2.ensures;
  commands = ap (map (λ s. s.now)) (c.in_ok-from_slice.ensures.items ∙ ap (λ s. s.now) c.unwrap_or-commands.ensures)
      ∙ values_or_none c.get_strs.result _ refl
      ∙ ap (λ values. unwrap_or values []) (c.get_strs.ensures
      ∙ sym (all_found (app_of c.in_ok-command.command) _ c.in_ok-matches.matches (codes "command") c.in_ok-command.ensures.program c.in_ok-matches.ensures.matches));
  framing = c.framing_of.ensures ∙ ap framing_of (c.get_str-3.ensures
      ∙ sym (first_found (app_of c.in_ok-command.command) _ c.in_ok-matches.matches (codes "seq") c.in_ok-command.ensures.program c.in_ok-matches.ensures.matches));
}

pub returns-clause-refused : goal.returns-clause-refused
returns-clause-refused c =
    fails_by_faults {X = ArgMatches} (app_of c.in_ok-command.command) _ (Ok c.in_ok-matches.matches) c.in_ok-command.ensures.program c.in_ok-matches.ensures.kinds
