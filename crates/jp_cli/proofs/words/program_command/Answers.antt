use Rattle.std.proofs.Common.{◌≡◌, true, codes, refl, arith, [], ◌∷◌}
use Rattle.std.specs.Option.{is_some}
use Rattle.std.proofs.lemmas.Result.{IfOk-weaker}
use Rattle.clap.specs.Built.{FitsChain, IsParsedFrom}
use Rattle.clap.specs.Words.{AddsArg, app_of, first_value, found_of}
use Rattle.clap.specs.declared.parser.matches.ArgMatches.{ArgMatches}
use Rattle.clap.proofs.CallerLemmas.{required_in_chain}
use Rattle.jp_cli.specs.Words.{program}
use Rattle.jp_cli.proofs.Program.{all_of_four, fits_chain, has_distinct_ids, is_program, told_app, told_args, told_by, told_groups, told_local, told_negates}
use Rattle.jp_cli.proofs.words.program_command.Goals as goal

pub returns-clause-program : goal.returns-clause-program
returns-clause-program c =
    let dressed = told_by c.new.result c.version.result c.after_help.result _ _ c.version.ensures c.after_help.ensures in
    IfOk-weaker c.arg-4.result (AddsArg c.in_ok-arg-3.field-0 c.seq_argument.result) (λ made. app_of made ≡ program)
    (λ made last. is_program c.after_help.result c.in_ok-arg.field-0 c.in_ok-arg-2.field-0 c.in_ok-arg-3.field-0 made _ _ _ _
    (told_app c.new.result c.after_help.result (codes "jpq") dressed c.new.ensures.app)
    c.in_ok-arg.ensures c.in_ok-arg-2.ensures c.in_ok-arg-3.ensures last
    c.file_argument.ensures.argument.plain.1 c.command_argument.ensures.plain.1 c.script_argument.ensures.plain.1 c.seq_argument.ensures.plain.1
    c.file_argument.ensures.argument.rule c.command_argument.ensures.rule c.script_argument.ensures.rule c.seq_argument.ensures.rule)
    c.arg-4.ensures

pub returns-clause-file : goal.returns-clause-file
returns-clause-file c =
    let file = c.file_argument.result in
    let command = c.command_argument.result in
    let script = c.script_argument.result in
    let seq = c.seq_argument.result in
    let file_is : file.id.now ≡ codes "file" = c.file_argument.ensures.argument.id in
    let command_is : command.id.now ≡ codes "command" = c.command_argument.ensures.id in
    let script_is : script.id.now ≡ codes "script" = c.script_argument.ensures.id in
    let seq_is : seq.id.now ≡ codes "seq" = c.seq_argument.ensures.id in
    let file_fits = fits_chain file (codes "file") c.file_argument.ensures.argument.plain.0 c.file_argument.ensures.argument.plain.1 file_is
    (λ e. let bad : 102 ≡ 0 = e in absurd (omega arith)) (λ e. let bad : 102 ≡ 104 = e in absurd (omega arith)) (λ e. let bad : 102 ≡ 118 = e in absurd (omega arith)) in
    let command_fits = fits_chain command (codes "command") c.command_argument.ensures.plain.0 c.command_argument.ensures.plain.1 command_is
    (λ e. let bad : 99 ≡ 0 = e in absurd (omega arith)) (λ e. let bad : 99 ≡ 104 = e in absurd (omega arith)) (λ e. let bad : 99 ≡ 118 = e in absurd (omega arith)) in
    let script_fits = fits_chain script (codes "script") c.script_argument.ensures.plain.0 c.script_argument.ensures.plain.1 script_is
    (λ e. let bad : 115 ≡ 0 = e in absurd (omega arith)) (λ e. let bad : 115 ≡ 104 = e in absurd (omega arith)) (λ e. let bad : 115 ≡ 118 = e in absurd (omega arith)) in
    let seq_fits = fits_chain seq (codes "seq") c.seq_argument.ensures.plain.0 c.seq_argument.ensures.plain.1 seq_is
    (λ e. let bad : 115 ≡ 0 = e in absurd (omega arith)) (λ e. let bad : 115 ≡ 104 = e in absurd (omega arith)) (λ e. let bad : 115 ≡ 118 = e in absurd (omega arith)) in
    let dressed = told_by c.new.result c.version.result c.after_help.result _ _ c.version.ensures c.after_help.ensures in
    IfOk-weaker c.arg-4.result (AddsArg c.in_ok-arg-3.field-0 seq)
    (λ made. (m : ArgMatches) → IsParsedFrom made m → is_some (first_value (found_of m) (codes "file")) ≡ true)
    (λ made last m parsed. let given = required_in_chain c.after_help.result made (file ∷ command ∷ script ∷ seq ∷ []) 0 file m
    (c.in_ok-arg.field-0, c.in_ok-arg.ensures, (c.in_ok-arg-2.field-0, c.in_ok-arg-2.ensures, (c.in_ok-arg-3.field-0, c.in_ok-arg-3.ensures, (made, last, refl))))
    (told_args _ _ dressed c.new.ensures.empty.0) (told_groups _ _ dressed c.new.ensures.empty.1) (told_local _ _ dressed c.new.ensures.local) (told_negates _ _ dressed c.new.ensures.negates)
    (all_of_four FitsChain file command script seq file_fits command_fits script_fits seq_fits)
    (has_distinct_ids file command script seq file_is command_is script_is seq_is) (omega arith)
    c.file_argument.ensures.value parsed in rw (← file_is) given)
    c.arg-4.ensures
