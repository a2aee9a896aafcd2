use Rattle.std.proofs.Common.{◌≡◌, [], ◌∷◌, codes}
use Rattle.std.proofs.lemmas.Result.{IfOk-weaker}
use Rattle.clap.specs.Words.{AddsArg, app_of}
use Rattle.jp_options.specs.Command.{survey_rules, with_rules, word_rule}
use Rattle.jp_options.proofs.Program.{with_no_rules, with_one_more}
use Rattle.jp_options.proofs.arguments.add_survey.Goals as goal

pub returns : goal.returns
returns c =
    let start = app_of c.args.command in
    let e1 = with_one_more c.args.command c.in_ok-arg.field-0 c.word_flag.result start [] _ c.in_ok-arg.ensures c.word_flag.ensures.local c.word_flag.ensures.rule (with_no_rules start) in
    IfOk-weaker c.arg-2.result (AddsArg c.in_ok-arg.field-0 c.value_argument.result) (λ more. app_of more ≡ with_rules start survey_rules)
    (λ more adds. with_one_more c.in_ok-arg.field-0 more c.value_argument.result start (word_rule (codes "paths") ∷ []) _ adds c.value_argument.ensures.local c.value_argument.ensures.rule e1)
    c.arg-2.ensures
