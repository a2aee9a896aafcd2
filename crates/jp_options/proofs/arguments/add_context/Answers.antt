use Rattle.std.proofs.Common.{◌≡◌, [], ◌∷◌, codes}
use Rattle.std.proofs.lemmas.Result.{IfOk-weaker}
use Rattle.clap.specs.Words.{AddsArg, app_of}
use Rattle.jp_options.specs.Command.{context_rules, number_rule, with_rules}
use Rattle.jp_options.proofs.Program.{with_no_rules, with_one_more}
use Rattle.jp_options.proofs.arguments.add_context.Goals as goal

pub returns : goal.returns
returns c =
    let start = app_of c.args.command in
    let e1 = with_one_more c.args.command c.in_ok-arg.field-0 c.number_argument.result start [] _ c.in_ok-arg.ensures c.number_argument.ensures.local c.number_argument.ensures.rule (with_no_rules start) in
    let e2 = with_one_more c.in_ok-arg.field-0 c.in_ok-arg-2.field-0 c.number_argument-2.result start (number_rule (codes "after") 0x41 (codes "after-context") ∷ []) _ c.in_ok-arg-2.ensures c.number_argument-2.ensures.local c.number_argument-2.ensures.rule e1 in
    IfOk-weaker c.arg-3.result (AddsArg c.in_ok-arg-2.field-0 c.number_argument-3.result) (λ more. app_of more ≡ with_rules start context_rules)
    (λ more adds. with_one_more c.in_ok-arg-2.field-0 more c.number_argument-3.result start (number_rule (codes "after") 0x41 (codes "after-context") ∷ number_rule (codes "before") 0x42 (codes "before-context") ∷ []) _ adds c.number_argument-3.ensures.local c.number_argument-3.ensures.rule e2)
    c.arg-3.ensures
