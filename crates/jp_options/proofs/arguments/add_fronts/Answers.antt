use Rattle.std.proofs.Common.{◌≡◌, [], ◌∷◌, codes}
use Rattle.std.proofs.lemmas.Result.{IfOk-weaker}
use Rattle.clap.specs.Words.{AddsArg, app_of}
use Rattle.jp_options.specs.Command.{flag_rule, front_rules, number_rule, with_rules}
use Rattle.jp_options.proofs.Program.{with_no_rules, with_one_more}
use Rattle.jp_options.proofs.arguments.add_fronts.Goals as goal

pub returns : goal.returns
returns c =
    let start = app_of c.args.command in
    let e1 = with_one_more c.args.command c.in_ok-arg.field-0 c.flag.result start [] _ c.in_ok-arg.ensures c.flag.ensures.local c.flag.ensures.rule (with_no_rules start) in
    let e2 = with_one_more c.in_ok-arg.field-0 c.in_ok-arg-2.field-0 c.flag-2.result start (flag_rule (codes "number") 0x6E (codes "line-number") ∷ []) _ c.in_ok-arg-2.ensures c.flag-2.ensures.local c.flag-2.ensures.rule e1 in
    let e3 = with_one_more c.in_ok-arg-2.field-0 c.in_ok-arg-3.field-0 c.flag-3.result start (flag_rule (codes "number") 0x6E (codes "line-number") ∷ flag_rule (codes "name") 0x48 (codes "with-filename") ∷ []) _ c.in_ok-arg-3.ensures c.flag-3.ensures.local c.flag-3.ensures.rule e2 in
    let e4 = with_one_more c.in_ok-arg-3.field-0 c.in_ok-arg-4.field-0 c.flag-4.result start (flag_rule (codes "number") 0x6E (codes "line-number") ∷ flag_rule (codes "name") 0x48 (codes "with-filename") ∷ flag_rule (codes "unnamed") 0x68 (codes "no-filename") ∷ []) _ c.in_ok-arg-4.ensures c.flag-4.ensures.local c.flag-4.ensures.rule e3 in
    let e5 = with_one_more c.in_ok-arg-4.field-0 c.in_ok-arg-5.field-0 c.number_argument.result start (flag_rule (codes "number") 0x6E (codes "line-number") ∷ flag_rule (codes "name") 0x48 (codes "with-filename") ∷ flag_rule (codes "unnamed") 0x68 (codes "no-filename") ∷ flag_rule (codes "null") 0x5A (codes "null") ∷ []) _ c.in_ok-arg-5.ensures c.number_argument.ensures.local c.number_argument.ensures.rule e4 in
    IfOk-weaker c.arg-6.result (AddsArg c.in_ok-arg-5.field-0 c.value_argument.result) (λ more. app_of more ≡ with_rules start front_rules)
    (λ more adds. with_one_more c.in_ok-arg-5.field-0 more c.value_argument.result start (flag_rule (codes "number") 0x6E (codes "line-number") ∷ flag_rule (codes "name") 0x48 (codes "with-filename") ∷ flag_rule (codes "unnamed") 0x68 (codes "no-filename") ∷ flag_rule (codes "null") 0x5A (codes "null") ∷ number_rule (codes "most") 0x6D (codes "max-count") ∷ []) _ adds c.value_argument.ensures.local c.value_argument.ensures.rule e5)
    c.arg-6.ensures
