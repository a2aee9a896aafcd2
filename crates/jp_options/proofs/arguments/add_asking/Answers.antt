use Rattle.std.proofs.Common.{◌≡◌, [], ◌∷◌, codes}
use Rattle.std.proofs.lemmas.Result.{IfOk-weaker}
use Rattle.clap.specs.Words.{AddsArg, app_of}
use Rattle.jp_options.specs.Command.{asking_rules, flag_rule, list_rule, option_rule, value_rule, with_rules, words_rule}
use Rattle.jp_options.proofs.Program.{with_no_rules, with_one_more}
use Rattle.jp_options.proofs.arguments.add_asking.Goals as goal

pub returns : goal.returns
returns c =
    let start = app_of c.args.command in
    let e1 = with_one_more c.args.command c.in_ok-arg.field-0 c.words_argument.result start [] _ c.in_ok-arg.ensures c.words_argument.ensures.local c.words_argument.ensures.rule (with_no_rules start) in
    let e2 = with_one_more c.in_ok-arg.field-0 c.in_ok-arg-2.field-0 c.query_argument.result start (words_rule ∷ []) _ c.in_ok-arg-2.ensures c.query_argument.ensures.local c.query_argument.ensures.rule e1 in
    let e3 = with_one_more c.in_ok-arg-2.field-0 c.in_ok-arg-3.field-0 c.where_argument.result start (words_rule ∷ option_rule (codes "query") 0x65 (codes "query") ∷ []) _ c.in_ok-arg-3.ensures c.where_argument.ensures.local c.where_argument.ensures.rule e2 in
    let e4 = with_one_more c.in_ok-arg-3.field-0 c.in_ok-arg-4.field-0 c.value_argument.result start (words_rule ∷ option_rule (codes "query") 0x65 (codes "query") ∷ option_rule (codes "where") 0x77 (codes "where") ∷ []) _ c.in_ok-arg-4.ensures c.value_argument.ensures.local c.value_argument.ensures.rule e3 in
    let e5 = with_one_more c.in_ok-arg-4.field-0 c.in_ok-arg-5.field-0 c.list_argument.result start (words_rule ∷ option_rule (codes "query") 0x65 (codes "query") ∷ option_rule (codes "where") 0x77 (codes "where") ∷ value_rule (codes "each") ∷ []) _ c.in_ok-arg-5.ensures c.list_argument.ensures.local c.list_argument.ensures.rule e4 in
    let e6 = with_one_more c.in_ok-arg-5.field-0 c.in_ok-arg-6.field-0 c.list_argument-2.result start (words_rule ∷ option_rule (codes "query") 0x65 (codes "query") ∷ option_rule (codes "where") 0x77 (codes "where") ∷ value_rule (codes "each") ∷ list_rule (codes "in") ∷ []) _ c.in_ok-arg-6.ensures c.list_argument-2.ensures.local c.list_argument-2.ensures.rule e5 in
    let e7 = with_one_more c.in_ok-arg-6.field-0 c.in_ok-arg-7.field-0 c.flag.result start (words_rule ∷ option_rule (codes "query") 0x65 (codes "query") ∷ option_rule (codes "where") 0x77 (codes "where") ∷ value_rule (codes "each") ∷ list_rule (codes "in") ∷ list_rule (codes "not-in") ∷ []) _ c.in_ok-arg-7.ensures c.flag.ensures.local c.flag.ensures.rule e6 in
    IfOk-weaker c.arg-8.result (AddsArg c.in_ok-arg-7.field-0 c.word_flag.result) (λ more. app_of more ≡ with_rules start asking_rules)
    (λ more adds. with_one_more c.in_ok-arg-7.field-0 more c.word_flag.result start
    (words_rule ∷ option_rule (codes "query") 0x65 (codes "query") ∷ option_rule (codes "where") 0x77 (codes "where") ∷ value_rule (codes "each") ∷ list_rule (codes "in") ∷ list_rule (codes "not-in") ∷ flag_rule (codes "invert") 0x76 (codes "invert-match") ∷ []) _ adds c.word_flag.ensures.local c.word_flag.ensures.rule e7)
    c.arg-8.ensures
