use Rattle.std.proofs.Common.{◌≡◌, [], ◌∷◌, codes}
use Rattle.std.proofs.lemmas.Result.{IfOk-weaker}
use Rattle.clap.specs.Words.{AddsArg, app_of}
use Rattle.jp_options.specs.Command.{flag_rule, printing_rules, with_rules}
use Rattle.jp_options.proofs.Program.{with_no_rules, with_one_more}
use Rattle.jp_options.proofs.arguments.add_printing.Goals as goal

pub returns : goal.returns
returns c =
    let start = app_of c.args.command in
    let e1 = with_one_more c.args.command c.in_ok-arg.field-0 c.flag.result start [] _ c.in_ok-arg.ensures c.flag.ensures.local c.flag.ensures.rule (with_no_rules start) in
    let e2 = with_one_more c.in_ok-arg.field-0 c.in_ok-arg-2.field-0 c.flag-2.result start (flag_rule (codes "only") 0x6F (codes "only-matching") ∷ []) _ c.in_ok-arg-2.ensures c.flag-2.ensures.local c.flag-2.ensures.rule e1 in
    let e3 = with_one_more c.in_ok-arg-2.field-0 c.in_ok-arg-3.field-0 c.flag-3.result start (flag_rule (codes "only") 0x6F (codes "only-matching") ∷ flag_rule (codes "path") 0x70 (codes "path") ∷ []) _ c.in_ok-arg-3.ensures c.flag-3.ensures.local c.flag-3.ensures.rule e2 in
    let e4 = with_one_more c.in_ok-arg-3.field-0 c.in_ok-arg-4.field-0 c.flag-4.result start (flag_rule (codes "only") 0x6F (codes "only-matching") ∷ flag_rule (codes "path") 0x70 (codes "path") ∷ flag_rule (codes "count") 0x63 (codes "count") ∷ []) _ c.in_ok-arg-4.ensures c.flag-4.ensures.local c.flag-4.ensures.rule e3 in
    let e5 = with_one_more c.in_ok-arg-4.field-0 c.in_ok-arg-5.field-0 c.flag-5.result start (flag_rule (codes "only") 0x6F (codes "only-matching") ∷ flag_rule (codes "path") 0x70 (codes "path") ∷ flag_rule (codes "count") 0x63 (codes "count") ∷ flag_rule (codes "with") 0x6C (codes "files-with-matches") ∷ []) _ c.in_ok-arg-5.ensures c.flag-5.ensures.local c.flag-5.ensures.rule e4 in
    let e6 = with_one_more c.in_ok-arg-5.field-0 c.in_ok-arg-6.field-0 c.flag-6.result start (flag_rule (codes "only") 0x6F (codes "only-matching") ∷ flag_rule (codes "path") 0x70 (codes "path") ∷ flag_rule (codes "count") 0x63 (codes "count") ∷ flag_rule (codes "with") 0x6C (codes "files-with-matches") ∷ flag_rule (codes "without") 0x4C (codes "files-without-match") ∷ []) _ c.in_ok-arg-6.ensures c.flag-6.ensures.local c.flag-6.ensures.rule e5 in
    IfOk-weaker c.arg-7.result (AddsArg c.in_ok-arg-6.field-0 c.word_flag.result) (λ more. app_of more ≡ with_rules start printing_rules)
    (λ more adds. with_one_more c.in_ok-arg-6.field-0 more c.word_flag.result start (flag_rule (codes "only") 0x6F (codes "only-matching") ∷ flag_rule (codes "path") 0x70 (codes "path") ∷ flag_rule (codes "count") 0x63 (codes "count") ∷ flag_rule (codes "with") 0x6C (codes "files-with-matches") ∷ flag_rule (codes "without") 0x4C (codes "files-without-match") ∷ flag_rule (codes "quiet") 0x71 (codes "quiet") ∷ []) _ adds c.word_flag.ensures.local c.word_flag.ensures.rule e6)
    c.arg-7.ensures
