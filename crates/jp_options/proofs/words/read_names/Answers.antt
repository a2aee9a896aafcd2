-- The value, if there is one.
use Rattle.std.proofs.Common.{◌≡◌, ◌∙◌, ap, sym, codes, map, option_map, Some, None}
use Rattle.std.proofs.lemmas.Result.{IfOk-weaker}
use Rattle.clap.specs.Words.{first_of, found_of, rows_of}
use Rattle.clap.proofs.WalkLemmas.{first_value-rows}
use Rattle.jp_model.specs.Lines.{pieces}
use Rattle.jp_options.specs.Command.{names_of}
use Rattle.jp_options.proofs.words.read_names.Goals as goal

pub returns-in-Some : goal.returns-in-Some
returns-in-Some c =
    let found = rows_of (found_of c.args.matches.now) in
    let value : Some c.in-Some.list.now ≡ first_of (codes "names") found =
    ap (option_map (λ s. s.now)) (sym c.in-Some.is) ∙ c.get_str.ensures ∙ first_value-rows (found_of c.args.matches.now) (codes "names") in
    IfOk-weaker c.split_list.result (λ parts. map (λ s. s.now) parts.items ≡ pieces 0x2C c.in-Some.list.now)
    (λ names. map (λ s. s.now) names.items ≡ names_of (first_of (codes "names") found))
    (λ names parts. parts ∙ ap names_of value)
    c.split_list.ensures

pub returns-in-None : goal.returns-in-None
returns-in-None c =
    let value : None ≡ first_of (codes "names") (rows_of (found_of c.args.matches.now)) =
    ap (option_map (λ s. s.now)) (sym c.in-None.is) ∙ c.get_str.ensures ∙ first_value-rows (found_of c.args.matches.now) (codes "names") in
    ap (map (λ s. s.now)) c.new.ensures.items ∙ ap names_of value
