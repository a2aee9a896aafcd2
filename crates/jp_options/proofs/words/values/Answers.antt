use Rattle.std.proofs.Common.{ap, map, unwrap_or, refl, [], ◌≡◌, ◌∙◌}
use Rattle.std.proofs.lemmas.Result.{IfOk-weaker}
use Rattle.clap.specs.Words.{found_of, rows_of}
use Rattle.clap.proofs.WalkLemmas.{raw_values-rows}
use Rattle.jp_options.specs.Command.{values_in}
use Rattle.jp_options.proofs.Program.{values_or_none}
use Rattle.jp_options.proofs.words.values.Goals as goal

pub returns : goal.returns
returns c = IfOk-weaker c.from_slice.result (λ found. found.items ≡ c.unwrap_or.result.now)
    (λ found. map (λ s. s.now) found.items ≡ values_in c.args.id.now (rows_of (found_of c.args.matches.now)))
    (λ found e. ap (map (λ s. s.now)) (e ∙ ap (λ s. s.now) c.unwrap_or.ensures)
    ∙ values_or_none c.get_strs.result _ refl
    ∙ ap (λ values. unwrap_or values []) (c.get_strs.ensures ∙ raw_values-rows (found_of c.args.matches.now) c.args.id.now))
    c.from_slice.ensures.items
