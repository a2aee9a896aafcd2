use Rattle.std.proofs.Common.{ap, sym, codes, false, option_map, ◌∙◌}
use Rattle.std.specs.Option.{option_map_or}
use Rattle.std.specs.Str.{bytes_eq}
use Rattle.clap.specs.Words.{found_of}
use Rattle.clap.proofs.WalkLemmas.{first_value-rows}
use Rattle.jp_options.proofs.words.is_given.Goals as goal

pub returns-in-Some : goal.returns-in-Some
returns-in-Some c =
    c.eq.ensures ∙ ap (λ value. option_map_or (λ v. bytes_eq v (codes "true")) value false)
    (ap (option_map (λ s. s.now)) (sym c.in-Some.is) ∙ c.get_str.ensures ∙ first_value-rows (found_of c.args.matches.now) c.args.id.now)

pub returns-in-None : goal.returns-in-None
returns-in-None c = ap (λ value. option_map_or (λ v. bytes_eq v (codes "true")) value false)
    (ap (option_map (λ s. s.now)) (sym c.in-None.is) ∙ c.get_str.ensures ∙ first_value-rows (found_of c.args.matches.now) c.args.id.now)
