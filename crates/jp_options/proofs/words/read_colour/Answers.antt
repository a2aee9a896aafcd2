-- What the value says, if there is one.
use Rattle.std.proofs.Common.{ap, sym, codes, option_map, ◌∙◌}
use Rattle.clap.specs.Words.{found_of}
use Rattle.clap.proofs.WalkLemmas.{first_value-rows}
use Rattle.jp_options.specs.Colour.{colour_of}
use Rattle.jp_options.proofs.words.read_colour.Goals as goal

pub returns-in-Some : goal.returns-in-Some
returns-in-Some c =
    c.read.ensures ∙ ap colour_of (ap (option_map (λ s. s.now)) (sym c.in-Some.is) ∙ c.get_str.ensures ∙ first_value-rows (found_of c.args.matches.now) (codes "color"))

pub returns-in-None : goal.returns-in-None
returns-in-None c = ap colour_of (ap (option_map (λ s. s.now)) (sym c.in-None.is) ∙ c.get_str.ensures ∙ first_value-rows (found_of c.args.matches.now) (codes "color"))
