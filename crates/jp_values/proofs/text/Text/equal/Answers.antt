use Rattle.std.proofs.Common.{◌≡◌, ◌∙◌, ap, ap₂, sym, List, ℕ, chars}
use Rattle.std.specs.Ordering.{is_eq}
use Rattle.std.proofs.lemmas.Map.Text.{is_eq-slice_cmp}
use Rattle.jp_model.specs.Characters.{text_equal}
use Rattle.jp_strings.specs.Points.{points_of}
use Rattle.jp_strings.proofs.Runs.{equal_turned}
use Rattle.jp_values.specs.Scalars.{text_points}
use Rattle.jp_values.proofs.text.Text.equal.Goals as goal

pub returns-in-Plain-Plain : goal.returns-in-Plain-Plain
returns-in-Plain-Plain c = c.is_eq.ensures ∙ (ap is_eq c.compare.ensures ∙ is_eq-slice_cmp (text_points c.args.self) (text_points c.args.other))

pub returns-in-Body-Plain : goal.returns-in-Body-Plain
returns-in-Body-Plain c =
    let d = c.in-Body-Plain in
    let body : points_of c.bytes-in-Body-Plain.result.now ≡ text_points c.args.self = ap points_of c.bytes-in-Body-Plain.ensures.value ∙ sym (ap text_points d.is-0) in
    let plain : chars d.plain.now ≡ text_points c.args.other = sym (ap text_points d.is-1) in
    c.spells.ensures ∙ (equal_turned (chars d.plain.now) (points_of c.bytes-in-Body-Plain.result.now) ∙ ap₂ (λ (x y : List ℕ). text_equal x y) body plain)
