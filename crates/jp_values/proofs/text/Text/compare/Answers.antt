use Rattle.std.proofs.Common.{◌≡◌, ◌∙◌, ap, ap₂, sym, List, ℕ, chars}
use Rattle.std.specs.Cmp.Lexicographic.{slice_cmp}
use Rattle.std.specs.Ordering.{nat_cmp, ordering_reverse}
use Rattle.std.proofs.lemmas.Cmp.{nat_list_cmp_total}
use Rattle.jp_strings.specs.Points.{points_of}
use Rattle.jp_values.specs.Scalars.{text_points}
use Rattle.jp_values.proofs.text.Text.compare.Goals as goal

pub returns-in-Plain-Body : goal.returns-in-Plain-Body
returns-in-Plain-Body c =
    let d = c.in-Plain-Body in
    let body : points_of c.bytes-in-Plain-Body.result.now ≡ text_points c.args.other = ap points_of c.bytes-in-Plain-Body.ensures.value ∙ sym (ap text_points d.is-1) in
    let plain : chars d.plain.now ≡ text_points c.args.self = sym (ap text_points d.is-0) in
    c.reverse.ensures ∙ (ap ordering_reverse c.compare_text-in-Plain-Body.ensures
    ∙ (sym (nat_list_cmp_total.antisymm (chars d.plain.now) (points_of c.bytes-in-Plain-Body.result.now)) ∙ ap₂ (λ (x y : List ℕ). slice_cmp nat_cmp x y) plain body))
