-- A body without an escape is the UTF-8 of what it spells.
use Rattle.std.proofs.Common.{ℕ, ◌<◌, ◌≤◌, ◌∙◌, ap, sym, length, chars}
use Rattle.std.proofs.lemmas.Str.{chars-encodes}
use Rattle.jp_strings.specs.Points.{points_of}
use Rattle.jp_strings.proofs.Runs.{plain_bytes}
use Rattle.jp_strings.proofs.Sizes.{points_are_scalars}
use Rattle.jp_strings.proofs.order.plain_text.Goals as goal

pub from_utf8_unchecked-requires : goal.from_utf8_unchecked-requires
from_utf8_unchecked-requires c =
    let body = c.args.body.now in
    let none = λ (k : ℕ) (from : 0 ≤ k) (to : k < length body). c.has_special.ensures.none c.if-has_special.false k to in
    (points_of body, (points_are_scalars body c.requires, plain_bytes body c.requires none))

pub returns-clause-text : goal.returns-clause-text
returns-clause-text c =
    let body = c.args.body.now in
    let none = λ (k : ℕ) (from : 0 ≤ k) (to : k < length body). c.has_special.ensures.none c.if-has_special.false k to in
    let own = plain_bytes body c.requires none in
    ap chars c.from_utf8_unchecked.ensures ∙ (ap chars (sym own) ∙ chars-encodes (points_of body) (points_are_scalars body c.requires))
