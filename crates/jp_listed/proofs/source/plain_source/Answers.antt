-- The body has no special byte.
use Rattle.std.proofs.Common.{◌∙◌, ◌+◌, ◌-◌, List, ℕ, length, ap₂, subst}
use Rattle.jp_listed.proofs.Sources.{plain_text}
use Rattle.jp_model.specs.declared.Span.{Span}
use Rattle.jp_model.specs.Json.Places.{bytes_between}
use Rattle.jp_nodes.specs.Cursors.{line_of, node_of}
use Rattle.jp_nodes.proofs.Cursors.{sound, span_room, standing}
use Rattle.jp_strings.specs.Plain.{ArePlain}
use Rattle.jp_listed.proofs.source.plain_source.Goals as goal

pub returns-then-is_plain : goal.returns-then-is_plain
returns-then-is_plain c =
    let self = c.args.string in
    let body = ap₂ (λ (line : List ℕ) (s : Span). bytes_between line (s.start + 1) (s.end - 1)) c.line-line.ensures.bytes c.span-span.ensures.value in
    c.source.ensures ∙ plain_text (line_of self) (node_of self).tree c.requires (span_room self).1 (standing self).spells (sound self).whole
    (subst (λ (b : List ℕ). ArePlain b 0 (length b)) body (c.is_plain.ensures.plain c.if-is_plain.true))
