use Rattle.std.proofs.Common.{◌∙◌, sym, ap}
use Rattle.jp_model.specs.declared.Framing.{Framing}
use Rattle.jp_model.specs.Json.Faults.{is_truncated}
use Rattle.jp_model.specs.Json.Tree.{value_of}
use Rattle.jp_nodes.proofs.Truncated.{root_kind, root_end, truncated_open, truncated_closed}
use Rattle.jp_nodes.proofs.ending.is_truncated.Goals as goal

pub returns-then-has_open_end : goal.returns-then-has_open_end
returns-then-has_open_end c t h e =
    let kind = c.kind_of_head-kind.ensures ∙ root_kind c.args.line.now c.args.words.now c.split.result t h e c.requires.room c.split.ensures in
    let end = root_end c.args.line.now c.args.words.now c.split-end.result t h e c.requires.room c.split-end.ensures c.split-end.result.half in
    truncated_open c.args.line.now t c.split-end.result.low h (sym (c.has_open_end.ensures (value_of t) kind) ∙ c.if-has_open_end.true) end ∙ ap (λ (f : Framing). is_truncated f c.args.line.now t) (sym c.in-Sequence.is)

pub returns-else-has_open_end : goal.returns-else-has_open_end
returns-else-has_open_end c t h e =
    let kind = c.kind_of_head-kind.ensures ∙ root_kind c.args.line.now c.args.words.now c.split.result t h e c.requires.room c.split.ensures in
    c.if-has_open_end.false ∙ (truncated_closed c.args.line.now t (sym (c.has_open_end.ensures (value_of t) kind) ∙ c.if-has_open_end.false) ∙ ap (λ (f : Framing). is_truncated f c.args.line.now t) (sym c.in-Sequence.is))
