-- The spans in their order colour what they do in any other.
use Rattle.std.proofs.Common.{rules, ◌∙◌, ◌++◌, ap}
use Rattle.std.proofs.lemmas.List.Sorted.{IsNonDecreasingBy-from_sort_by_key}
use Rattle.std.proofs.lemmas.Result.{on_ok_weaker}
use Rattle.jp_model.specs.declared.Span.{Span}
use Rattle.jp_model.specs.Json.Places.{bytes_between}
use Rattle.jp_paint.proofs.Runs.{any_order}
use Rattle.jp_paint.proofs.marked.push_marked.Goals as goal

pub push_in_order-requires-clause-spans : goal.push_in_order-requires-clause-spans
push_in_order-requires-clause-spans c =
    IsNonDecreasingBy-from_sort_by_key (λ (s : Span). s.start) c.sort_unstable_by_key.new.self c.sort_unstable_by_key.ensures.sorted (λ a r q. search rules)

pub returns : goal.returns
returns c =
    on_ok_weaker c.push_in_order.result (λ added.
    added ∙ ap (λ l. c.args.text.now.items ++ l) (any_order c.args.spans.now c.sort_unstable_by_key.new.self c.args.part.start (bytes_between c.args.line.now c.args.part.start c.args.part.end) c.sort_unstable_by_key.ensures.permutation)) c.push_in_order.ensures
