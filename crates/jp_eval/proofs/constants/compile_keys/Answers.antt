-- A key more, and a segment less.
use Rattle.std.proofs.Common.{◌≡◌, ◌∙◌, ℕ, ◌+◌, ◌++◌, [], ◌∷◌, List, map, drop, ap, sym, subst, append_assoc, append-nil, Option}
use Rattle.std.specs.Prelude.{IfSome}
use Rattle.std.proofs.lemmas.List.{drop_all}
use Rattle.jp_model.specs.Query.Syntax as syntax
use Rattle.jp_syntax.specs.View.{segment_view, segments_of}
use Rattle.jp_syntax.specs.declared.tree.Segment.{Segment}
use Rattle.jp_eval.specs.Keys.{key_segment}
use Rattle.jp_eval.specs.declared.question.Key.{Key}
use Rattle.jp_eval.proofs.Lists.{item_at}
use Rattle.jp_eval.proofs.Meanings.{map_last}
use Rattle.jp_eval.proofs.constants.compile_keys.Goals as goal

pub loop-segment-preserved : goal.loop-segment-preserved
loop-segment-preserved c =
    let i : ℕ = c.loop-segment.segment-index in
    let all : List Segment = c.args.segments.now in
    let first : Segment = c.segment-item.result in
    let rest : List syntax.Segment = map segment_view (drop (i + 1) all) in
    let keys : List Key = c.loop-segment.keys.items in
    let own : segment_view first ≡ key_segment c.in-Some.key = subst (λ (found : Option Key). IfSome found (λ k. segment_view first ≡ key_segment k)) c.in-Some.is c.in_ok-key.ensures in
    let here : drop i all ≡ first ∷ drop (i + 1) all = item_at all i first c.loop-segment-test.true c.segment-item.is in
    ap (λ (l : List Key). map key_segment l ++ rest) c.in_ok-push-in-Some.ensures.items
    ∙ (ap (λ (l : List syntax.Segment). l ++ rest) (map_last key_segment keys c.in-Some.key)
    ∙ (append_assoc (map key_segment keys) (key_segment c.in-Some.key ∷ []) rest
    ∙ (ap (λ (s : syntax.Segment). map key_segment keys ++ s ∷ rest) (sym own)
    ∙ (ap (λ (l : List Segment). map key_segment keys ++ map segment_view l) (sym here) ∙ c.loop-segment.invariant))))

pub returns : goal.returns
returns c =
    let all : List Segment = c.args.segments.now in
    let keys : List Key = c.loop-segment.keys.items in
    ap segments_of (sym (append-nil (map key_segment keys)) ∙ (ap (λ (l : List Segment). map key_segment keys ++ map segment_view l) (sym (drop_all c.loop-segment.segment-index all c.loop-segment-test.false)) ∙ c.loop-segment.invariant))
