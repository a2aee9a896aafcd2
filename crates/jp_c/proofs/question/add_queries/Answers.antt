-- The queries of one text more are added, or one of the texts is refused.
use Rattle.std.proofs.Common.{◌∙◌, ℕ, List, [], get_or, map}
use denote.Ref.{Bor}
use Rattle.jp_c.specs.Asked.{HasRefusedQuery, IsRefusedQuery, TellsRefusedQueries}
use Rattle.jp_c.specs.declared.question.FilterFault.{FilterFault}
use Rattle.jp_c.proofs.Asking.{handed_on, more_added, one_refused, told_of_whole}
use Rattle.jp_c.proofs.question.add_queries.Goals as goal

-- what stands in the place of an element that is not there
nothing : Bor (List ℕ)
nothing = record { ref_ptr = (0, 0); now = [] }

pub loop-text-preserved : goal.loop-text-preserved
unfolding nothing
loop-text-preserved c =
    let l = c.loop-text in
    let added = c.in_ok-add_query.ensures in
    record {
      added = more_added c.args.purpose c.args.texts.now l.text-index nothing c.args.question.now l.question c.add_query.new.question c.loop-text-test.true l.invariant.added added.added;
      conditions = added.conditions ∙ l.invariant.conditions;
      each = added.each ∙ l.invariant.each;
      wanted = added.wanted ∙ l.invariant.wanted;
      purpose = added.purpose ∙ l.invariant.purpose;
    }

pub returns-in_err-add_query-clause-refused : goal.returns-in_err-add_query-clause-refused
unfolding nothing
returns-in_err-add_query-clause-refused c =
    let purpose = c.args.purpose in
    let texts : List (Bor (List ℕ)) = c.args.texts.now in
    let n = c.loop-text.text-index in
    let fault : FilterFault = c.in_err-add_query.field-0.0 in
    handed_on (λ (f : FilterFault). TellsRefusedQueries f purpose (map (λ (t : Bor (List ℕ)). t.now) texts)) c.from_residual.result fault c.from_residual.ensures.1
    (told_of_whole fault (IsRefusedQuery purpose (get_or texts n nothing).now) (HasRefusedQuery purpose (map (λ (t : Bor (List ℕ)). t.now) texts)) (one_refused purpose texts n nothing c.loop-text-test.true) c.in_err-add_query.ensures.refused)
