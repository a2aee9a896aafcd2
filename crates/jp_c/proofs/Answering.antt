-- A question without queries asks `$`, which is never refused.
use Rattle.std.proofs.Common.{arith, ◌≡◌, ◌∙◌, [], ℕ, zero, suc, List, codes, inl, inr, refl, Option}
use Rattle.std.specs.Str.{chars, IsAscii}
use Rattle.std.proofs.lemmas.Str.{IsUtf8-from_ascii}
use Rattle.jp_model.specs.declared.QueryFault.{QueryFault}
use Rattle.jp_model.specs.Query.Spelling.{query as whole_query, segments_end}
use Rattle.jp_model.specs.Query.Status.{query, refused_query}
use Rattle.jp_model.specs.Query.Syntax.{no_segments}
use Rattle.jp_query.specs.Status.{query_of}
use Rattle.jp_query.proofs.Statuses.{one_status}
use Rattle.jp_form.specs.declared.form.Units.{Units}
use Rattle.jp_grep.specs.declared.question.Queries.TheVariants as purposes
use Rattle.jp_c.specs.Asked.{HasRefusedQuery, TellsRefusedQuestion, query_texts}
use Rattle.jp_c.specs.Surveyed.{TellsSurveyFault}
use Rattle.jp_c.specs.Values.{TellsValuesFault}
use Rattle.jp_c.specs.declared.question.FilterFault.{FilterFault}
use Rattle.jp_c.specs.declared.question.FilterFault.TheVariants as faults

root_is_ascii : IsAscii (codes "$")
root_is_ascii zero = omega arith
root_is_ascii (suc i) = omega arith

root_status : query no_segments ≡ query_of (codes "$")
unfolding chars
root_status = one_status (codes "$") (query no_segments) (refl, (IsUtf8-from_ascii (codes "$") root_is_ascii, whole_query segments_end), refl)

no_refusal : (fault : QueryFault) → query no_segments ≡ refused_query fault → ⊥
no_refusal fault e = cc

no_columns : purposes.Filter ≡ purposes.Columns → ⊥
no_columns e = cc

root_accepted : HasRefusedQuery purposes.Filter (query_texts []) → ⊥
root_accepted (inl (inl refused)) = no_refusal refused.0 (root_status ∙ refused.1)
root_accepted (inl (inr column)) = no_columns column.0
root_accepted (inr none) = absurd none

-- so only the condition of a survey is refused
pub survey_refused : (fault : FilterFault) (text condition : List ℕ) → TellsRefusedQuestion fault condition [] purposes.Filter → TellsSurveyFault fault text condition
survey_refused faults.Number text condition told = absurd told
survey_refused faults.Question text condition (inl refused) = refused
survey_refused faults.Question text condition (inr refused) = absurd (root_accepted refused)
survey_refused faults.Format text condition told = absurd told
survey_refused faults.Memory text condition told = tt

-- and nothing that is asked for values
pub values_refused : (fault : FilterFault) (text : List ℕ) (units : Option Units) → TellsRefusedQuestion fault [] [] purposes.Filter → TellsValuesFault fault text units
values_refused faults.Number text units told = absurd told
values_refused faults.Question text units (inl refused) = absurd (refused.0 refl)
values_refused faults.Question text units (inr refused) = absurd (root_accepted refused)
values_refused faults.Format text units told = absurd told
values_refused faults.Memory text units told = tt
