-- The queries of the texts so far are added.
use Rattle.std.proofs.Common.{◌≡◌, map, take}
use Rattle.jp_grep.specs.Matching.{conditions_of, each_of}
use Rattle.jp_c.specs.Asked.{AddsQueries}
use Rattle.jp_c.proofs.question.add_queries.Given as goal

abbrev pub invariant-loop-text : goal.invariant-loop-text
invariant-loop-text l = record {
  added : AddsQueries l.purpose (map (λ text. text.now) (take l.text-index l.texts)) l.fn.question l.question;
  conditions : conditions_of l.question ≡ conditions_of l.fn.question;
  each : each_of l.question ≡ each_of l.fn.question;
  wanted : l.question.wanted ≡ l.fn.question.wanted;
  purpose : l.question.purpose ≡ l.fn.question.purpose;
}
