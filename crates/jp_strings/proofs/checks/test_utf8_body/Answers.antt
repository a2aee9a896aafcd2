use Rattle.std.proofs.Common.{◌≡◌, ◌∙◌, ◌-◌, ℕ, List, length, take, ap, sym, subst, arith}
use Rattle.std.specs.Str.{IsUtf8}
use Rattle.std.proofs.lemmas.List.{take_all}
use Rattle.std.specs.Result.{MatchResult}
use Rattle.jp_model.specs.Json.Places.{bytes_between}
use Rattle.jp_strings.specs.Points.{IsText}
use Rattle.jp_strings.specs.Faults.{HasFault}
use Rattle.jp_strings.proofs.checks.test_utf8_body.Goals as goal

whole : (body : List ℕ) → bytes_between body 0 (length body) ≡ body
whole body = let all : length body - 0 ≡ length body = omega arith in ap (λ n. take n body) all ∙ take_all (length body) body (omega arith)

pub test_utf8_within-requires-clause-utf8 : goal.test_utf8_within-requires-clause-utf8
test_utf8_within-requires-clause-utf8 c = subst IsUtf8 (sym (whole c.args.body.now)) c.requires

pub returns : goal.returns
returns c = subst (λ (xs : List ℕ). MatchResult c.test_utf8_within.result (λ _. IsText xs) (HasFault xs)) (whole c.args.body.now) c.test_utf8_within.ensures
