use Rattle.std.proofs.Common.{◌≡◌, ◌==◌, ◌+◌, ◌<◌, length, get_or, take, drop, true, Some, rules, arith, sym, subst, ◌∙◌}
use Rattle.std.proofs.lemmas.List.{get_or_read}
use Rattle.std.proofs.lemmas.Bool.Decides.{nat_tests}
use Rattle.jp_model.specs.Pattern.Reading.{up_to}
use Rattle.jp_iregexp.proofs.Readers.{up_to_position, up_to_missing}
use Rattle.jp_iregexp.proofs.items.position_of.Goals as goal

pub returns-then-scalar-stop-clause-found : goal.returns-then-scalar-stop-clause-found
returns-then-scalar-stop-clause-found c = λ at e.
    let text = c.args.text.now in
    let stop = c.args.stop in
    let n = c.loop-at.at in
    let inside : n < length text = search rules in
    let read : c.index-text-at.result ≡ get_or text n 0 = get_or_read text n c.index-text-at.result inside c.index-text-at.is 0 in
    let equal = c.if-scalar-stop.true in
    let is : get_or text n 0 ≡ stop = sym read ∙ equal in
    let test : (get_or text n 0 == stop) ≡ true = grind (arith, nat_tests) in
    let same : n ≡ at = cc in
    subst (λ k. up_to stop text ≡ Some (take k text, drop (k + 1) text)) same (up_to_position stop text n inside test c.loop-at.invariant)

pub returns-clause-missing : goal.returns-clause-missing
returns-clause-missing c = λ e. up_to_missing c.args.stop c.args.text.now (λ k b. c.loop-at.invariant k (omega (arith, b)))
