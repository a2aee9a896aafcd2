use Rattle.std.proofs.Common.{rules, ◌≡◌, ◌∙◌, false, Some, chars, string_bytes, sym, map}
use Rattle.std.proofs.lemmas.List.{length-map}
use Rattle.jp_model.specs.Query.Typing.{signature_of}
use Rattle.jp_syntax.specs.View.{arguments_view}
use Rattle.jp_types.specs.Signatures.{all_fit, kind_view, signature_view}
use Rattle.jp_types.proofs.Arity.{call_not_fit, too_few}
use Rattle.jp_types.proofs.walk.Walk.+typing.Goals as goal

pub arguments_typed-returns-then-arguments-parameters : goal.arguments_typed-returns-then-arguments-parameters
arguments_typed-returns-then-arguments-parameters t c =
    let args = c.args.arguments.now in
    let kinds = c.args.parameters.now in
    sym (too_few args (map kind_view kinds) (λ e. c.if-arguments-parameters.true (e ∙ length-map kinds kind_view)))

pub call_typed-returns-then-not-all_fit : goal.call_typed-returns-then-not-all_fit
call_typed-returns-then-not-all_fit t c =
    let called = c.args.call.now in
    let s = signature_view c.in-Some.field-0 in
    let e : signature_of (chars (string_bytes called.name)) ≡ Some s = search rules in
    let h : all_fit (arguments_view called.arguments.items) s.parameters ≡ false = search rules in
    call_not_fit (kind_view c.args.wanted) called s e h
