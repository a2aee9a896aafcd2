-- A call that answers a value is of `length`, or it is of `count` or `value` and is given nodes.
use Rattle.std.proofs.Common.{◌≡◌, ◌∙◌, ℕ, true, false, List, [], ◌∷◌, codes, ap, sym, subst, refl, arith, chars, string_bytes, bytes_eq, get_or}
use Rattle.std.specs.List.{list_all}
use Rattle.std.specs.Prelude.{nat_lt}
use Rattle.std.specs.Str.{IsUtf8}
use Rattle.jp_model.specs.Characters.{text_equal}
use Rattle.jp_model.specs.Query.Syntax as syntax
use Rattle.jp_model.specs.Query.Typing.{nodes_kind, value_kind, argument_typed}
use Rattle.jp_syntax.specs.View.{argument_view, arguments_view, call_view}
use Rattle.jp_syntax.specs.declared.tree.Argument.{Argument}
use Rattle.jp_syntax.specs.declared.tree.Call.{Call}
use Rattle.jp_eval.proofs.Called.{fits, answers_no_nodes, is_value, nodes_given, one_called, one_taken, word_is, word_is_not}
use Rattle.jp_eval.proofs.Lists.{one_item}
use Rattle.jp_eval.proofs.Views.{call_viewed, condition_viewed, constant_viewed, nodes_viewed, result_viewed}
use Rattle.jp_eval.proofs.calls.value_call.Goals as goal

-- the only argument
only : (call : Call) (a : Argument) → fits value_kind (call_view call) ≡ true → a ≡ get_or call.arguments.items 0 a → call.arguments.items ≡ a ∷ []
only call a h is = let one = one_taken call h in one_item call.arguments.items a is (omega (arith, one)) (omega (arith, one))

-- is given as nodes, where the function is not `length`
given : (call : Call) (a : Argument) → fits value_kind (call_view call) ≡ true → call.arguments.items ≡ a ∷ [] → text_equal (chars (string_bytes call.name)) (codes "length") ≡ false → argument_typed (argument_view a) nodes_kind ≡ true
given call a h is n =
    nodes_given (chars (string_bytes call.name)) (argument_view a) n (subst (λ (l : List Argument). fits value_kind (syntax.call (chars (string_bytes call.name)) (arguments_view l)) ≡ true) is (subst (λ (v : syntax.Call). fits value_kind v ≡ true) (call_viewed call) h))

-- the name was compared with a word
differs : (s own w : List ℕ) → own ≡ s → IsUtf8 own → list_all (λ x. nat_lt x 128) w ≡ true → bytes_eq own w ≡ false → text_equal (chars s) w ≡ false
differs s own w e u a h = subst (λ (x : List ℕ). text_equal (chars x) w ≡ false) e (word_is_not own w u a h)

pub returns-then-eq : goal.returns-then-eq
returns-then-eq c =
    let call : Call = c.args.call.now in
    let name : chars (string_bytes call.name) ≡ codes "length" = ap chars (sym c.as_str.ensures.value) ∙ word_is c.as_str.result.now (codes "length") refl (sym c.eq.ensures ∙ c.if-eq.true) in
    one_called call (codes "length") c.index-argument.result.now name (only call c.index-argument.result.now c.requires c.index-argument.ensures)

pub unreachable-requires : goal.unreachable-requires
unreachable-requires c =
    let call : Call = c.args.call.now in
    let a : Argument = c.index-argument.result.now in
    let n = differs (string_bytes call.name) c.as_str.result.now (codes "length") c.as_str.ensures.value c.as_str.utf8 refl (sym c.eq.ensures ∙ c.if-eq.false) in
    let typed = given call a c.requires (only call a c.requires c.index-argument.ensures) n in
    let is : argument_view a ≡ syntax.constant_argument _ = ap argument_view c.in-Constant.is ∙ constant_viewed _ in
    let no : argument_typed (argument_view a) nodes_kind ≡ false = ap (λ (x : syntax.Argument). argument_typed x nodes_kind) is in
    cc

pub unreachable-requires-in-Condition : goal.unreachable-requires-in-Condition
unreachable-requires-in-Condition c =
    let call : Call = c.args.call.now in
    let a : Argument = c.index-argument.result.now in
    let n = differs (string_bytes call.name) c.as_str.result.now (codes "length") c.as_str.ensures.value c.as_str.utf8 refl (sym c.eq.ensures ∙ c.if-eq.false) in
    let typed = given call a c.requires (only call a c.requires c.index-argument.ensures) n in
    let is : argument_view a ≡ syntax.condition _ = ap argument_view c.in-Condition.is ∙ condition_viewed _ in
    let no : argument_typed (argument_view a) nodes_kind ≡ false = ap (λ (x : syntax.Argument). argument_typed x nodes_kind) is in
    cc

pub unreachable-requires-in-Result : goal.unreachable-requires-in-Result
unreachable-requires-in-Result c =
    let call : Call = c.args.call.now in
    let a : Argument = c.index-argument.result.now in
    let n = differs (string_bytes call.name) c.as_str.result.now (codes "length") c.as_str.ensures.value c.as_str.utf8 refl (sym c.eq.ensures ∙ c.if-eq.false) in
    let typed = given call a c.requires (only call a c.requires c.index-argument.ensures) n in
    answers_no_nodes (call_view c.in-Result.field-0) (subst (λ (x : syntax.Argument). argument_typed x nodes_kind ≡ true) (ap argument_view c.in-Result.is ∙ result_viewed c.in-Result.field-0) typed)

pub returns-then-eq-2 : goal.returns-then-eq-2
returns-then-eq-2 c =
    let call : Call = c.args.call.now in
    let a : Argument = c.index-argument.result.now in
    let name : chars (string_bytes call.name) ≡ codes "count" = ap chars (sym c.as_str-2.ensures.value) ∙ word_is c.as_str-2.result.now (codes "count") refl (sym c.eq-2.ensures ∙ c.if-eq-2.true) in
    ap (λ (x : syntax.Argument). syntax.call (codes "count") (syntax.argument x syntax.no_arguments)) (sym (ap argument_view c.in-Nodes.is ∙ nodes_viewed c.in-Nodes.path))
    ∙ one_called call (codes "count") a name (only call a c.requires c.index-argument.ensures)

pub returns-else-eq-2 : goal.returns-else-eq-2
returns-else-eq-2 c =
    let call : Call = c.args.call.now in
    let a : Argument = c.index-argument.result.now in
    let s : List ℕ = string_bytes call.name in
    let m = differs s c.as_str.result.now (codes "length") c.as_str.ensures.value c.as_str.utf8 refl (sym c.eq.ensures ∙ c.if-eq.false) in
    let n = differs s c.as_str-2.result.now (codes "count") c.as_str-2.ensures.value c.as_str-2.utf8 refl (sym c.eq-2.ensures ∙ c.if-eq-2.false) in
    let name = is_value (chars s) (arguments_view call.arguments.items) m n (subst (λ (v : syntax.Call). fits value_kind v ≡ true) (call_viewed call) c.requires) in
    ap (λ (x : syntax.Argument). syntax.call (codes "value") (syntax.argument x syntax.no_arguments)) (sym (ap argument_view c.in-Nodes.is ∙ nodes_viewed c.in-Nodes.path))
    ∙ one_called call (codes "value") a name (only call a c.requires c.index-argument.ensures)
