-- A call that answers a truth is of `match` or of `search`, with two arguments.
use Rattle.std.proofs.Common.{◌≡◌, ◌∙◌, ℕ, Bool, true, false, List, codes, ap, sym, subst, refl, arith, chars, string_bytes, bytes_eq}
use Rattle.std.specs.Str.{IsUtf8}
use Rattle.jp_model.specs.Query.Syntax as syntax
use Rattle.jp_model.specs.Query.Typing.{logical_kind}
use Rattle.jp_syntax.specs.View.{arguments_view}
use Rattle.jp_syntax.specs.declared.tree.Argument.{Argument}
use Rattle.jp_syntax.specs.declared.tree.Call.{Call}
use Rattle.jp_eval.specs.Questions.{passing_name}
use Rattle.jp_eval.proofs.Called.{fits, is_search, two_called, two_taken, word_is, word_is_not}
use Rattle.jp_eval.proofs.Lists.{two_items}
use Rattle.jp_eval.proofs.Views.{call_viewed}
use Rattle.jp_eval.proofs.calls.pattern_call.Goals as goal

named : (whole : Bool) (s : List ℕ) (args : syntax.Arguments) → IsUtf8 s → bytes_eq s (codes "match") ≡ whole → fits logical_kind (syntax.call (chars s) args) ≡ true → chars s ≡ passing_name whole
named true s args u e h = word_is s (codes "match") refl e
named false s args u e h = is_search (chars s) args (word_is_not s (codes "match") u refl e) h

pub returns : goal.returns
returns c =
    let call : Call = c.args.call.now in
    let s : List ℕ = string_bytes call.name in
    let typed = subst (λ (v : syntax.Call). fits logical_kind v ≡ true) (call_viewed call) c.requires in
    let two = two_taken call c.requires in
    let a : Argument = c.index.result.now in
    let b : Argument = c.index-2.result.now in
    let same : bytes_eq s (codes "match") ≡ c.eq-whole.result = ap (λ (x : List ℕ). bytes_eq x (codes "match")) (sym c.as_str.ensures.value) ∙ sym c.eq-whole.ensures in
    two_called call (passing_name c.eq-whole.result) a b (named c.eq-whole.result s (arguments_view call.arguments.items) (subst (λ (x : List ℕ). IsUtf8 x) c.as_str.ensures.value c.as_str.utf8) same typed)
    (two_items call.arguments.items a b c.index.ensures c.index-2.ensures (omega (arith, two)) (omega (arith, two)))
