-- As many arguments as parameters.
use Rattle.std.proofs.Common.{◌≡◌, suc, List, [], ◌∷◌, length, Bool, true, false, ◌&&◌, Some, refl, sym, ap}
use Rattle.std.proofs.lemmas.Bool.{and_right, and_parts, and_from}
use Rattle.jp_model.specs.Query.Syntax.{Argument as Given, constant_argument, nodes_argument, condition, result_argument, Arguments, no_arguments, argument, call}
use Rattle.jp_model.specs.Query.Typing.{Kind, value_kind, nodes_kind, logical_kind, is_kind, is_singular_path, path_typed, logical_typed, argument_typed, arguments_typed, Signature, signature_of, call_serves, call_typed}
use Rattle.jp_types.specs.Signatures.{fits, all_fit}
use Rattle.std.specs.Prelude.{string_bytes}
use Rattle.std.specs.Str.{chars}
use Rattle.jp_model.specs.Query.Syntax as syntax
use Rattle.jp_syntax.specs.View.{arguments_view, call_view, argument_step, comparable_step, logical_step, segment_step, selector_step, call_step, path_step}
use Rattle.jp_syntax.specs.declared.tree.Call.{Call as Called, fold_out-Call}
use Rattle.jp_syntax.specs.declared.tree.Argument.{Argument}

pub too_few : (xs : List Argument) (ks : List Kind) → (length xs ≡ length ks → ⊥) → arguments_typed (arguments_view xs) ks ≡ false
too_few [] [] h = absurd (h refl)
too_few [] (k ∷ ks) h = refl
too_few (x ∷ xs) [] h = refl
too_few (x ∷ xs) (k ∷ ks) h = and_right _ _ (too_few xs ks (λ e. h (ap suc e)))

pub too_few_fit : (xs : List Argument) (ks : List Kind) → (length xs ≡ length ks → ⊥) → all_fit (arguments_view xs) ks ≡ false
too_few_fit [] [] h = absurd (h refl)
too_few_fit [] (k ∷ ks) h = refl
too_few_fit (x ∷ xs) [] h = refl
too_few_fit (x ∷ xs) (k ∷ ks) h = and_right _ _ (too_few_fit xs ks (λ e. h (ap suc e)))

-- an argument that is well-typed fits
typed_fits : (a : Given) (k : Kind) → argument_typed a k ≡ true → fits a k ≡ true
typed_fits (constant_argument c) k h = h
typed_fits (nodes_argument p) value_kind h = (and_parts (is_singular_path p) (path_typed p) h).0
typed_fits (nodes_argument p) nodes_kind h = refl
typed_fits (nodes_argument p) logical_kind h = refl
typed_fits (condition l) k h = (and_parts (is_kind logical_kind k) (logical_typed l) h).0
typed_fits (result_argument c) k h = refl

-- arguments that are well-typed fit
pub all_typed_fit : (args : Arguments) (ks : List Kind) → arguments_typed args ks ≡ true → all_fit args ks ≡ true
all_typed_fit no_arguments [] h = refl
all_typed_fit (argument a args) (k ∷ ks) h =
    let both = and_parts (argument_typed a k) (arguments_typed args ks) h in
    and_from (fits a k) (all_fit args ks) (typed_fits a k both.0) (all_typed_fit args ks both.1)
all_typed_fit no_arguments (k ∷ ks) h = h
all_typed_fit (argument a args) [] h = h

-- arguments that do not fit are not well-typed
not_fit : (args : Arguments) (ks : List Kind) → all_fit args ks ≡ false → arguments_typed args ks ≡ false
not_fit args ks h = step (arguments_typed args ks) refl
  where
    not_both : (b : Bool) → b ≡ true → b ≡ false → ⊥
    not_both b h e = cc

    step : (b : Bool) → arguments_typed args ks ≡ b → b ≡ false
    step false e = refl
    step true e = absurd (not_both (all_fit args ks) (all_typed_fit args ks e) h)

-- nor is the call
pub call_not_fit : (wanted : Kind) (c : Called) (s : Signature) → signature_of (chars (string_bytes c.name)) ≡ Some s → all_fit (arguments_view c.arguments.items) s.parameters ≡ false
    → false ≡ (call_serves wanted (call_view c) && call_typed (call_view c))
call_not_fit wanted c s e h =
    let args = arguments_view c.arguments.items in
    let view : call_view c ≡ call (chars (string_bytes c.name)) args =
    fold_out-Call syntax.Argument syntax.Comparable syntax.Logical syntax.Segment syntax.Selector syntax.Call syntax.Path argument_step comparable_step logical_step segment_step selector_step call_step path_step c in
    let t : call_typed (call_view c) ≡ false = rw (view, e) (not_fit args s.parameters h) in
    sym (and_right (call_serves wanted (call_view c)) (call_typed (call_view c)) t)
