-- What well-typed calls are given, by the names of their functions.
use Rattle.std.proofs.Common.{◌≡◌, ◌∙◌, ℕ, zero, suc, List, [], ◌∷◌, length, Bool, true, false, ◌&&◌, if◌then◌else◌, Option, Some, None, codes, sym, ap, ap₂, subst, refl, lit<, bytes_eq, string_bytes}
use Rattle.std.specs.Prelude.{is_some, nat_lt, encode_utf8_all}
use Rattle.std.specs.List.{list_all}
use Rattle.std.specs.Str.{chars, IsUtf8, IsAscii}
use Rattle.std.proofs.lemmas.Bool.{and_parts, ltb-true}
use Rattle.std.proofs.lemmas.Slice.Eq.{bytes_eq-Decides}
use Rattle.std.proofs.lemmas.Str.{chars-IsAscii, encodes-chars, encodes-IsAscii}
use Rattle.jp_model.specs.Characters.{text_equal}
use Rattle.jp_model.specs.Query.Syntax as syntax
use Rattle.jp_model.specs.Query.Syntax.{Call, call, Arguments, no_arguments, argument}
use Rattle.jp_model.specs.Query.Typing.{Kind, value_kind, nodes_kind, logical_kind, Signature, result_serves, takes, call_serves, call_typed, arguments_typed, argument_typed}
use Rattle.jp_model.proofs.Seek.{text_same}
use Rattle.jp_syntax.specs.View.{argument_view, arguments_view, call_view}
use Rattle.jp_syntax.specs.declared.tree.Argument.{Argument}
use Rattle.jp_syntax.specs.declared.tree.Call.{Call as TreeCall}
use Rattle.jp_eval.proofs.Views.{call_viewed}
use Rattle.jp_eval.specs.Questions.{passing_name}

-- a call is well-typed, and allowed where a type is wanted
abbrev pub fits : Kind → Call → Bool
fits wanted c = call_serves wanted c && call_typed c

-- the same, by which of the five names it has
abbrev signature_by : (a b c d e : Bool) → Option Signature
signature_by a b c d e =
    if a then Some (record { parameters = value_kind ∷ []; answer = value_kind })
    else if b then Some (record { parameters = nodes_kind ∷ []; answer = value_kind })
    else if c then Some (record { parameters = nodes_kind ∷ []; answer = value_kind })
    else if d then Some (record { parameters = value_kind ∷ value_kind ∷ []; answer = logical_kind })
    else if e then Some (record { parameters = value_kind ∷ value_kind ∷ []; answer = logical_kind })
    else None

abbrev fits_by : Kind → Arguments → Option Signature → Bool
fits_by wanted args o = result_serves wanted o && (is_some o && arguments_typed args (takes [] o))

as_many : (items : List Argument) (kinds : List Kind) → arguments_typed (arguments_view items) kinds ≡ true → length items ≡ length kinds
as_many [] [] h = refl
as_many [] (k ∷ kinds) h = absurd (cc)
as_many (a ∷ items) [] h = absurd (cc)
as_many (a ∷ items) (k ∷ kinds) h = ap suc (as_many items kinds (and_parts (argument_typed (argument_view a) k) (arguments_typed (arguments_view items) kinds) h).1)

-- a call that answers a value is given one argument
pub one_given : (f : List ℕ) (items : List Argument) → fits value_kind (call f (arguments_view items)) ≡ true → length items ≡ 1
one_given f items h = by (text_equal f (codes "length")) (text_equal f (codes "count")) (text_equal f (codes "value")) (text_equal f (codes "match")) (text_equal f (codes "search")) h
  where
    by : (p q r s u : Bool) → fits_by value_kind (arguments_view items) (signature_by p q r s u) ≡ true → length items ≡ 1
    by true q r s u h = as_many items (value_kind ∷ []) h
    by false true r s u h = as_many items (nodes_kind ∷ []) h
    by false false true s u h = as_many items (nodes_kind ∷ []) h
    by false false false true u h = absurd (cc)
    by false false false false true h = absurd (cc)
    by false false false false false h = absurd (cc)

-- one that answers a truth is given two
pub two_given : (f : List ℕ) (items : List Argument) → fits logical_kind (call f (arguments_view items)) ≡ true → length items ≡ 2
two_given f items h = by (text_equal f (codes "length")) (text_equal f (codes "count")) (text_equal f (codes "value")) (text_equal f (codes "match")) (text_equal f (codes "search")) h
  where
    by : (p q r s u : Bool) → fits_by logical_kind (arguments_view items) (signature_by p q r s u) ≡ true → length items ≡ 2
    by true q r s u h = absurd (cc)
    by false true r s u h = absurd (cc)
    by false false true s u h = absurd (cc)
    by false false false true u h = as_many items (value_kind ∷ value_kind ∷ []) h
    by false false false false true h = as_many items (value_kind ∷ value_kind ∷ []) h
    by false false false false false h = absurd (cc)

-- one that answers a value and is not `length` is given nodes
pub nodes_given : (f : List ℕ) (a : syntax.Argument) → text_equal f (codes "length") ≡ false → fits value_kind (call f (argument a no_arguments)) ≡ true → argument_typed a nodes_kind ≡ true
nodes_given f a n h = by (text_equal f (codes "length")) (text_equal f (codes "count")) (text_equal f (codes "value")) (text_equal f (codes "match")) (text_equal f (codes "search")) n h
  where
    by : (p q r s u : Bool) → p ≡ false → fits_by value_kind (argument a no_arguments) (signature_by p q r s u) ≡ true → argument_typed a nodes_kind ≡ true
    by true q r s u n h = absurd (cc)
    by false true r s u n h = (and_parts (argument_typed a nodes_kind) true h).0
    by false false true s u n h = (and_parts (argument_typed a nodes_kind) true h).0
    by false false false true u n h = absurd (cc)
    by false false false false true n h = absurd (cc)
    by false false false false false n h = absurd (cc)

-- and if it is not `count`, it is `value`
pub is_value : (f : List ℕ) (args : Arguments) → text_equal f (codes "length") ≡ false → text_equal f (codes "count") ≡ false → fits value_kind (call f args) ≡ true → f ≡ codes "value"
is_value f args m n h = by (text_equal f (codes "length")) (text_equal f (codes "count")) (text_equal f (codes "value")) (text_equal f (codes "match")) (text_equal f (codes "search")) refl m n h
  where
    by : (p q r s u : Bool) → text_equal f (codes "value") ≡ r → p ≡ false → q ≡ false → fits_by value_kind args (signature_by p q r s u) ≡ true → f ≡ codes "value"
    by true q r s u e m n h = absurd (cc)
    by false true r s u e m n h = absurd (cc)
    by false false true s u e m n h = text_same f (codes "value") e
    by false false false true u e m n h = absurd (cc)
    by false false false false true e m n h = absurd (cc)
    by false false false false false e m n h = absurd (cc)

-- one that answers a truth and is not `match` is `search`
pub is_search : (f : List ℕ) (args : Arguments) → text_equal f (codes "match") ≡ false → fits logical_kind (call f args) ≡ true → f ≡ codes "search"
is_search f args n h = by (text_equal f (codes "length")) (text_equal f (codes "count")) (text_equal f (codes "value")) (text_equal f (codes "match")) (text_equal f (codes "search")) refl n h
  where
    by : (p q r s u : Bool) → text_equal f (codes "search") ≡ u → s ≡ false → fits_by logical_kind args (signature_by p q r s u) ≡ true → f ≡ codes "search"
    by true q r s u e n h = absurd (cc)
    by false true r s u e n h = absurd (cc)
    by false false true s u e n h = absurd (cc)
    by false false false true u e n h = absurd (cc)
    by false false false false true e n h = text_same f (codes "search") e
    by false false false false false e n h = absurd (cc)

-- no function answers nodes
no_nodes_by : (p q r s u : Bool) → result_serves nodes_kind (signature_by p q r s u) ≡ false
no_nodes_by true q r s u = refl
no_nodes_by false true r s u = refl
no_nodes_by false false true s u = refl
no_nodes_by false false false true u = refl
no_nodes_by false false false false true = refl
no_nodes_by false false false false false = refl

pub answers_no_nodes : (c : Call) → fits nodes_kind c ≡ true → ⊥
answers_no_nodes (call f args) h =
    let none : call_serves nodes_kind (call f args) ≡ false = no_nodes_by (text_equal f (codes "length")) (text_equal f (codes "count")) (text_equal f (codes "value")) (text_equal f (codes "match")) (text_equal f (codes "search")) in
    let some : call_serves nodes_kind (call f args) ≡ true = (and_parts (call_serves nodes_kind (call f args)) (call_typed (call f args)) h).0 in
    cc

-- what the two that are asked of a text are given
pub values_given : (whole : Bool) (a b : syntax.Argument) → fits logical_kind (call (passing_name whole) (argument a (argument b no_arguments))) ≡ true → (argument_typed a value_kind ≡ true) × (argument_typed b value_kind ≡ true)
values_given true a b h = let both = and_parts (argument_typed a value_kind) (argument_typed b value_kind && true) h in (both.0, (and_parts (argument_typed b value_kind) true both.1).0)
values_given false a b h = let both = and_parts (argument_typed a value_kind) (argument_typed b value_kind && true) h in (both.0, (and_parts (argument_typed b value_kind) true both.1).0)

-- ---- a name in UTF-8

-- each byte of the word is below 128
ascii_by : (w : List ℕ) → list_all (λ x. nat_lt x 128) w ≡ true → IsAscii w
ascii_by [] h zero = lit< tt
ascii_by [] h (suc i) = lit< tt
ascii_by (x ∷ xs) h zero = ltb-true x 128 (and_parts (nat_lt x 128) (list_all (λ x. nat_lt x 128) xs) h).0
ascii_by (x ∷ xs) h (suc i) = ascii_by xs (and_parts (nat_lt x 128) (list_all (λ x. nat_lt x 128) xs) h).1 i

-- the scalars of a word of ASCII are its bytes
pub this_word : (s w : List ℕ) → list_all (λ x. nat_lt x 128) w ≡ true → s ≡ w → chars s ≡ w
this_word s w a e = ap chars e ∙ chars-IsAscii w (ascii_by w a)

-- another text has other scalars
pub other_word : (s w : List ℕ) → IsUtf8 s → list_all (λ x. nat_lt x 128) w ≡ true → (s ≡ w → ⊥) → text_equal (chars s) w ≡ false
other_word s w u a h = by (text_equal (chars s) w) refl
  where
    by : (q : Bool) → text_equal (chars s) w ≡ q → q ≡ false
    by false f = refl
    by true f = absurd (h (sym (encodes-chars s u) ∙ (ap encode_utf8_all (text_same (chars s) w f) ∙ encodes-IsAscii w (ascii_by w a))))

-- the same of bytes that were compared with a word
pub word_is : (s w : List ℕ) → list_all (λ x. nat_lt x 128) w ≡ true → bytes_eq s w ≡ true → chars s ≡ w
word_is s w a h = this_word s w a ((bytes_eq-Decides s w).0 h)

pub word_is_not : (s w : List ℕ) → IsUtf8 s → list_all (λ x. nat_lt x 128) w ≡ true → bytes_eq s w ≡ false → text_equal (chars s) w ≡ false
word_is_not s w u a h = other_word s w u a (λ e. let is : bytes_eq s w ≡ true = (bytes_eq-Decides s w).1 e in cc)

-- a call by its name and its arguments
pub one_called : (c : TreeCall) (f : List ℕ) (a : Argument) → chars (string_bytes c.name) ≡ f → c.arguments.items ≡ a ∷ [] → call f (argument (argument_view a) no_arguments) ≡ call_view c
one_called c f a e is = sym (call_viewed c ∙ ap₂ (λ (x : List ℕ) (l : List Argument). call x (arguments_view l)) e is)

pub two_called : (c : TreeCall) (f : List ℕ) (a b : Argument) → chars (string_bytes c.name) ≡ f → c.arguments.items ≡ a ∷ b ∷ [] → call f (argument (argument_view a) (argument (argument_view b) no_arguments)) ≡ call_view c
two_called c f a b e is = sym (call_viewed c ∙ ap₂ (λ (x : List ℕ) (l : List Argument). call x (arguments_view l)) e is)

-- how many arguments the tree has
pub one_taken : (c : TreeCall) → fits value_kind (call_view c) ≡ true → length c.arguments.items ≡ 1
one_taken c h = one_given (chars (string_bytes c.name)) c.arguments.items (subst (λ (v : Call). fits value_kind v ≡ true) (call_viewed c) h)

pub two_taken : (c : TreeCall) → fits logical_kind (call_view c) ≡ true → length c.arguments.items ≡ 2
two_taken c h = two_given (chars (string_bytes c.name)) c.arguments.items (subst (λ (v : Call). fits logical_kind v ≡ true) (call_viewed c) h)
