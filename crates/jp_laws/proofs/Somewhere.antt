-- A part of a text, and any text around it.
use Rattle.std.proofs.Common.{◌≡◌, ℕ, List, [], ◌∷◌, ◌++◌, length, All, true, refl, ap, subst, ◌∙◌, arith}
use Rattle.std.specs.Prelude.{IsTrue}
use Rattle.std.specs.Char.{IsScalar}
use Rattle.std.proofs.lemmas.Bool.Decides.{nat_tests}
use Rattle.std.proofs.lemmas.List.Elements.{All-cons, All-head, All-nil, All-tail}
use Rattle.jp_model.specs.Pattern.Classes.{in_class}
use Rattle.jp_model.specs.Pattern.Language.{IsOne, Repeats, Language, Occurs}
use Rattle.jp_model.specs.Pattern.Tree.{Pattern}
use Rattle.jp_laws.specs.Patterns.{any_text, every_scalar, somewhere}

is_scalar : (c : ℕ) → IsScalar c → in_class every_scalar c ≡ true
is_scalar c h = grind (arith, nat_tests, h)

each_turn : (text : List ℕ) → All IsScalar text → Repeats (IsOne (λ c. IsTrue (in_class every_scalar c))) (length text) text
each_turn [] h = refl
each_turn (c ∷ text) h = record {
  front = c ∷ [];
  rest = text;
  is = refl;
  first = record { scalar = c; is = refl; passes = is_scalar c (All-head IsScalar c text h) };
  second = each_turn text (All-tail IsScalar c text h);
}

any_is : (text : List ℕ) → All IsScalar text → Language any_text text
any_is text h = record { count = length text; enough = omega arith; few = tt; repeats = each_turn text h }

front_all : (xs ys : List ℕ) → All IsScalar (xs ++ ys) → All IsScalar xs
front_all [] ys h = All-nil IsScalar
front_all (x ∷ xs) ys h = All-cons IsScalar x xs (All-head IsScalar x (xs ++ ys) h) (front_all xs ys (All-tail IsScalar x (xs ++ ys) h))

rest_all : (xs ys : List ℕ) → All IsScalar (xs ++ ys) → All IsScalar ys
rest_all [] ys h = h
rest_all (x ∷ xs) ys h = rest_all xs ys (All-tail IsScalar x (xs ++ ys) h)

pub around : (r : Pattern) (text : List ℕ) → All IsScalar text → Occurs (Language r) text → Language (somewhere r) text
around r text h o =
    let all : All IsScalar (o.before ++ (o.inside ++ o.after)) = subst (All IsScalar) o.is h in
    record {
      front = o.before;
      rest = o.inside ++ o.after;
      is = o.is;
      first = any_is o.before (front_all o.before (o.inside ++ o.after) all);
      second = record { front = o.inside; rest = o.after; is = refl; first = o.member; second = any_is o.after (rest_all o.inside o.after (rest_all o.before (o.inside ++ o.after) all)) };
    }

pub inside : (r : Pattern) (text : List ℕ) → Language (somewhere r) text → Occurs (Language r) text
inside r text h = record {
  before = h.front;
  inside = h.second.front;
  after = h.second.rest;
  is = h.is ∙ ap (λ l. h.front ++ l) h.second.is;
  member = h.second.first;
}
