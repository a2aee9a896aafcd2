use Rattle.std.proofs.Common.{◌≡◌, ◌∙◌, sym, refl, List, ℕ, arith, bytes_eq, Ordering}
use Rattle.std.specs.Cmp.Lexicographic.{slice_cmp}
use Rattle.std.specs.Ordering.{nat_cmp, is_eq}
use Rattle.std.proofs.lemmas.Bool.Decides.{nat_tests}
use Rattle.std.proofs.lemmas.Cmp.{same_from_slice_cmp}
use Rattle.std.proofs.lemmas.Bool.{iff_false}
use Rattle.jp_strings.proofs.Runs.{plain_differ}
use Rattle.jp_strings.specs.Points.{points_of}
use Rattle.jp_strings.proofs.order.equal.Goals as goal

same_is_equal : (xs ys : List ℕ) (o : Ordering) → o ≡ slice_cmp nat_cmp xs ys → is_eq o ≡ bytes_eq xs ys
same_is_equal = same_from_slice_cmp nat_cmp is_eq bytes_eq refl (λ _ _. refl) (λ _ _. refl) (λ x y xs ys o h. grind (arith, nat_tests))

pub returns : goal.returns
returns c = c.is_eq.ensures ∙ same_is_equal (points_of c.args.a.now) (points_of c.args.b.now) _ c.compare_scalars.ensures

pub returns-then-are_plain : goal.returns-then-are_plain
returns-then-are_plain c =
    sym (plain_differ c.args.a.now c.args.b.now c.requires.first c.requires.second (c.are_plain.ensures.first c.if-are_plain.true) (c.are_plain.ensures.second c.if-are_plain.true) (iff_false c.equal_bytes.ensures c.if-equal_bytes.false))
