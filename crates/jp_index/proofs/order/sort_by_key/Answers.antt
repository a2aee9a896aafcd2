-- The closure compares by keys, and then by lines.
use Rattle.std.proofs.Common.{◌≡◌, ℕ, Bool, List, ap, rules, Ordering}
use Rattle.std.specs.Cmp.{IsTotalOrder, IsStrictWeakOrder}
use Rattle.std.specs.Fn.{Called, ComparesAs}
use Rattle.std.specs.List.Sorted.{IsSortedBy}
use Rattle.std.specs.Ordering.{is_lt}
use Rattle.std.proofs.lemmas.Fn.{always_returns_same}
use Rattle.std.proofs.lemmas.List.Sorted.{ranks_by}
use Rattle.std.proofs.lemmas.Result.{on_ok_weaker}
use denote.Param.Members.{Mut}
use denote.Ref.{Bor}
use Rattle.jp_index.specs.ByKey.{line_order}
use Rattle.jp_index.specs.Cells.{key_at}
use Rattle.jp_index.proofs.ByKey.{lines_total}
use Rattle.jp_index.proofs.order.sort_by_key.Goals as goal

-- sorted by a closure that gives an order
sorted_by : (R : ℕ → ℕ → Ordering) → IsTotalOrder R → {F : Type 0} {g : Mut F (Bor ℕ × (Bor ℕ × Unit {0})) Ordering} {f : F} (xs : List ℕ)
    → ((lt : ℕ → ℕ → Bool) → IsStrictWeakOrder lt → ComparesAs g lt f → IsSortedBy lt xs)
    → ((a : Bor ℕ × (Bor ℕ × Unit {0})) (r : Ordering) (q : F) → Called g f a r q → (r ≡ R a.0.now a.1.0.now) × (q ≡ f)) → IsSortedBy (λ a b. is_lt (R a b)) xs
sorted_by R o {g = g} {f = f} xs up h =
    up (λ a b. is_lt (R a b)) (ranks_by o (λ a. a)) (always_returns_same g (λ a r. is_lt r ≡ is_lt (R a.0.now a.1.0.now)) f (λ a r q k. (ap is_lt (h a r q k).0, (h a r q k).1)))

pub returns-clause-sorted : goal.returns-clause-sorted
returns-clause-sorted c =
    let keys = key_at c.args.cells.now in
    on_ok_weaker c.sort_by.result (λ up. sorted_by (line_order keys) (lines_total keys) _ up (λ a r q k. search rules)) c.sort_by.ensures.sorted
