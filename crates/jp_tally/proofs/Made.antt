-- Entries that are joined are of rows that came.
use Rattle.std.proofs.Common.{◌≡◌, ℕ, List, [], ◌∷◌, ◌+◌, refl, arith, true, false, if◌then◌else◌}
use Rattle.std.specs.Prelude.{nat_lt}
use Rattle.std.specs.List.{list_all}
use Rattle.std.specs.Str.{bytes_eq}
use Rattle.std.proofs.lemmas.Grind.{common_steps}
use Rattle.jp_tally.specs.Counting.{is_entry, joined, lead}
use Rattle.jp_tally.specs.Tallies.{Entry}
use Rattle.jp_tally.proofs.Ascending.{and_true, both}
use Rattle.jp_tally.proofs.Joining.{entry}

sum_above : (a b : ℕ) → nat_lt 0 a ≡ true → nat_lt 0 (a + b) ≡ true
sum_above a b h = grind (arith, common_steps)

lead_are : (e : Entry) (more : List Entry) → is_entry e ≡ true → list_all is_entry more ≡ true → list_all is_entry (lead e more) ≡ true
lead_are e [] h all = and_true (is_entry e) true h refl
lead_are e (next ∷ more) h all =
    elim (bytes_eq next.row e.row) as (λ t. list_all is_entry (if t then entry e.row (e.count + next.count) ∷ more else e ∷ next ∷ more) ≡ true) [
      | true ↦ and_true (is_entry (entry e.row (e.count + next.count))) (list_all is_entry more) (sum_above e.count next.count h) (both (is_entry next) (list_all is_entry more) all).1
      | false ↦ and_true (is_entry e) (list_all is_entry (next ∷ more)) h all
    ]

pub joined_are : (entries : List Entry) → list_all is_entry entries ≡ true → list_all is_entry (joined entries) ≡ true
joined_are [] h = refl
joined_are (e ∷ more) h =
    let parts = both (is_entry e) (list_all is_entry more) h in
    lead_are e (joined more) parts.0 (joined_are more parts.1)
