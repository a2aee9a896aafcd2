-- How many steps lead to places.
use Rattle.std.proofs.Common.{◌≡◌, ◌∙◌, ℕ, zero, suc, ◌+◌, ◌<◌, ◌≤◌, ◌⊎◌, inl, inr, List, [], ◌∷◌, ◌++◌, length, get_or, true, false, ap, refl, sym, arith}
use Rattle.std.specs.List.Sorted.{IsPermutation, IsSorted}
use Rattle.std.specs.Ordering.{is_lt, nat_cmp, ordering_then}
use Rattle.std.specs.declared.cmp.Ordering.{Ordering}
use Rattle.std.proofs.lemmas.Bool.{cases_lt}
use Rattle.std.proofs.lemmas.List.{length_push}
use Rattle.std.proofs.lemmas.List.Elements.{All-push}
use Rattle.std.proofs.lemmas.List.Sorted.{All-permutation}
use Rattle.jp_survey.specs.Movings.{AreByDepth, AreDeep}
use Rattle.jp_survey.specs.Places.{ArePlaces, is_start, link_at, path_at, paths_of, stride_in}
use Rattle.jp_survey.specs.contracts.folding.DeepOrd.TheImpl as deep_order
use Rattle.jp_survey.specs.declared.folding.Deep.{Deep}
use Rattle.jp_survey.specs.declared.links.Link.{Link}
use Rattle.jp_survey.specs.declared.links.Step.{Step}
use Rattle.jp_survey.specs.declared.links.Step.TheVariants as steps
use Rattle.jp_survey.proofs.Arranged.{less_cmp}
use Rattle.jp_survey.proofs.Places.{path_of_place, path_of_root}

pub listed_by_depth : (names : List (List ℕ)) (links : List Link) (list sorted : List Deep) → AreDeep names links list → length sorted ≡ length links → IsPermutation list sorted → IsSorted deep_order.ghosts.cmp sorted
    → AreByDepth names links sorted
listed_by_depth names links list sorted each many moved order = record {
  many = many;
  each = All-permutation (λ (deep : Deep). (deep.place < length links) × (deep.depth ≡ length (path_at (paths_of names links) deep.place))) list sorted moved each;
  rising = λ i d l. by (get_or sorted i d) (get_or sorted (i + 1) d) (order i d (omega arith) l) (cases_lt (get_or sorted (i + 1) d).depth (get_or sorted i d).depth);
}
  where
    by : (a b : Deep) → is_lt (deep_order.ghosts.cmp b a) ≡ false → ((b.depth < a.depth) ⊎ (a.depth ≤ b.depth)) → a.depth ≤ b.depth
    by a b low (inr l) = l
    by a b low (inl l) =
        absurd (let less : is_lt (deep_order.ghosts.cmp b a) ≡ true = ap (λ (o : Ordering). is_lt (ordering_then o (nat_cmp b.place a.place))) (less_cmp b.depth a.depth l) in cc)

-- one place more
pub deep_more : (names : List (List ℕ)) (links : List Link) → ArePlaces names links → (list : List Deep) (next : Deep) → AreDeep names links list → ((i : ℕ) (d : Deep) → i < length list → (get_or list i d).place ≡ i)
    → length list ≡ next.place → next.place < length links
    → (is_start (link_at links next.place).step ≡ true → next.depth ≡ 0)
    → (is_start (link_at links next.place).step ≡ false → (above : Deep) × ((link_at links next.place).parent < length list) × ((d : Deep) → get_or list (link_at links next.place).parent d ≡ above) × (next.depth ≡ above.depth + 1))
    → AreDeep names links (list ++ next ∷ [])
deep_more names links h list next each numbered many within root below =
    All-push (λ (deep : Deep). (deep.place < length links) × (deep.depth ≡ length (path_at (paths_of names links) deep.place))) list next each (within, depth next.place refl)
  where
    depth : (place : ℕ) → next.place ≡ place → next.depth ≡ length (path_at (paths_of names links) next.place)
    depth zero e =
        let start : is_start (link_at links next.place).step ≡ true = ap (λ (k : ℕ). is_start (link_at links k).step) e ∙ ap (λ (x : Link). is_start x.step) h.root in
        let none = root start in let path = ap length (ap (path_at (paths_of names links)) e ∙ path_of_root names links h) in
        omega (arith, none, path)
    depth (suc k) e =
        let some : 0 < next.place = omega (arith, e) in
        let it = below (h.below next.place some within).1 in
        let parent = (link_at links next.place).parent in
        let above = each parent it.0 it.1 in
        let is = it.2 it.0 in
        let number : it.0.place ≡ parent = sym (ap (λ (x : Deep). x.place) is) ∙ numbered parent it.0 it.1 in
        let deep : it.0.depth ≡ length (path_at (paths_of names links) parent) =
        sym (ap (λ (x : Deep). x.depth) is) ∙ (above.1 ∙ ap (λ (p : ℕ). length (path_at (paths_of names links) p)) (numbered parent it.0 it.1)) in
        let path = ap length (path_of_place names links h next.place some within) in
        let one = length_push (path_at (paths_of names links) parent) (stride_in names (link_at links next.place).step) in
        omega (arith, it.3, deep, path, one)

-- a step that is none of the root
pub not_start : (s : Step) → ((s ≡ steps.Element) ⊎ (((n : ℕ) × (s ≡ steps.Member n)) ⊎ (s ≡ steps.Others))) → is_start s ≡ false
not_start s (inl e) = ap is_start e
not_start s (inr (inl e)) = ap is_start e.1
not_start s (inr (inr e)) = ap is_start e
