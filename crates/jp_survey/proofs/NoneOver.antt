-- Where no object is to be folded, none that is folded has a member by name.
use Rattle.std.proofs.Common.{◌≡◌, ◌∙◌, ℕ, zero, suc, ◌<◌, List, [], ◌∷◌, length, get_or, Bool, true, false, ◌&&◌, cond, ap, ap₂, refl, sym, arith, ltb}
use Rattle.std.specs.Prelude.{count_by}
use Rattle.std.proofs.lemmas.Bool.{eq-eqb, lt-ltb, or_parts}
use Rattle.std.proofs.lemmas.List.Sums.{sum_by-cons}
use Rattle.jp_survey.specs.Foldings.{is_over}
use Rattle.jp_survey.specs.Places.{AreApart, ArePlaces, has_link, is_member_of, link_at, members_of, root_link}
use Rattle.jp_survey.specs.declared.links.Link.{Link}
use Rattle.jp_survey.specs.declared.links.Step.TheVariants as steps
use Rattle.jp_survey.proofs.Names.{not_folded_at}
use Rattle.jp_survey.proofs.Places.{parent_within}

abbrev one_where : Bool → ℕ
one_where b = cond b 1 0

-- what passes at some index is counted
some_pass : {X : Type 0} (p : X → Bool) (xs : List X) (k : ℕ) (d : X) → k < length xs → p (get_or xs k d) ≡ true → 0 < count_by p xs
some_pass p [] k d l e = absurd (omega (arith, l))
some_pass p (x ∷ xs) zero d l e =
    let both = sum_by-cons (λ y. cond (p y) 1 0) x xs in let one : one_where (p x) ≡ 1 = ap one_where e in
    omega (arith, both, one)
some_pass p (x ∷ xs) (suc k) d l e =
    let both = sum_by-cons (λ y. cond (p y) 1 0) x xs in let rest = some_pass p xs k d (omega (arith, l)) e in
    omega (arith, both, rest)

-- an object that has members by name, and is not to be folded, has no others
no_others : (fold : ℕ) (links : List Link) (place : ℕ) → 0 < members_of links place → is_over fold links place ≡ false → has_link links (record { parent = place; step = steps.Others }) ≡ false
no_others fold links place some e =
    let parts = or_parts (ltb fold (members_of links place)) (ltb 0 (members_of links place) && has_link links (record { parent = place; step = steps.Others })) e in
    ap (λ (b : Bool). b && has_link links (record { parent = place; step = steps.Others })) (sym (lt-ltb 0 (members_of links place) some)) ∙ parts.1

-- so no member is told from the others of its object
pub apart_where_none : (fold : ℕ) (names : List (List ℕ)) (links : List Link) → ArePlaces names links → ((place : ℕ) → place < length links → is_over fold links place ≡ false) → AreApart names links
apart_where_none fold names links h none k l named =
    let above = (link_at links k).parent in let inside = parent_within names links h k l in
    let member : is_member_of above (link_at links k) ≡ true = ap₂ (λ (a b : Bool). a && b) (eq-eqb above above refl) named in
    not_folded_at names links h above inside (no_others fold links above (some_pass (is_member_of above) links k root_link l member) (none above inside))
