-- The members of an object while they are printed by their places.
use Rattle.std.proofs.Common.{◌≡◌, ℕ, suc, ◌+◌, ◌-◌, ◌<◌, ◌≤◌, false, eqb, List, [], ◌∷◌, ◌++◌, length, map, drop, get_or, refl, sym, ◌∙◌, ap, subst, arith, add-one, drop-cons, length-append}
use Rattle.std.specs.List.{join_with_byte}
use Rattle.std.proofs.lemmas.Bool.{ne_eqb}
use Rattle.std.proofs.lemmas.List.{drop_all, get_or-append_right}
use Rattle.std.proofs.lemmas.Simd.{map-map}
use Rattle.std.proofs.Math.Seq.{drop-append_seam}
use Rattle.jp_canon.specs.Canonical as canonical
use Rattle.jp_canon.specs.Canonical.{member_texts, by_name}
use Rattle.jp_values.specs.declared.member.Member.{Member}
use Rattle.jp_canon.specs.Members.{with_text, text_of, IsWithin, AppendsByName}
use Rattle.jp_canon.proofs.Joined.{comma, joined_from, turn_joined, all_joined, between_brackets}
use Rattle.jp_model.specs.Json.Tree.{Children}

-- a listed member has no more nodes than the children
pub one_within : (old items : List Member) (children : Children) (k : ℕ) (m : Member) → AppendsByName old items children → length old ≤ k → k < length items → m ≡ get_or items k m → IsWithin children m
one_within old items children k m h low high e =
    let there : get_or items k m ≡ get_or h.part (k - length old) m = ap (λ (l : List Member). get_or l k m) h.all ∙ get_or-append_right old h.part (length old) k m refl low in
    let size = ap length h.all in
    subst (λ (x : Member). IsWithin children x) (sym (e ∙ there)) (h.within (k - length old) m (omega (arith, size, length-append old h.part, low, high)))

-- one more was printed
pub turn_printed : (items : List Member) (from k : ℕ) (m : Member) (old mid new all : List ℕ) → from ≤ k → k < length items → m ≡ get_or items k m → mid ≡ old ++ comma (eqb k from) → new ≡ mid ++ text_of m
    → old ++ joined_from (eqb k from) (map text_of (drop k items)) ≡ all → new ++ joined_from (eqb (k + 1) from) (map text_of (drop (k + 1) items)) ≡ all
turn_printed items from k m old mid new all low high e f g h =
    let rest : drop k items ≡ m ∷ drop (k + 1) items = rw add-one (drop-cons items k m high ∙ ap (λ (x : Member). x ∷ drop (suc k) items) (sym e)) in
    let behind : eqb (k + 1) from ≡ false = ne_eqb (k + 1) from (λ s. omega (arith, s, low)) in
    ap (λ b. new ++ joined_from b (map text_of (drop (k + 1) items))) behind
    ∙ turn_joined (eqb k from) (text_of m) (map text_of (drop (k + 1) items)) old mid new all f g (ap (λ (l : List Member). old ++ joined_from (eqb k from) (map text_of l)) (sym rest) ∙ h)

-- all were printed
pub all_printed : (before items : List Member) (children : Children) (from k : ℕ) (old text new : List ℕ) (front back : ℕ) → AppendsByName before items children → from ≡ length before → length items ≤ k
    → text ++ joined_from (eqb k from) (map text_of (drop k items)) ≡ (old ++ front ∷ []) ++ join_with_byte 0x2C (map text_of (drop from items)) → new ≡ text ++ back ∷ []
    → new ≡ old ++ front ∷ (join_with_byte 0x2C (map (λ m. m.text) (by_name (member_texts children))) ++ back ∷ [])
all_printed before items children from k old text new front back h e high t f =
    let part : drop from items ≡ h.part = ap (λ i. drop i items) e ∙ (ap (drop (length before)) h.all ∙ drop-append_seam before h.part) in
    let texts : map text_of (drop from items) ≡ map (λ m. m.text) (by_name (member_texts children)) = ap (map text_of) part ∙ (sym (map-map (λ (m : canonical.Member). m.text) with_text h.part) ∙ ap (map (λ m. m.text)) h.are) in
    let all = all_joined (eqb k from) (map text_of (drop k items)) text _ (ap (map text_of) (drop_all k items high)) t in
    between_brackets old text new _ front back (all ∙ ap (λ (l : List (List ℕ)). (old ++ front ∷ []) ++ join_with_byte 0x2C l) texts) f
