-- The order of strides and of paths, and that of places as they are listed: bytes of UTF-8 are ordered as the scalars that they spell.
use Rattle.std.proofs.Common.{◌≡◌, ◌∙◌, inl, inr, ℕ, List, [], ◌∷◌, ◌++◌, ap, refl, sym, subst, false}
use Rattle.std.specs.Prelude.{string_bytes}
use Rattle.std.specs.Cmp.{IsTotalOrder}
use Rattle.std.specs.Cmp.Lexicographic.{on_texts, slice_cmp}
use Rattle.std.specs.Ordering.{is_lt, nat_cmp, ordering_reverse, ordering_then}
use Rattle.std.specs.declared.cmp.Ordering.{Ordering}
use Rattle.std.specs.declared.cmp.Ordering.TheVariants.{Less, Equal, Greater}
use Rattle.std.proofs.lemmas.Cmp.{lists_total, nat_cmp_total}
use Rattle.std.proofs.lemmas.Map.Lookups.{exact_bytes}
use Rattle.std.proofs.lemmas.Str.{IsUtf8-string_bytes}
use Rattle.jp_strings.proofs.Orders.{texts_ordered}
use Rattle.jp_survey.specs.Entries.{stride_of_listed}
use Rattle.jp_survey.specs.Paths.{Path, Stride, element, member, others}
use Rattle.jp_survey.specs.Surveys.{stride_cmp}
use Rattle.jp_survey.specs.Walked.{Follows, IsLeftOf}
use Rattle.jp_survey.specs.contracts.listing.StrideOrd.TheImpl as stride_order
use Rattle.jp_survey.specs.contracts.order.BelowOrd.TheImpl as below_order
use Rattle.jp_survey.specs.declared.listing.Stride.{Stride as Listed}
use Rattle.jp_survey.specs.declared.listing.Stride.TheVariants as listed
use Rattle.jp_survey.specs.declared.order.Below.{Below}

strides_ordered : (a b : Listed) → stride_order.ghosts.cmp a b ≡ stride_cmp (stride_of_listed a) (stride_of_listed b)
strides_ordered listed.Element listed.Element = refl
strides_ordered listed.Element (listed.Member y) = refl
strides_ordered listed.Element listed.Others = refl
strides_ordered (listed.Member x) listed.Element = refl
strides_ordered (listed.Member x) (listed.Member y) =
    texts_ordered (string_bytes x.now) (string_bytes y.now) (IsUtf8-string_bytes x.now) (IsUtf8-string_bytes y.now)
strides_ordered (listed.Member x) listed.Others = refl
strides_ordered listed.Others listed.Element = refl
strides_ordered listed.Others (listed.Member y) = refl
strides_ordered listed.Others listed.Others = refl

-- strides are ordered as these texts
abbrev key : Stride → List ℕ
key element = 0 ∷ []
key (member x) = 1 ∷ x
key others = 2 ∷ []

keyed : (s t : Stride) → slice_cmp nat_cmp (key s) (key t) ≡ stride_cmp s t
keyed element element = refl
keyed element (member y) = refl
keyed element others = refl
keyed (member x) element = refl
keyed (member x) (member y) = refl
keyed (member x) others = refl
keyed others element = refl
keyed others (member y) = refl
keyed others others = refl

pub stride_total : IsTotalOrder stride_cmp
stride_total = subst IsTotalOrder (λ j s t. keyed s t j) (on_texts key)

pub path_total : IsTotalOrder (slice_cmp stride_cmp)
path_total = lists_total stride_total

-- ---- in any order

is_equal : (o : Ordering) → o ≡ ordering_reverse o → o ≡ Equal
is_equal Less e = absurd (cc)
is_equal Equal e = refl
is_equal Greater e = absurd (cc)

pub cmp_itself : {X : Type 0} (R : X → X → Ordering) → IsTotalOrder R → (x : X) → R x x ≡ Equal
cmp_itself R total x = is_equal (R x x) (total.antisymm x x)

pub greater_from_less : {X : Type 0} (R : X → X → Ordering) → IsTotalOrder R → (x y : X) → R x y ≡ Less → R y x ≡ Greater
greater_from_less R total x y e = total.antisymm y x ∙ ap ordering_reverse e

-- ---- strides and paths

same_stride : (s t : Stride) → stride_cmp s t ≡ Equal → s ≡ t
same_stride element element e = refl
same_stride element (member y) e = absurd (cc)
same_stride element others e = absurd (cc)
same_stride (member x) element e = absurd (cc)
same_stride (member x) (member y) e = ap member (exact_bytes x y e)
same_stride (member x) others e = absurd (cc)
same_stride others element e = absurd (cc)
same_stride others (member y) e = absurd (cc)
same_stride others others e = refl

-- of two places that are listed below one, the second one's stride is greater, unless it is the same
pub below_rises : (a b : Below) → is_lt (below_order.ghosts.cmp b a) ≡ false → a.parent ≡ b.parent → (stride_of_listed a.stride ≡ stride_of_listed b.stride → ⊥)
    → stride_cmp (stride_of_listed a.stride) (stride_of_listed b.stride) ≡ Less
below_rises a b low same differ =
    stride_total.antisymm (stride_of_listed a.stride) (stride_of_listed b.stride)
    ∙ ap ordering_reverse (by (stride_cmp (stride_of_listed b.stride) (stride_of_listed a.stride)) refl)
  where
    parents : nat_cmp b.parent a.parent ≡ Equal
    parents = ap (nat_cmp b.parent) same ∙ cmp_itself nat_cmp nat_cmp_total b.parent

    told : is_lt (ordering_then Equal (ordering_then (stride_cmp (stride_of_listed b.stride) (stride_of_listed a.stride)) (nat_cmp b.place a.place))) ≡ false
    told =
        sym (ap (λ (o : Ordering). is_lt (ordering_then o (ordering_then (stride_order.ghosts.cmp b.stride a.stride) (nat_cmp b.place a.place)))) parents
        ∙ ap (λ (o : Ordering). is_lt (ordering_then Equal (ordering_then o (nat_cmp b.place a.place)))) (strides_ordered b.stride a.stride))
        ∙ low

    by : (o : Ordering) → stride_cmp (stride_of_listed b.stride) (stride_of_listed a.stride) ≡ o → stride_cmp (stride_of_listed b.stride) (stride_of_listed a.stride) ≡ Greater
    by Less e =
        absurd (let wrong = sym (ap (λ (o : Ordering). is_lt (ordering_then Equal (ordering_then o (nat_cmp b.place a.place)))) e) ∙ told in cc)
    by Equal e = absurd (differ (sym (same_stride (stride_of_listed b.stride) (stride_of_listed a.stride) e)))
    by Greater e = e

-- paths that begin alike
after_alike : (above p q : Path) → slice_cmp stride_cmp (above ++ p) (above ++ q) ≡ slice_cmp stride_cmp p q
after_alike [] p q = refl
after_alike (s ∷ above) p q =
    ap (λ (o : Ordering). ordering_then o (slice_cmp stride_cmp (above ++ p) (above ++ q))) (cmp_itself stride_cmp stride_total s) ∙ after_alike above p q

left_less : (p q : Path) → IsLeftOf p q → slice_cmp stride_cmp p q ≡ Less
left_less p q h =
    ap (λ (l : Path). slice_cmp stride_cmp l q) h.left-is
    ∙ (ap (slice_cmp stride_cmp (h.above ++ h.stride ∷ h.rest)) h.right-is
    ∙ (after_alike h.above (h.stride ∷ h.rest) (h.other ∷ [])
    ∙ ap (λ (o : Ordering). ordering_then o (slice_cmp stride_cmp h.rest [])) h.less))

nothing_less : (s : Stride) (p : Path) → slice_cmp stride_cmp p (p ++ s ∷ []) ≡ Less
nothing_less s [] = refl
nothing_less s (t ∷ p) = ap (λ (o : Ordering). ordering_then o (slice_cmp stride_cmp p (p ++ s ∷ []))) (cmp_itself stride_cmp stride_total t) ∙ nothing_less s p

pub follows_less : (p q : Path) → Follows p q → slice_cmp stride_cmp p q ≡ Less
follows_less p q (inl h) = ap (slice_cmp stride_cmp p) h.1 ∙ nothing_less h.0 p
follows_less p q (inr h) = left_less p q h
