-- Which bytes begin with a mark, or are the beginning of one, whatever follows them.
use Rattle.std.proofs.Common.{◌≡◌, ◌∙◌, ◌<◌, ◌&&◌, ◌||◌, ℕ, zero, suc, List, [], ◌∷◌, ◌++◌, take, length, Bool, true, false, eqb, refl, sym, ap, ap₂, arith, append_assoc, if◌then◌else◌, Some, None}
use Rattle.std.specs.List.{starts_with}
use Rattle.std.specs.Cmp.Lexicographic.{pointwise}
use Rattle.jp_model.specs.declared.Framing.{Framing}
use Rattle.jp_model.specs.declared.Framing.TheVariants as framings
use Rattle.jp_grep.specs.Cuts.{EndsBetween}
use Rattle.jp_grep.specs.Formats.{Mark, begins_mark, begins_one, first_format, format_of, marks}

-- no byte of these is this one
abbrev lacks : ℕ → List ℕ → Bool
lacks byte [] = true
lacks byte (other ∷ rest) = if eqb other byte then false else lacks byte rest

-- no byte of the marks is
abbrev lack : ℕ → List Mark → Bool
lack byte [] = true
lack byte (mark ∷ rest) = if lacks byte mark.bytes then lack byte rest else false

-- the cases of such a test
others_lack : (b rest : Bool) → (if b then false else rest) ≡ true → (b ≡ false) × (rest ≡ true)
others_lack true rest h = absurd (cc)
others_lack false rest h = (refl, h)

both_lack : (b rest : Bool) → (if b then rest else false) ≡ true → (b ≡ true) × (rest ≡ true)
both_lack true rest h = (refl, h)
both_lack false rest h = absurd (cc)

and_false : (a : Bool) → (a && false) ≡ false
and_false true = refl
and_false false = refl

-- whether the bytes begin with a mark shows in front of a byte that it lacks
mark_settled : (byte : ℕ) (mark xs ys zs : List ℕ) → lacks byte mark ≡ true → starts_with eqb (xs ++ byte ∷ ys) mark ≡ starts_with eqb (xs ++ byte ∷ zs) mark
mark_settled byte [] xs ys zs h = refl
mark_settled byte (m ∷ mark) [] ys zs h =
    let differs = (others_lack (eqb m byte) (lacks byte mark) h).0 in
    ap (λ b. b && pointwise eqb mark (take (length mark) ys)) differs ∙ sym (ap (λ b. b && pointwise eqb mark (take (length mark) zs)) differs)
mark_settled byte (m ∷ mark) (x ∷ xs) ys zs h = ap (λ b. eqb m x && b) (mark_settled byte mark xs ys zs (others_lack (eqb m byte) (lacks byte mark) h).1)

formats_settled : (byte : ℕ) (some : List Mark) (xs ys zs : List ℕ) → lack byte some ≡ true → first_format some (xs ++ byte ∷ ys) ≡ first_format some (xs ++ byte ∷ zs)
formats_settled byte [] xs ys zs h = refl
formats_settled byte (mark ∷ rest) xs ys zs h =
    let both = both_lack (lacks byte mark.bytes) (lack byte rest) h in
    ap₂ (λ (b : Bool) (o : _). if b then Some mark.format else o) (mark_settled byte mark.bytes xs ys zs both.0) (formats_settled byte rest xs ys zs both.1)

-- bytes with one that a mark lacks are no beginning of it
mark_unbegun : (byte : ℕ) (mark xs ys : List ℕ) → lacks byte mark ≡ true → starts_with eqb mark (xs ++ byte ∷ ys) ≡ false
mark_unbegun byte [] [] ys h = refl
mark_unbegun byte [] (x ∷ xs) ys h = refl
mark_unbegun byte (m ∷ mark) [] ys h = ap (λ b. b && pointwise eqb ys (take (length ys) mark)) (other byte m (others_lack (eqb m byte) (lacks byte mark) h).0)
  where
    other : (a b : ℕ) → eqb b a ≡ false → eqb a b ≡ false
    other a b e = grind (arith, e)
mark_unbegun byte (m ∷ mark) (x ∷ xs) ys h = ap (λ b. eqb x m && b) (mark_unbegun byte mark xs ys (others_lack (eqb m byte) (lacks byte mark) h).1) ∙ and_false (eqb x m)

none_begun : (byte : ℕ) (some : List Mark) (xs ys : List ℕ) → lack byte some ≡ true → begins_one some (xs ++ byte ∷ ys) ≡ false
none_begun byte [] xs ys h = refl
none_begun byte (mark ∷ rest) xs ys h =
    let both = both_lack (lacks byte mark.bytes) (lack byte rest) h in
    ap₂ (λ (a b : Bool). a || b) (mark_unbegun byte mark.bytes xs ys both.0) (none_begun byte rest xs ys both.1)

-- where a line ends in some bytes, it shows which mark they have, and they are no beginning of one
pub format_between : (framing : Framing) (front rest more : List ℕ) → EndsBetween framing front rest → format_of (front ++ (rest ++ more)) ≡ format_of (front ++ rest)
unfolding format_of
format_between framings.Lines front rest more h =
    let at = λ (tail : List ℕ). ap (λ l. format_of (l ++ tail)) h.1 ∙ ap format_of (append_assoc h.0 (10 ∷ []) tail) in
    at (rest ++ more) ∙ formats_settled 10 marks h.0 (rest ++ more) rest refl ∙ sym (at rest)
format_between framings.Sequence front rest more h =
    ap (λ l. format_of (front ++ (l ++ more))) h.1 ∙ formats_settled 30 marks front (h.0 ++ more) h.0 refl ∙ sym (ap (λ l. format_of (front ++ l)) h.1)

pub begun_between : (framing : Framing) (front rest : List ℕ) → EndsBetween framing front rest → begins_mark (front ++ rest) ≡ false
unfolding begins_mark
begun_between framings.Lines front rest h = ap (λ l. begins_mark (l ++ rest)) h.1 ∙ ap begins_mark (append_assoc h.0 (10 ∷ []) rest) ∙ none_begun 10 marks h.0 rest refl
begun_between framings.Sequence front rest h = ap (λ l. begins_mark (front ++ l)) h.1 ∙ none_begun 30 marks front h.0 refl

-- nor are more bytes than the longest mark has
abbrev shorter : ℕ → List ℕ → Bool
shorter n [] = true
shorter zero (m ∷ mark) = false
shorter (suc n) (m ∷ mark) = shorter n mark

long_unbegun : (n : ℕ) (mark bytes : List ℕ) → shorter n mark ≡ true → n < length bytes → starts_with eqb mark bytes ≡ false
long_unbegun n mark [] s l = absurd (omega (arith, l))
long_unbegun n [] (b ∷ bytes) s l = refl
long_unbegun zero (m ∷ mark) (b ∷ bytes) s l = absurd (cc)
long_unbegun (suc n) (m ∷ mark) (b ∷ bytes) s l = ap (λ v. eqb b m && v) (long_unbegun n mark bytes s (omega (arith, l))) ∙ and_false (eqb b m)

abbrev all_shorter : ℕ → List Mark → Bool
all_shorter n [] = true
all_shorter n (mark ∷ rest) = if shorter n mark.bytes then all_shorter n rest else false

long_begun : (n : ℕ) (some : List Mark) (bytes : List ℕ) → all_shorter n some ≡ true → n < length bytes → begins_one some bytes ≡ false
long_begun n [] bytes s l = refl
long_begun n (mark ∷ rest) bytes s l =
    let both = both_lack (shorter n mark.bytes) (all_shorter n rest) s in
    ap₂ (λ (a b : Bool). a || b) (long_unbegun n mark.bytes bytes both.0 l) (long_begun n rest bytes both.1 l)

pub long_begins_none : (bytes : List ℕ) → 10 < length bytes → begins_mark bytes ≡ false
unfolding begins_mark
long_begins_none bytes l = long_begun 10 marks bytes refl l

-- no byte begins a mark, and has none
pub none_here : (begins_mark [] ≡ true) × (format_of [] ≡ None)
unfolding begins_mark format_of
none_here = (refl, refl)
