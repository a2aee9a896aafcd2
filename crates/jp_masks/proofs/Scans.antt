-- What a scan of one line knows, byte by byte.
use Rattle.std.proofs.Common.{◌≡◌, ℕ, zero, suc, ◌+◌, ◌-◌, ◌<◌, ◌≤◌, Bool, true, false, not, ◌&&◌, ◌||◌, cond, List, [], ◌∷◌, ◌++◌, length, get_or, refl, sym, ap, ap₂, ◌∙◌, arith, add-one, None, subst}
use Rattle.std.specs.List.{filter, range_with_len}
use Rattle.std.proofs.lemmas.Bool.Decides.{nat_tests}
use Rattle.jp_model.specs.Characters.{is_white, is_structural, is_backslash, is_quote}
use Rattle.jp_model.specs.Json.Marks.{marks, is_mark}
use Rattle.jp_model.specs.Json.Places.{White}
use Rattle.jp_masks.specs.Machine.{xor, start, after, is_marked, before}
use Rattle.jp_masks.specs.declared.block.Carry.{Carry}
use Rattle.jp_masks.proofs.LineLaw.{mark_law}
use Rattle.jp_masks.proofs.Positions.{filter_same}

-- a byte of a number or a word
pub record Plain (b : ℕ) : Type 0 where
  pub no_white : is_white b ≡ false
  pub no_structural : is_structural b ≡ false
  pub no_quote : is_quote b ≡ false
  pub no_backslash : is_backslash b ≡ false

-- a byte that neither closes a string nor escapes another
pub record Quiet (b : ℕ) : Type 0 where
  pub no_quote : is_quote b ≡ false
  pub no_backslash : is_backslash b ≡ false

module _ (line : List ℕ) where
  abbrev pub known : ℕ → Carry
  known i = before None start line i

  abbrev pub byte : ℕ → ℕ
  byte i = get_or line i 0

  abbrev pub marked : ℕ → Bool
  marked i = is_marked (known i) (byte i)

  -- the marks among n bytes from a position
  abbrev pub part : ℕ → ℕ → List ℕ
  part from n = filter marked (range_with_len from n)

  part-add : (from n m : ℕ) → part from (n + m) ≡ part from n ++ part (from + n) m
  part-add from zero m = ap₂ part (omega arith) (omega arith)
  part-add from (suc n) m =
      let count : suc n + m ≡ suc (n + m) = omega arith in
      let position : from + 1 + n ≡ from + suc n = omega arith in
      ap (part from) count ∙ go (marked from) (part-add (from + 1) n m ∙ ap (λ p. part (from + 1) n ++ part p m) position)
    where
      go : (b : Bool) → part (from + 1) (n + m) ≡ part (from + 1) n ++ part (from + suc n) m → cond b (from ∷ part (from + 1) (n + m)) (part (from + 1) (n + m)) ≡ cond b (from ∷ part (from + 1) n) (part (from + 1) n) ++ part (from + suc n) m
      go true e = ap (λ l. from ∷ l) e
      go false e = e

  -- the marks from a position up to another
  pub record Scans (from to : ℕ) (positions : List ℕ) : Type 0 where
    pub order : from ≤ to
    pub are : part from (to - from) ≡ positions

  pub join : (a b c : ℕ) (xs ys : List ℕ) → Scans a b xs → Scans b c ys → Scans a c (xs ++ ys)
  join a b c xs ys p q =
      let low = p.order in
      let high = q.order in
      let count : c - a ≡ (b - a) + (c - b) = omega arith in
      let position : a + (b - a) ≡ b = omega arith in
      record {
        order = omega arith;
        are = ap (part a) count ∙ part-add a (b - a) (c - b) ∙ ap₂ (λ (x y : List ℕ). x ++ y) p.are (ap (λ n. part n (c - b)) position ∙ q.are);
      }

  pub nothing : (i : ℕ) → Scans i i []
  nothing i = let count : i - i ≡ 0 = omega arith in record { order = omega arith; are = ap (part i) count }

  one : (i : ℕ) (b : Bool) → marked i ≡ b → Scans i (i + 1) (cond b (i ∷ []) [])
  one i b e = let count : i + 1 - i ≡ 1 = omega arith in record { order = omega arith; are = ap (part i) count ∙ ap (λ v. cond v (i ∷ []) []) e }

  -- the classes of a byte
  record Class (i : ℕ) (w st q b : Bool) : Type 0 where
    white : is_white (byte i) ≡ w
    structural : is_structural (byte i) ≡ st
    quote : is_quote (byte i) ≡ q
    backslash : is_backslash (byte i) ≡ b

  -- what is known: escaped, and inside a string
  pub record Knows (i : ℕ) (escaped inside : Bool) : Type 0 where
    pub escape : (known i).escaped ≡ escaped
    pub string : (known i).inside ≡ inside

  abbrev pub Begins : ℕ → Bool → Type 0
  Begins i b = (known i).may_begin ≡ b

  known-next : (i : ℕ) → known (i + 1) ≡ after None (known i) (byte i)
  unfolding before
  known-next i = ap known (add-one i)

  marked_is : (i : ℕ) (e s m w st q b : Bool) → Knows i e s → Begins i m → Class i w st q b → marked i ≡ ((q && not e) || (not s && (st || (m && not (w || q)))))
  marked_is i e s m w st q b k n c = λ t. (c.quote t && not (k.escape t)) || (not (k.string t) && (c.structural t || (n t && not (c.white t || c.quote t))))

  next_is : (i : ℕ) (e s w st q b : Bool) → Knows i e s → Class i w st q b → Knows (i + 1) (b && not e) (xor s (q && not e))
  next_is i e s w st q b k c = record {
    escape = ap (λ (x : Carry). x.escaped) (known-next i) ∙ (λ t. c.backslash t && not (k.escape t));
    string = ap (λ (x : Carry). x.inside) (known-next i) ∙ (λ t. xor (k.string t) (c.quote t && not (k.escape t)));
  }

  begins_is : (i : ℕ) (e s w st q b : Bool) → Knows i e s → Class i w st q b → Begins (i + 1) (w || st || (q && not e) || false)
  begins_is i e s w st q b k c = ap (λ (x : Carry). x.may_begin) (known-next i) ∙ (λ t. c.white t || c.structural t || (c.quote t && not (k.escape t)) || false)

  -- what holds from a position up to another: these marks, and what is known after them
  pub record Goes (from to : ℕ) (positions : List ℕ) (escaped inside : Bool) : Type 0 where
    pub scans : Scans from to positions
    pub knows : Knows to escaped inside

  pub then : (a b c : ℕ) (xs ys : List ℕ) (e s f t : Bool) → Goes a b xs e s → Goes b c ys f t → Goes a c (xs ++ ys) f t
  then a b c xs ys e s f t p q = record { scans = join a b c xs ys p.scans q.scans; knows = q.knows }

  pub stays : (i : ℕ) (e s : Bool) → Knows i e s → Goes i i [] e s
  stays i e s k = record { scans = nothing i; knows = k }

  begins : (i : ℕ) → Begins i (known i).may_begin
  begins i = refl

  -- ---- one byte

  and-false : (a : Bool) → (a && false) ≡ false
  and-false true = refl
  and-false false = refl

  class_of : (i b : ℕ) → byte i ≡ b → Class i (is_white b) (is_structural b) (is_quote b) (is_backslash b)
  class_of i b e = record { white = ap is_white e; structural = ap is_structural e; quote = ap is_quote e; backslash = ap is_backslash e }

  white_class : (i b : ℕ) → byte i ≡ b → is_white b ≡ true → Class i true false false false
  white_class i b e h =
      let no_structural : is_structural b ≡ false = grind (arith, nat_tests, h) in
      let no_quote : is_quote b ≡ false = grind (arith, nat_tests, h) in
      let no_backslash : is_backslash b ≡ false = grind (arith, nat_tests, h) in
      record { white = ap is_white e ∙ h; structural = ap is_structural e ∙ no_structural; quote = ap is_quote e ∙ no_quote; backslash = ap is_backslash e ∙ no_backslash }

  white_byte : (i : ℕ) → is_white (byte i) ≡ true → Knows i false false → Goes i (i + 1) [] false false × Begins (i + 1) true
  white_byte i h k =
      let c = white_class i (byte i) refl h in
      let m = (known i).may_begin in (
        record { scans = one i false (marked_is i false false m true false false false k (begins i) c ∙ and-false m); knows = next_is i false false true false false false k c },
        begins_is i false false true false false false k c,
      )

  -- a structural byte outside
  pub structural_byte : (i b : ℕ) → byte i ≡ b → is_white b ≡ false → is_structural b ≡ true → is_quote b ≡ false → is_backslash b ≡ false → Knows i false false → Goes i (i + 1) (i ∷ []) false false × Begins (i + 1) true
  structural_byte i b e w st q bs k =
      let c : Class i false true false false = record { white = ap is_white e ∙ w; structural = ap is_structural e ∙ st; quote = ap is_quote e ∙ q; backslash = ap is_backslash e ∙ bs } in
      let m = (known i).may_begin in (
        record { scans = one i true (marked_is i false false m false true false false k (begins i) c); knows = next_is i false false false true false false k c },
        begins_is i false false false true false false k c,
      )

  -- a quote that opens a string, and one that closes it
  pub opening_quote : (i : ℕ) → byte i ≡ 0x22 → Knows i false false → Goes i (i + 1) (i ∷ []) false true
  opening_quote i e k =
      let c = class_of i 0x22 e in
      let m = (known i).may_begin in
      record { scans = one i true (marked_is i false false m false false true false k (begins i) c); knows = next_is i false false false false true false k c }

  pub closing_quote : (i : ℕ) → byte i ≡ 0x22 → Knows i false true → Goes i (i + 1) (i ∷ []) false false × Begins (i + 1) true
  closing_quote i e k =
      let c = class_of i 0x22 e in
      let m = (known i).may_begin in (
        record { scans = one i true (marked_is i false true m false false true false k (begins i) c); knows = next_is i false true false false true false k c },
        begins_is i false true false false true false k c,
      )

  -- inside a string: a byte that is neither a quote nor a backslash, a backslash, and the byte after it
  quiet_byte : (i : ℕ) → is_quote (byte i) ≡ false → is_backslash (byte i) ≡ false → Knows i false true → Goes i (i + 1) [] false true
  quiet_byte i q b k =
      let c : Class i (is_white (byte i)) (is_structural (byte i)) false false = record { white = refl; structural = refl; quote = q; backslash = b } in
      let m = (known i).may_begin in
      record { scans = one i false (marked_is i false true m (is_white (byte i)) (is_structural (byte i)) false false k (begins i) c); knows = next_is i false true (is_white (byte i)) (is_structural (byte i)) false false k c }

  pub backslash_byte : (i : ℕ) → byte i ≡ 0x5C → Knows i false true → Goes i (i + 1) [] true true
  backslash_byte i e k =
      let c = class_of i 0x5C e in
      let m = (known i).may_begin in
      record { scans = one i false (marked_is i false true m false false false true k (begins i) c); knows = next_is i false true false false false true k c }

  or-false : (a : Bool) → ((a && false) || false) ≡ false
  or-false true = refl
  or-false false = refl

  pub escaped_byte : (i : ℕ) → Knows i true true → Goes i (i + 1) [] false true
  escaped_byte i k =
      let b = byte i in
      let c : Class i (is_white b) (is_structural b) (is_quote b) (is_backslash b) = record { white = refl; structural = refl; quote = refl; backslash = refl } in
      let m = (known i).may_begin in
      let next = next_is i true true (is_white b) (is_structural b) (is_quote b) (is_backslash b) k c in
      record {
        scans = one i false (marked_is i true true m (is_white b) (is_structural b) (is_quote b) (is_backslash b) k (begins i) c ∙ or-false (is_quote b));
        knows = record { escape = next.escape ∙ and-false (is_backslash b); string = next.string ∙ ap not (and-false (is_quote b)) };
      }

  plain_byte : (i : ℕ) (m : Bool) → Plain (byte i) → Knows i false false → Begins i m → Goes i (i + 1) (cond m (i ∷ []) []) false false × Begins (i + 1) false
  plain_byte i m p k n =
      let c : Class i false false false false = record { white = p.no_white; structural = p.no_structural; quote = p.no_quote; backslash = p.no_backslash } in (
        record { scans = one i m (marked_is i false false m false false false false k n c ∙ keeps m); knows = next_is i false false false false false false k c },
        begins_is i false false false false false false k c,
      )
    where
      keeps : (m : Bool) → ((false && not false) || (not false && (false || (m && not (false || false))))) ≡ m
      keeps true = refl
      keeps false = refl

  -- ---- runs of bytes

  -- each byte from a position up to another
  abbrev pub From : ℕ → ℕ → (ℕ → Type 0) → Type 0
  From i j P = (k : ℕ) → i ≤ k → k < j → P (byte k)

  more_plain : (n i j : ℕ) → j ≡ i + n → From i j Plain → Knows i false false → Begins i false → Goes i j [] false false
  more_plain zero i j e p k m = let same : j ≡ i = omega arith in subst (λ x. Goes i x [] false false) (sym same) (stays i false false k)
  more_plain (suc n) i j e p k m =
      let first = plain_byte i false (p i (omega arith) (omega arith)) k m in
      then i (i + 1) j [] [] false false false false first.0 (more_plain n (i + 1) j (omega arith) (λ h low high. p h (omega arith) high) first.0.knows first.1)

  -- a number or a word begins a token, and is one
  pub plain_run : (i j : ℕ) → i < j → From i j Plain → Knows i false false → Begins i true → Goes i j (i ∷ []) false false
  plain_run i j l p k m =
      let first = plain_byte i true (p i (omega arith) l) k m in
      then i (i + 1) j (i ∷ []) [] false false false false first.0 (more_plain (j - (i + 1)) (i + 1) j (omega arith) (λ h low high. p h (omega arith) high) first.0.knows first.1)

  white_run : (n i j : ℕ) → j ≡ i + n → ((k : ℕ) → i ≤ k → k < j → is_white (byte k) ≡ true) → Knows i false false → Goes i j [] false false × (Begins i true → Begins j true)
  white_run zero i j e w k = let same : j ≡ i = omega arith in (subst (λ x. Goes i x [] false false) (sym same) (stays i false false k), λ b. ap (λ x. (known x).may_begin) same ∙ b)
  white_run (suc n) i j e w k =
      let first = white_byte i (w i (omega arith) (omega arith)) k in
      let rest = white_run n (i + 1) j (omega arith) (λ h low high. w h (omega arith) high) first.0.knows in
      (then i (i + 1) j [] [] false false false false first.0 rest.0, λ b. rest.1 first.1)

  -- white space has no mark
  pub white_space : (i j : ℕ) → White line i j → Knows i false false → Goes i j [] false false × (Begins i true → Begins j true)
  white_space i j w k = let o = w.order in white_run (j - i) i j (omega arith) w.white k

  pub quiet_run : (n i j : ℕ) → j ≡ i + n → From i j Quiet → Knows i false true → Goes i j [] false true
  quiet_run zero i j e p k = let same : j ≡ i = omega arith in subst (λ x. Goes i x [] false true) (sym same) (stays i false true k)
  quiet_run (suc n) i j e p k =
      let here = p i (omega arith) (omega arith) in
      let first = quiet_byte i here.no_quote here.no_backslash k in
      then i (i + 1) j [] [] false true false true first (quiet_run n (i + 1) j (omega arith) (λ h low high. p h (omega arith) high) first.knows)

  -- ---- the whole line

  pub at_start : Knows 0 false false × Begins 0 true
  unfolding before
  at_start = (record { escape = refl; string = refl }, refl)

  pub marks_are : (positions : List ℕ) → Scans 0 (length line) positions → marks line ≡ positions
  unfolding marks
  marks_are positions s = filter_same (is_mark line) marked 0 (length line) (λ i low high. sym (mark_law None line i (λ j below. refl))) ∙ (let whole : length line ≡ length line - 0 = omega arith in ap (part 0) whole) ∙ s.are
