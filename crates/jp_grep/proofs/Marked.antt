-- A byte order mark at the front of a text, and more after it.
use Rattle.std.proofs.Common.{◌≡◌, ℕ, List, [], ◌∷◌, ◌++◌, take, drop, Bool, true, false, refl, sym, ap, ap₂, subst, ◌∙◌, ◌&&◌, if◌then◌else◌}
use Rattle.std.specs.Prelude.{eqb, bytes_eq}
use Rattle.std.specs.List.{starts_with}
use Rattle.std.proofs.lemmas.List.Elements.{All-drop}
use Rattle.jp_model.specs.declared.Framing.{Framing}
use Rattle.jp_model.specs.declared.Framing.TheVariants as framings
use Rattle.jp_model.specs.Characters.{text_equal}
use Rattle.jp_model.specs.Lines.{HasNoSeparator, is_separator, without_byte_order_mark}
use Rattle.jp_grep.specs.Cuts.{EndsBetween}
use Rattle.jp_grep.specs.Positions.{GoesOn}

-- the mark
abbrev pub Mark : List ℕ
Mark = 0xEF ∷ 0xBB ∷ 0xBF ∷ []

more_behind : (b : Bool) (x y more : List ℕ) → (if b then x ++ more else (y ++ more)) ≡ (if b then x else y) ++ more
more_behind true x y more = refl
more_behind false x y more = refl

-- three bytes show whether it is there
pub three : (a b c : ℕ) (text more : List ℕ) → GoesOn (a ∷ b ∷ c ∷ text) more
three a b c text more = more_behind (text_equal (a ∷ b ∷ c ∷ []) Mark) text (a ∷ b ∷ c ∷ text) more

-- it is not there
absent : (text : List ℕ) → text_equal (take 3 text) Mark ≡ false → without_byte_order_mark text ≡ text
absent text e = ap (λ (b : Bool). if b then drop 3 text else text) e

and_true : (a : Bool) → (a && true) ≡ a
and_true true = refl
and_true false = refl

and_false : (a : Bool) → (a && false) ≡ false
and_false true = refl
and_false false = refl

-- so do fewer, where the next byte is none of its bytes
module _ (byte : ℕ) (first : eqb byte 0xEF ≡ false) (second : eqb byte 0xBB ≡ false) (third : eqb byte 0xBF ≡ false) where
  at_first : (more : List ℕ) → text_equal (take 3 (byte ∷ more)) Mark ≡ false
  at_first more = ap (λ b. b && bytes_eq (take 2 more) (0xBB ∷ 0xBF ∷ [])) first

  at_second : (a : ℕ) (more : List ℕ) → text_equal (take 3 (a ∷ byte ∷ more)) Mark ≡ false
  at_second a more = ap (λ b. eqb a 0xEF && (b && bytes_eq (take 1 more) (0xBF ∷ []))) second ∙ and_false (eqb a 0xEF)

  at_third : (a b : ℕ) (more : List ℕ) → text_equal (take 3 (a ∷ b ∷ byte ∷ more)) Mark ≡ false
  at_third a b more = ap (λ t. eqb a 0xEF && (eqb b 0xBB && (t && true))) third ∙ ap (λ t. eqb a 0xEF && t) (and_false (eqb b 0xBB)) ∙ and_false (eqb a 0xEF)

  -- the byte stands after the text
  pub goes_on_behind : (text rest : List ℕ) → GoesOn text (byte ∷ rest)
  goes_on_behind [] rest = absent (byte ∷ rest) (at_first rest)
  goes_on_behind (a ∷ []) rest = absent (a ∷ byte ∷ rest) (at_second a rest) ∙ ap (λ l. l ++ byte ∷ rest) (sym (short a))
    where
      short : (a : ℕ) → without_byte_order_mark (a ∷ []) ≡ a ∷ []
      short a = absent (a ∷ []) (and_false (eqb a 0xEF))
  goes_on_behind (a ∷ b ∷ []) rest = absent (a ∷ b ∷ byte ∷ rest) (at_third a b rest) ∙ ap (λ l. l ++ byte ∷ rest) (sym (short a b))
    where
      short : (a b : ℕ) → without_byte_order_mark (a ∷ b ∷ []) ≡ a ∷ b ∷ []
      short a b = absent (a ∷ b ∷ []) (ap (λ t. eqb a 0xEF && t) (and_false (eqb b 0xBB)) ∙ and_false (eqb a 0xEF))
  goes_on_behind (a ∷ b ∷ c ∷ text) rest = three a b c text (byte ∷ rest)

  -- the byte ends the text
  pub goes_on_ended : (text more : List ℕ) → GoesOn (text ++ byte ∷ []) more
  goes_on_ended [] more = absent (byte ∷ more) (at_first more) ∙ ap (λ l. l ++ more) (sym (absent (byte ∷ []) (at_first [])))
  goes_on_ended (a ∷ []) more = absent (a ∷ byte ∷ more) (at_second a more) ∙ ap (λ l. l ++ more) (sym (absent (a ∷ byte ∷ []) (at_second a [])))
  goes_on_ended (a ∷ b ∷ []) more = absent (a ∷ b ∷ byte ∷ more) (at_third a b more) ∙ ap (λ l. l ++ more) (sym (absent (a ∷ b ∷ byte ∷ []) (at_third a b [])))
  goes_on_ended (a ∷ b ∷ c ∷ text) more = three a b c (text ++ byte ∷ []) more

  -- and ends what is left of it
  pub still_ended : (text : List ℕ) → (line : List ℕ) × (without_byte_order_mark (text ++ byte ∷ []) ≡ line ++ byte ∷ [])
  still_ended [] = ([], absent (byte ∷ []) (at_first []))
  still_ended (a ∷ []) = (a ∷ [], absent (a ∷ byte ∷ []) (at_second a []))
  still_ended (a ∷ b ∷ []) = (a ∷ b ∷ [], absent (a ∷ b ∷ byte ∷ []) (at_third a b []))
  still_ended (a ∷ b ∷ c ∷ text) = (without_byte_order_mark (a ∷ b ∷ c ∷ text), three a b c text (byte ∷ []))

-- so do bytes that are no beginning of it
pub settled_mark : (text more : List ℕ) → starts_with eqb Mark text ≡ false → GoesOn text more
settled_mark [] more h = absurd (cc)
settled_mark (a ∷ []) more h = by (eqb a 0xEF) refl
  where
    by : (v : Bool) → eqb a 0xEF ≡ v → GoesOn (a ∷ []) more
    by true e = absurd (apart (sym (ap (λ b. b && true) e) ∙ h))
      where
        apart : true ≡ false → ⊥
        apart g = cc
    by false e = absent (a ∷ more) (ap (λ b. b && bytes_eq (take 2 more) (0xBB ∷ 0xBF ∷ [])) e) ∙ ap (λ l. l ++ more) (sym (absent (a ∷ []) (ap (λ b. b && false) e)))
settled_mark (a ∷ b ∷ []) more h = by (eqb a 0xEF) (eqb b 0xBB) refl refl
  where
    either : (v w : Bool) → eqb a 0xEF ≡ v → eqb b 0xBB ≡ w → (v && w) ≡ false → GoesOn (a ∷ b ∷ []) more
    either false w e f g = absent (a ∷ b ∷ more) (ap (λ t. t && (eqb b 0xBB && bytes_eq (take 1 more) (0xBF ∷ []))) e)
        ∙ ap (λ l. l ++ more) (sym (absent (a ∷ b ∷ []) (ap (λ t. t && (eqb b 0xBB && false)) e)))
    either true true e f g = absurd (cc)
    either true false e f g = absent (a ∷ b ∷ more) (ap (λ t. eqb a 0xEF && (t && bytes_eq (take 1 more) (0xBF ∷ []))) f ∙ and_false (eqb a 0xEF))
        ∙ ap (λ l. l ++ more) (sym (absent (a ∷ b ∷ []) (ap (λ t. eqb a 0xEF && (t && false)) f ∙ and_false (eqb a 0xEF))))

    by : (v w : Bool) → eqb a 0xEF ≡ v → eqb b 0xBB ≡ w → GoesOn (a ∷ b ∷ []) more
    by v w e f = either v w e f (ap₂ (λ (s t : Bool). s && t) (sym e) (sym f) ∙ ap (λ t. eqb a 0xEF && t) (sym (and_true (eqb b 0xBB))) ∙ h)
settled_mark (a ∷ b ∷ c ∷ text) more h = three a b c text more

-- where the last line ends in a text, a mark goes on after it
pub goes_on : (framing : Framing) (front rest more : List ℕ) → EndsBetween framing front rest → GoesOn front (rest ++ more)
goes_on framings.Lines front rest more h = subst (λ l. GoesOn l (rest ++ more)) (sym h.1) (goes_on_ended 10 refl refl refl h.0 (rest ++ more))
goes_on framings.Sequence front rest more h = subst (λ l. GoesOn front (l ++ more)) (sym h.1) (goes_on_behind 30 refl refl refl front (h.0 ++ more))

-- and the last line ends in what is left there, too
pub still_between : (framing : Framing) (front rest : List ℕ) → EndsBetween framing front rest → EndsBetween framing (without_byte_order_mark front) rest
still_between framings.Lines front rest h =
    let e = still_ended 10 refl refl refl h.0 in
    (e.0, ap without_byte_order_mark h.1 ∙ e.1, h.2)
still_between framings.Sequence front rest h = h

-- no separator stands in what is left of a text without one
pub still_clear : (separator : ℕ) (text : List ℕ) → HasNoSeparator separator text → HasNoSeparator separator (without_byte_order_mark text)
still_clear separator text h = by (text_equal (take 3 text) Mark)
  where
    by : (b : Bool) → HasNoSeparator separator (if b then drop 3 text else text)
    by true = All-drop (λ byte. is_separator separator byte ≡ false) 3 text h
    by false = h
