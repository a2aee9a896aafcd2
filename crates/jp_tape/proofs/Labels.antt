-- What stands before a child's value is one thing.
use Rattle.std.proofs.Common.{◌≡◌, ℕ, ◌+◌, Bool, false, List, Option, Some, None, arith, sym, ◌∙◌, refl, ap, ap₂, subst}
use Rattle.std.proofs.lemmas.Option.{same_Some}
use Rattle.jp_model.specs.declared.Span.{Span}
use Rattle.jp_model.specs.Characters.{is_white}
use Rattle.jp_model.specs.Json.Places.{White, Has}
use Rattle.jp_model.specs.Json.Strings.{SpellsBody, has_lone_surrogate}
use Rattle.jp_model.specs.Json.Tree.{Name, array, object}
use Rattle.jp_model.specs.Json.Spelling.{SpellsString, SpellsName, SpellsLabel, Separator}
use Rattle.jp_model.proofs.Reader.Lexical.{white_unique, span_is}
use Rattle.jp_model.proofs.Reader.Bodies.{body_whole}
use Rattle.jp_tape.specs.Places.{Stops}
use Rattle.jp_tape.specs.Reading.{IsLabel, FoundLabel, NoLabel}

body_found_same : (line : List ℕ) (i j k : ℕ) (p q : List ℕ) → SpellsBody line i j p → Has line j 0x22 → SpellsBody line i k q → Has line k 0x22 → (let x : List ℕ × ℕ = (q, k) in x) ≡ (p, j)
body_found_same line i j k p q a c b d = same_Some _ _ (sym (body_whole line i k q b d) ∙ body_whole line i j p a c)

-- a body and its end
pub body_end : (line : List ℕ) (i j k : ℕ) (p q : List ℕ) → SpellsBody line i j p → Has line j 0x22 → SpellsBody line i k q → Has line k 0x22 → k ≡ j
body_end line i j k p q a c b d = ap (λ (x : List ℕ × ℕ). x.1) (body_found_same line i j k p q a c b d)

pub body_points : (line : List ℕ) (i j k : ℕ) (p q : List ℕ) → SpellsBody line i j p → Has line j 0x22 → SpellsBody line i k q → Has line k 0x22 → q ≡ p
body_points line i j k p q a c b d = ap (λ (x : List ℕ × ℕ). x.0) (body_found_same line i j k p q a c b d)

name_is : (n o : Name) → n.body.start ≡ o.body.start → n.body.end ≡ o.body.end → n.points ≡ o.points → n ≡ o
name_is n o p q r = ap₂ (λ (s : Span) (x : List ℕ). record { body = s; points = x }) (span_is n.body o.body.start o.body.end p q) r

separator_place : (line : List ℕ) (byte from to upto : ℕ) → is_white byte ≡ false → (v : Separator line byte from to) → (w : Separator line byte from upto) → w.place ≡ v.place
separator_place line byte from to upto n v w = white_unique line from v.place w.place v.before (ap is_white v.is.is ∙ n) w.before (ap is_white w.is.is ∙ n)

separator_end : (line : List ℕ) (byte from to upto : ℕ) → is_white byte ≡ false → Separator line byte from to → Stops line to → Separator line byte from upto → Stops line upto → upto ≡ to
separator_end line byte from to upto n v s w r =
    white_unique line (v.place + 1) to upto v.after s (subst (λ p. White line (p + 1) upto) (separator_place line byte from to upto n v w) w.after) r

name_unique : (line : List ℕ) (from v w : ℕ) (n o : Name) → SpellsName line from v n → Stops line v → SpellsName line from w o → Stops line w → (o ≡ n) × (w ≡ v)
name_unique line from v w n o a s b r =
    let start : o.body.start ≡ n.body.start = b.behind_quote ∙ sym a.behind_quote in
    let body : SpellsBody line n.body.start o.body.end o.points = subst (λ x. SpellsBody line x o.body.end o.points) start b.body in
    let end : o.body.end ≡ n.body.end = body_end line n.body.start n.body.end o.body.end n.points o.points a.body a.closes body b.closes in
    let points : o.points ≡ n.points = body_points line n.body.start n.body.end o.body.end n.points o.points a.body a.closes body b.closes in
    (name_is o n start end points, separator_end line 0x3A (n.body.end + 1) v w refl a.colon s (subst (λ x. Separator line 0x3A (x + 1) w) end b.colon) r)

only_name : (line : List ℕ) (from v : ℕ) (n : Name) → SpellsName line from v n → Stops line v → (own : Option Name) (place : ℕ) → SpellsLabel line object from place own → Stops line place → (own ≡ Some n) × (place ≡ v)
only_name line from v n h s None place l r = absurd l
only_name line from v n h s (Some o) place l r = let u = name_unique line from v place n o h s l r in (ap (λ x. Some x) u.0, u.1)

-- a string, a colon and white space are a name
pub found_name : (line : List ℕ) (from end colon value : ℕ) (b p : Bool) (points : List ℕ) → SpellsString line from end points → has_lone_surrogate points ≡ b → White line end colon → Has line colon 0x3A → White line (colon + 1) value → Stops line value →
    (last : ℕ) → end ≡ last + 1 → FoundLabel line from (record { name = record { start = from + 1; end = last }; is_lone = b; is_plain = p; value = value })
found_name line from end colon value b p points string lone before c after s last e =
    let same : string.last ≡ last = omega (arith, string.end, e) in
    let name : Name = record { body = record { start = from + 1; end = last }; points = points } in
    let spelled : SpellsName line from value name = record {
      opens = string.opens;
      body = subst (λ x. SpellsBody line (from + 1) x points) same string.body;
      closes = subst (λ x. Has line x 0x22) same string.closes;
      behind_quote = refl;
      colon = record { place = colon; before = subst (λ x. White line x colon) e before; is = c; after = after };
    } in
    record { name = name; is_body = refl; surrogate = sym lone; label = record { spelled = spelled; only = only_name line from value name spelled s } }

-- where no string stands, no name does
pub no_string_no_name : (line : List ℕ) (from : ℕ) → ((to : ℕ) (points : List ℕ) → SpellsString line from to points → ⊥) → NoLabel line object from
no_string_no_name line from none None place l s i = absurd l
no_string_no_name line from none (Some n) place l s i =
    none (n.body.end + 1) n.points (record { last = n.body.end; opens = l.opens; body = subst (λ x. SpellsBody line x n.body.end n.points) l.behind_quote l.body; closes = l.closes; end = refl })

-- before an element nothing stands
pub no_label : (line : List ℕ) (from : ℕ) → IsLabel line array from from None
no_label line from = record { spelled = refl; only = only_none }
  where
    only_none : (own : Option Name) (place : ℕ) → SpellsLabel line array from place own → Stops line place → (own ≡ None) × (place ≡ from)
    only_none None place l s = (refl, sym l)
    only_none (Some n) place l s = absurd l

-- where no quote stands, no name does
pub no_quote_no_name : (line : List ℕ) (from : ℕ) → (Has line from 0x22 → ⊥) → NoLabel line object from
no_quote_no_name line from none None place l s i = absurd l
no_quote_no_name line from none (Some n) place l s i = none l.opens

-- a string with no colon after it is none
pub no_colon_no_name : (line : List ℕ) (from end colon : ℕ) (points : List ℕ) → SpellsString line from end points → White line end colon → Stops line colon → (Has line colon 0x3A → ⊥) → NoLabel line object from
no_colon_no_name line from end colon points string w s none None place l r i = absurd l
no_colon_no_name line from end colon points string w s none (Some n) place l r i =
    let body : SpellsBody line (from + 1) n.body.end n.points = subst (λ x. SpellsBody line x n.body.end n.points) l.behind_quote l.body in
    let last : n.body.end ≡ string.last = body_end line (from + 1) string.last n.body.end points n.points string.body string.closes body l.closes in
    let before : White line end l.colon.place = subst (λ x. White line x l.colon.place) (ap (λ x. x + 1) last ∙ sym string.end) l.colon.before in
    let there : l.colon.place ≡ colon = white_unique line end colon l.colon.place w s before (ap is_white l.colon.is.is) in
    none (subst (λ x. Has line x 0x3A) there l.colon.is)
