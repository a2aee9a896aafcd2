-- Each step of the walk leads to a state that completes to the same trees.
use Rattle.std.proofs.Common.{◌≡◌, ℕ, ◌+◌, List, [], ◌∷◌, length, sym, ◌∙◌, ap, ap₂, subst, refl, Option, None}
use Rattle.jp_model.specs.declared.Span.{Span}
use Rattle.jp_model.specs.Characters.{is_white}
use Rattle.jp_model.specs.Json.Places.{byte_at, White, Has}
use Rattle.jp_model.specs.Json.Tree.{Tree, node, container, Container, array, object, Children, no_child, child, Name, span, joined}
use Rattle.jp_model.specs.Json.Spelling.{Spells, SpellsValue, SpellsFirst, SpellsMore, SpellsLabel, opening, closing, Text}
use Rattle.jp_model.specs.Json.Reader.{Bracket, lead_of}
use Rattle.jp_model.proofs.Reader.Lexical.{white_unique, white_ended, end_ended, more_ended, span_is, closing_stops, comma_no_closing}
use Rattle.jp_model.proofs.Reader.Leads.{stops, starts_inside, label_stops, label_no_closing}
use Rattle.jp_tape.specs.declared.builder.tokens.Scalar.{Scalar}
use Rattle.jp_tape.specs.Places.{Ended, Stops}
use Rattle.jp_tape.specs.Reading.{FoundScalar, NoValue, IsLabel, NoLabel}
use Rattle.jp_tape.specs.Machine.{Frame, entered, grown, State, Value_at, After_value, Completes, CompletesAfter, Alike, IsStuck, Leads}
use Rattle.jp_tape.proofs.Scalars.{value_at}

pub completes_ended : (line : List ℕ) (frames : List Frame) (own : Option Name) (t : Tree) (i : ℕ) (whole : Tree) → CompletesAfter line frames own t i whole → Ended line i
completes_ended line [] own t i whole h = white_ended line i (length line) h.0 (end_ended line)
completes_ended line (f ∷ frames) own t i whole h = more_ended line f.kind i h.1 h.0 h.2

-- a scalar
pub scalar_step : (line : List ℕ) (frames : List Frame) (own : Option Name) (from : ℕ) (r : Scalar) (s : FoundScalar line from r) →
    Alike line (Value_at frames own from) (After_value frames own (node (record { start = from; end = r.end }) s.value) r.end)
scalar_step line frames own from r s =
    record {
      forth = λ whole h.
          subst (λ t. CompletesAfter line frames own t (span t).end whole) (s.only h.0 h.1 h.2 (completes_ended line frames own h.0 (span h.0).end whole h.3)) h.3;
      back = λ whole h. (node (record { start = from; end = r.end }) s.value, refl, s.spelled, h);
    }

pub no_value_step : (line : List ℕ) (frames : List Frame) (own : Option Name) (from : ℕ) → NoValue line from → IsStuck line (Value_at frames own from)
no_value_step line frames own from none whole h = none h.0 h.1 h.2 (completes_ended line frames own h.0 (span h.0).end whole h.3)

-- brackets
opening_lead : (line : List ℕ) (kind : Container) (from : ℕ) → Has line from (opening kind) → lead_of (byte_at line from) ≡ Bracket kind
opening_lead line array from h = ap lead_of h.is
opening_lead line object from h = ap lead_of h.is

at_start : (s : Span) (from : ℕ) → s.start ≡ from → s ≡ record { start = from; end = s.end }
at_start s from e = span_is s from s.end e refl

-- an opening bracket, and what is after it
abbrev pub Opened : List ℕ → Container → ℕ → List Frame → Option Name → Tree → Type 0
Opened line kind from frames own whole =
    (children : Children) × (to : ℕ) × SpellsFirst line kind (from + 1) to children × CompletesAfter line frames own (node (record { start = from; end = to }) (container kind children)) to whole

opened_tree : (line : List ℕ) (kind : Container) (from : ℕ) (frames : List Frame) (own : Option Name) (whole : Tree) → Has line from (opening kind) →
    (t : Tree) → (span t).start ≡ from → Spells line t → CompletesAfter line frames own t (span t).end whole → Opened line kind from frames own whole
opened_tree line kind from frames own whole b (node s c) e h after =
    let k = value_at line from (Bracket kind) s c e h (opening_lead line kind from b) in
    let spelled : SpellsValue line s (container kind k.0) = subst (SpellsValue line s) k.1 h in
    (k.0, s.end, subst (λ x. SpellsFirst line kind (x + 1) s.end k.0) e spelled.1, subst (λ t. CompletesAfter line frames own t s.end whole) (ap₂ node (at_start s from e) k.1) after)

pub opened : (line : List ℕ) (kind : Container) (from : ℕ) (frames : List Frame) (own : Option Name) (whole : Tree) → Has line from (opening kind) → Completes line (Value_at frames own from) whole → Opened line kind from frames own whole
opened line kind from frames own whole b h = opened_tree line kind from frames own whole b h.0 h.1 h.2 h.3

pub from_opened : (line : List ℕ) (kind : Container) (from : ℕ) (frames : List Frame) (own : Option Name) (whole : Tree) → Has line from (opening kind) → Opened line kind from frames own whole → Completes line (Value_at frames own from) whole
from_opened line kind from frames own whole b h = (node (record { start = from; end = h.1 }) (container kind h.0), refl, (b, h.2), h.3)

-- an empty container
empty_forth : (line : List ℕ) (kind : Container) (from place : ℕ) (frames : List Frame) (own : Option Name) (whole : Tree) → White line (from + 1) place → Has line place (closing kind) →
    (children : Children) (to : ℕ) → SpellsFirst line kind (from + 1) to children → CompletesAfter line frames own (node (record { start = from; end = to }) (container kind children)) to whole →
    CompletesAfter line frames own (node (record { start = from; end = place + 1 }) (container kind no_child)) (place + 1) whole
empty_forth line kind from place frames own whole w c no_child to first after =
    let same : first.place ≡ place = white_unique line (from + 1) place first.place w (closing_stops line kind place c) first.white (closing_stops line kind first.place first.bracket) in
    subst (λ x. CompletesAfter line frames own (node (record { start = from; end = x }) (container kind no_child)) x whole) (first.end ∙ ap (λ x. x + 1) same) after
empty_forth line kind from place frames own whole w c (child name t more) to first after =
    let same : first.0 ≡ place = white_unique line (from + 1) place first.0 w (closing_stops line kind place c) first.1 (label_stops line kind first.0 name t first.2 first.3) in
    absurd (label_no_closing line kind first.0 name t first.2 first.3 (subst (λ x. Has line x (closing kind)) (sym same) c))

pub empty_step : (line : List ℕ) (kind : Container) (from place : ℕ) (frames : List Frame) (own : Option Name) → Has line from (opening kind) → White line (from + 1) place → Has line place (closing kind) →
    Alike line (Value_at frames own from) (After_value frames own (node (record { start = from; end = place + 1 }) (container kind no_child)) (place + 1))
empty_step line kind from place frames own b w c =
    record {
      forth = λ whole h. let o = opened line kind from frames own whole b h in empty_forth line kind from place frames own whole w c o.0 o.1 o.2 o.3;
      back = λ whole h. from_opened line kind from frames own whole b (no_child, place + 1, record { place = place; white = w; bracket = c; end = refl }, h);
    }

-- a container with a child
enter_forth : (line : List ℕ) (kind : Container) (from place : ℕ) (frames : List Frame) (own : Option Name) (whole : Tree) → White line (from + 1) place → Stops line place → (Has line place (closing kind) → ⊥) →
    (value : ℕ) (name : Option Name) → (l : IsLabel line kind place value name) →
    (children : Children) (to : ℕ) → SpellsFirst line kind (from + 1) to children → CompletesAfter line frames own (node (record { start = from; end = to }) (container kind children)) to whole →
    Completes line (Value_at (entered kind from own ∷ frames) name value) whole
enter_forth line kind from place frames own whole w s n value name l no_child to first after =
    let same : first.place ≡ place = white_unique line (from + 1) place first.place w s first.white (closing_stops line kind first.place first.bracket) in
    absurd (n (subst (λ x. Has line x (closing kind)) same first.bracket))
enter_forth line kind from place frames own whole w s n value name l (child other t more) to first after =
    let same : first.0 ≡ place = white_unique line (from + 1) place first.0 w s first.1 (label_stops line kind first.0 other t first.2 first.3) in
    let only = l.only other (span t).start (subst (λ x. SpellsLabel line kind x (span t).start other) same first.2) (stops line t first.3) in
    (t, only.1, first.3, (more, to, first.4, subst (λ x. CompletesAfter line frames own (node (record { start = from; end = to }) (container kind (child x t more))) to whole) only.0 after))

pub enter_step : (line : List ℕ) (kind : Container) (from place : ℕ) (frames : List Frame) (own : Option Name) → Has line from (opening kind) → White line (from + 1) place → Stops line place → (Has line place (closing kind) → ⊥) →
    (value : ℕ) (name : Option Name) → (l : IsLabel line kind place value name) →
    Alike line (Value_at frames own from) (Value_at (entered kind from own ∷ frames) name value)
enter_step line kind from place frames own b w s n value name l =
    record {
      forth = λ whole h. let o = opened line kind from frames own whole b h in enter_forth line kind from place frames own whole w s n value name l o.0 o.1 o.2 o.3;
      back = λ whole h.
          from_opened line kind from frames own whole b
          (child name h.0 h.3.0, h.3.1, (place, w, subst (λ x. SpellsLabel line kind place x name) (sym h.1) l.spelled, h.2, h.3.2), h.3.3);
    }

enter_stuck_at : (line : List ℕ) (kind : Container) (from place to : ℕ) → White line (from + 1) place → Stops line place → (Has line place (closing kind) → ⊥) → NoLabel line kind place →
    (children : Children) → SpellsFirst line kind (from + 1) to children → ⊥
enter_stuck_at line kind from place to w s n l no_child first =
    let same : first.place ≡ place = white_unique line (from + 1) place first.place w s first.white (closing_stops line kind first.place first.bracket) in
    n (subst (λ x. Has line x (closing kind)) same first.bracket)
enter_stuck_at line kind from place to w s n l (child name t more) first =
    let same : first.0 ≡ place = white_unique line (from + 1) place first.0 w s first.1 (label_stops line kind first.0 name t first.2 first.3) in
    l name (span t).start (subst (λ x. SpellsLabel line kind x (span t).start name) same first.2) (stops line t first.3) (starts_inside line t first.3)

pub enter_stuck : (line : List ℕ) (kind : Container) (from place : ℕ) (frames : List Frame) (own : Option Name) → Has line from (opening kind) → White line (from + 1) place → Stops line place → (Has line place (closing kind) → ⊥) → NoLabel line kind place →
    IsStuck line (Value_at frames own from)
enter_stuck line kind from place frames own b w s n l whole h =
    let o = opened line kind from frames own whole b h in enter_stuck_at line kind from place o.1 w s n l o.0 o.2

-- children joined
pub joined_assoc : (a : Children) (name : Option Name) (t : Tree) (more : Children) → joined (joined a (child name t no_child)) more ≡ joined a (child name t more)
joined_assoc no_child name t more = refl
joined_assoc (child other u rest) name t more = ap (child other u) (joined_assoc rest name t more)

comma_stops : (line : List ℕ) (i : ℕ) → Has line i 0x2C → Stops line i
comma_stops line i h = ap is_white h.is

-- after a comma
comma_forth : (line : List ℕ) (f : Frame) (frames : List Frame) (own : Option Name) (t : Tree) (at next from : ℕ) (whole : Tree) → White line at next → Has line next 0x2C → White line (next + 1) from → Stops line from →
    (value : ℕ) (name : Option Name) → (l : IsLabel line f.kind from value name) →
    (more : Children) (to : ℕ) → SpellsMore line f.kind at to more → CompletesAfter line frames f.name (node (record { start = f.start; end = to }) (container f.kind (joined f.done (child own t more)))) to whole →
    Completes line (Value_at (grown f own t ∷ frames) name value) whole
comma_forth line f frames own t at next from whole w c v s value name l no_child to m after =
    let same : m.place ≡ next = white_unique line at next m.place w (comma_stops line next c) m.white (closing_stops line f.kind m.place m.bracket) in
    absurd (comma_no_closing line f.kind next c.is (subst (λ x. Has line x (closing f.kind)) same m.bracket))
comma_forth line f frames own t at next from whole w c v s value name l (child other u more) to m after =
    let same : m.1.place ≡ next = white_unique line at next m.1.place w (comma_stops line next c) m.1.before (comma_stops line m.1.place m.1.is) in
    let label : m.0 ≡ from = white_unique line (next + 1) from m.0 v s (subst (λ x. White line (x + 1) m.0) same m.1.after) (label_stops line f.kind m.0 other u m.2 m.3) in
    let only = l.only other (span u).start (subst (λ x. SpellsLabel line f.kind x (span u).start other) label m.2) (stops line u m.3) in (
      u,
      only.1,
      m.3,
      (
        more,
        to,
        m.4,
        subst (λ x. CompletesAfter line frames f.name (node (record { start = f.start; end = to }) (container f.kind x)) to whole)
            (ap (λ x. joined f.done (child own t (child x u more))) only.0 ∙ sym (joined_assoc f.done own t (child name u more))) after,
      ),
    )

pub comma_step : (line : List ℕ) (f : Frame) (frames : List Frame) (own : Option Name) (t : Tree) (at next from : ℕ) → White line at next → Has line next 0x2C → White line (next + 1) from → Stops line from →
    (value : ℕ) (name : Option Name) → (l : IsLabel line f.kind from value name) →
    Alike line (After_value (f ∷ frames) own t at) (Value_at (grown f own t ∷ frames) name value)
comma_step line f frames own t at next from w c v s value name l =
    record {
      forth = λ whole h. comma_forth line f frames own t at next from whole w c v s value name l h.0 h.1 h.2 h.3;
      back = λ whole h. (
        child name h.0 h.3.0,
        h.3.1,
        (from, record { place = next; before = w; is = c; after = v }, subst (λ x. SpellsLabel line f.kind from x name) (sym h.1) l.spelled, h.2, h.3.2),
        subst (λ x. CompletesAfter line frames f.name (node (record { start = f.start; end = h.3.1 }) (container f.kind x)) h.3.1 whole) (joined_assoc f.done own t (child name h.0 h.3.0)) h.3.3,
      );
    }

comma_stuck_at : (line : List ℕ) (kind : Container) (at next from to : ℕ) → White line at next → Has line next 0x2C → White line (next + 1) from → Stops line from → NoLabel line kind from → (more : Children) → SpellsMore line kind at to more → ⊥
comma_stuck_at line kind at next from to w c v s l no_child m =
    let same : m.place ≡ next = white_unique line at next m.place w (comma_stops line next c) m.white (closing_stops line kind m.place m.bracket) in
    comma_no_closing line kind next c.is (subst (λ x. Has line x (closing kind)) same m.bracket)
comma_stuck_at line kind at next from to w c v s l (child name u more) m =
    let same : m.1.place ≡ next = white_unique line at next m.1.place w (comma_stops line next c) m.1.before (comma_stops line m.1.place m.1.is) in
    let label : m.0 ≡ from = white_unique line (next + 1) from m.0 v s (subst (λ x. White line (x + 1) m.0) same m.1.after) (label_stops line kind m.0 name u m.2 m.3) in
    l name (span u).start (subst (λ x. SpellsLabel line kind x (span u).start name) label m.2) (stops line u m.3) (starts_inside line u m.3)

pub comma_stuck : (line : List ℕ) (f : Frame) (frames : List Frame) (own : Option Name) (t : Tree) (at next from : ℕ) → White line at next → Has line next 0x2C → White line (next + 1) from → Stops line from → NoLabel line f.kind from →
    IsStuck line (After_value (f ∷ frames) own t at)
comma_stuck line f frames own t at next from w c v s l whole h = comma_stuck_at line f.kind at next from h.1 w c v s l h.0 h.2

-- the closing bracket
close_forth : (line : List ℕ) (f : Frame) (frames : List Frame) (own : Option Name) (t : Tree) (at next : ℕ) (whole : Tree) → White line at next → Has line next (closing f.kind) →
    (more : Children) (to : ℕ) → SpellsMore line f.kind at to more → CompletesAfter line frames f.name (node (record { start = f.start; end = to }) (container f.kind (joined f.done (child own t more)))) to whole →
    CompletesAfter line frames f.name (node (record { start = f.start; end = next + 1 }) (container f.kind (joined f.done (child own t no_child)))) (next + 1) whole
close_forth line f frames own t at next whole w c no_child to m after =
    let same : m.place ≡ next = white_unique line at next m.place w (closing_stops line f.kind next c) m.white (closing_stops line f.kind m.place m.bracket) in
    subst (λ x. CompletesAfter line frames f.name (node (record { start = f.start; end = x }) (container f.kind (joined f.done (child own t no_child)))) x whole) (m.end ∙ ap (λ x. x + 1) same) after
close_forth line f frames own t at next whole w c (child name u more) to m after =
    let same : m.1.place ≡ next = white_unique line at next m.1.place w (closing_stops line f.kind next c) m.1.before (comma_stops line m.1.place m.1.is) in
    absurd (comma_no_closing line f.kind next (ap (λ x. byte_at line x) (sym same) ∙ m.1.is.is) c)

pub close_step : (line : List ℕ) (f : Frame) (frames : List Frame) (own : Option Name) (t : Tree) (at next : ℕ) → White line at next → Has line next (closing f.kind) →
    Alike line (After_value (f ∷ frames) own t at) (After_value frames f.name (node (record { start = f.start; end = next + 1 }) (container f.kind (joined f.done (child own t no_child)))) (next + 1))
close_step line f frames own t at next w c =
    record {
      forth = λ whole h. close_forth line f frames own t at next whole w c h.0 h.1 h.2 h.3;
      back = λ whole h. (no_child, next + 1, record { place = next; white = w; bracket = c; end = refl }, h);
    }

-- neither
neither_at : (line : List ℕ) (kind : Container) (at next to : ℕ) → White line at next → Stops line next → (Has line next 0x2C → ⊥) → (Has line next (closing kind) → ⊥) → (more : Children) → SpellsMore line kind at to more → ⊥
neither_at line kind at next to w s c b no_child m =
    let same : m.place ≡ next = white_unique line at next m.place w s m.white (closing_stops line kind m.place m.bracket) in
    b (subst (λ x. Has line x (closing kind)) same m.bracket)
neither_at line kind at next to w s c b (child name u more) m =
    let same : m.1.place ≡ next = white_unique line at next m.1.place w s m.1.before (comma_stops line m.1.place m.1.is) in
    c (subst (λ x. Has line x 0x2C) same m.1.is)

pub neither_stuck : (line : List ℕ) (f : Frame) (frames : List Frame) (own : Option Name) (t : Tree) (at next : ℕ) → White line at next → Stops line next → (Has line next 0x2C → ⊥) → (Has line next (closing f.kind) → ⊥) →
    IsStuck line (After_value (f ∷ frames) own t at)
neither_stuck line f frames own t at next w s c b whole h = neither_at line f.kind at next h.1 w s c b h.0 h.2

-- the beginning
pub start_leads : (line : List ℕ) (from : ℕ) → White line 0 from → Stops line from → Leads line (Value_at [] None from)
start_leads line from w s = record {
  forth = λ whole h. (whole, white_unique line 0 from (span whole).start w s h.before (stops line whole h.value), h.value, (h.after, refl));
  back = λ whole h. subst (λ t. Text line t) (sym h.3.1) (record { before = subst (λ x. White line 0 x) (sym h.1) w; value = h.2; after = h.3.0 });
}

pub leads_on : (line : List ℕ) (x y : State) → Leads line x → Alike line x y → Leads line y
leads_on line x y l a = record { forth = λ whole t. a.forth whole (l.forth whole t); back = λ whole c. l.back whole (a.back whole c) }
