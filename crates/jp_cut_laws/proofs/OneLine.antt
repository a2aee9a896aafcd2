-- What is left of the bytes of a tree, without line feeds and carriage returns, is written for that tree.
use Rattle.std.proofs.Common.{◌≡◌, ◌≢◌, ℕ, ◌≤◌, inl, inr, Bool, true, false, not, cond, ◌||◌, eqb, List, [], ◌∷◌, ◌++◌, Option, Some, None, refl, sym, ap, subst, ◌∙◌, arith}
use Rattle.std.specs.Prelude.{◌==◌}
use Rattle.std.specs.Char as char
use Rattle.std.specs.List.{AllByRecursion}
use Rattle.std.proofs.lemmas.Bool.{ne_eqb, both_ways}
use Rattle.std.proofs.lemmas.Bool.Decides.{nat_tests}
use Rattle.std.proofs.lemmas.List.Elements.{filter-append}
use Rattle.jp_model.specs.Characters.{is_white}
use Rattle.jp_model.specs.declared.Framing.TheVariants.{Lines}
use Rattle.jp_model.specs.Json.Numbers.{numeral_bytes}
use Rattle.jp_model.specs.Json.Places.{bytes_between}
use Rattle.jp_model.specs.Json.Reader.{status_of}
use Rattle.jp_model.specs.Json.Status.{parsed}
use Rattle.jp_model.specs.Json.Spelling.{opening, closing, word_of}
use Rattle.jp_model.specs.Json.Tree.{Tree, node, Value, null, boolean, number, string, container, Container, array, object, Children, no_child, child, Name, span}
use Rattle.jp_cut_laws.specs.Elements.{SaysTheSame}
use Rattle.jp_cut_laws.specs.Values.{on_one_line}
use Rattle.jp_cut_laws.proofs.Crossing.{Each, each_digit, encode_each, escape_letter}
use Rattle.jp_cut_laws.proofs.Lines.{written_line, sound}
use Rattle.jp_cut_laws.proofs.Whole.{accepted_parts}
use Rattle.jp_cut_laws.proofs.Values.{IsOfWord, boolean_of_word, numeral_of_word}
use Rattle.jp_cut_laws.proofs.Written.{IsWhite, IsSeparator, IsEnd, IsCharacter, AreCharacters, IsString, IsLabel, Writes, WritesValue, WritesFirst, WritesMore}

-- a byte that is neither a line feed nor a carriage return
abbrev stays : ℕ → Bool
stays byte = not ((byte == 0x0A) || (byte == 0x0D))

abbrev Stays : ℕ → Type 0
Stays byte = stays byte ≡ true

stays_from : (byte : ℕ) → byte ≢ 0x0A → byte ≢ 0x0D → Stays byte
stays_from byte a b = rw (ne_eqb byte 0x0A a, ne_eqb byte 0x0D b) refl

-- no control character is left out but those two
shown_stays : (byte : ℕ) → 0x20 ≤ byte → Stays byte
shown_stays byte l = stays_from byte (λ e. omega arith) (λ e. omega arith)

word_stays : (byte : ℕ) → IsOfWord byte → Stays byte
word_stays byte h = stays_from byte (λ e. both_ways (is_white byte) h.no_white (ap is_white e)) (λ e. both_ways (is_white byte) h.no_white (ap is_white e))

all_stay : (bytes : List ℕ) → Each Stays bytes → on_one_line bytes ≡ bytes
all_stay [] h = refl
all_stay (byte ∷ rest) h = ap (λ b. cond b (byte ∷ on_one_line rest) (on_one_line rest)) h.0 ∙ ap (λ xs. byte ∷ xs) (all_stay rest h.1)

words_stay : (bytes : List ℕ) → Each IsOfWord bytes → Each Stays bytes
words_stay [] h = tt
words_stay (byte ∷ rest) h = (word_stays byte h.0, words_stay rest h.1)

word_one_line : (bytes : List ℕ) → Each IsOfWord bytes → on_one_line bytes ≡ bytes
word_one_line bytes h = all_stay bytes (words_stay bytes h)

-- ---- white space

white_by : (b : Bool) (byte : ℕ) (rest : List ℕ) → is_white byte ≡ true → IsWhite rest → IsWhite (cond b (byte ∷ rest) rest)
white_by true byte rest e h = (e, h)
white_by false byte rest e h = h

white_one_line : (bytes : List ℕ) → IsWhite bytes → IsWhite (on_one_line bytes)
white_one_line [] h = tt
white_one_line (byte ∷ rest) h = white_by (stays byte) byte (on_one_line rest) h.0 (white_one_line rest h.1)

parts_one_line : (a b bytes : List ℕ) → bytes ≡ a ++ b → on_one_line bytes ≡ on_one_line a ++ on_one_line b
parts_one_line a b bytes e = ap on_one_line e ∙ filter-append stays a b

then_one_line : (byte : ℕ) (rest : List ℕ) → Stays byte → on_one_line (byte ∷ rest) ≡ byte ∷ on_one_line rest
then_one_line byte rest h = ap (λ b. cond b (byte ∷ on_one_line rest) (on_one_line rest)) h

separator_one_line : (b : ℕ) (bytes : List ℕ) → Stays b → IsSeparator b bytes → IsSeparator b (on_one_line bytes)
separator_one_line b bytes s h = record {
  before = on_one_line h.before;
  after = on_one_line h.after;
  joined = parts_one_line h.before (b ∷ h.after) bytes h.joined ∙ ap (λ xs. on_one_line h.before ++ xs) (then_one_line b h.after s);
  white_before = white_one_line h.before h.white_before;
  white_after = white_one_line h.after h.white_after;
}

closing_stays : (kind : Container) → Stays (closing kind)
closing_stays array = refl
closing_stays object = refl

opening_stays : (kind : Container) → Stays (opening kind)
opening_stays array = refl
opening_stays object = refl

end_one_line : (kind : Container) (bytes : List ℕ) → IsEnd kind bytes → IsEnd kind (on_one_line bytes)
end_one_line kind bytes h = record {
  before = on_one_line h.before;
  joined = parts_one_line h.before (closing kind ∷ []) bytes h.joined ∙ ap (λ xs. on_one_line h.before ++ xs) (then_one_line (closing kind) [] (closing_stays kind));
  white = white_one_line h.before h.white;
}

-- ---- strings

hex_stays : (c : ℕ) → char.is_digit c 16 ≡ true → Stays c
hex_stays c h = let l : 0x20 ≤ c = grind (arith, nat_tests, h) in shown_stays c l

character_stays : (bytes : List ℕ) (unit : ℕ) → IsCharacter bytes unit → Each Stays bytes
character_stays bytes unit (inl h) = subst (Each Stays) (sym h.joined) (encode_each Stays unit (shown_stays unit h.no_control) (λ b l. shown_stays b (omega (arith, l))))
character_stays bytes unit (inr (inl h)) = subst (Each Stays) (sym h.joined) (refl, (shown_stays h.letter (escape_letter h.letter unit h.spells).0, tt))
character_stays bytes unit (inr (inr h)) = subst (Each Stays) (sym h.joined) (refl, (refl, each_digit Stays hex_stays h.a h.b h.c h.d unit h.spells))

characters_one_line : (units bytes : List ℕ) → AreCharacters bytes units → on_one_line bytes ≡ bytes
characters_one_line [] bytes h = ap on_one_line h ∙ sym h
characters_one_line (unit ∷ units) bytes h =
    parts_one_line h.0 h.1 bytes h.2 ∙ (ap (λ xs. xs ++ on_one_line h.1) (all_stay h.0 (character_stays h.0 unit h.3)) ∙ (ap (λ xs. h.0 ++ xs) (characters_one_line units h.1 h.4) ∙ sym h.2))

string_one_line : (bytes points : List ℕ) → IsString bytes points → on_one_line bytes ≡ bytes
string_one_line bytes points h =
    ap on_one_line h.joined ∙ (ap (λ xs. 0x22 ∷ xs) (filter-append stays h.body (0x22 ∷ []) ∙ ap (λ xs. xs ++ 0x22 ∷ []) (characters_one_line h.units h.body h.characters)) ∙ sym h.joined)

label_one_line : (kind : Container) (bytes : List ℕ) (name : Option Name) → IsLabel kind bytes name → IsLabel kind (on_one_line bytes) name
label_one_line array bytes None h = ap on_one_line h
label_one_line array bytes (Some name) h = absurd h
label_one_line object bytes None h = absurd h
label_one_line object bytes (Some name) h = record {
  name = h.name;
  colon = on_one_line h.colon;
  joined = parts_one_line h.name h.colon bytes h.joined ∙ ap (λ xs. xs ++ on_one_line h.colon) (string_one_line h.name name.points h.quoted);
  quoted = h.quoted;
  separator = separator_one_line 0x3A h.colon refl h.separator;
}

-- ---- values

four_one_line : (a b c rest bytes : List ℕ) → bytes ≡ a ++ (b ++ (c ++ rest)) → on_one_line bytes ≡ on_one_line a ++ (on_one_line b ++ (on_one_line c ++ on_one_line rest))
four_one_line a b c rest bytes e =
    parts_one_line a (b ++ (c ++ rest)) bytes e ∙ ap (λ xs. on_one_line a ++ xs) (filter-append stays b (c ++ rest) ∙ ap (λ xs. on_one_line b ++ xs) (filter-append stays c rest))

mutual
  pub tree_one_line : (t : Tree) (bytes : List ℕ) → Writes bytes t → Writes (on_one_line bytes) t
  tree_one_line (node s v) bytes h = value_one_line v bytes h

  value_one_line : (v : Value) (bytes : List ℕ) → WritesValue bytes v → WritesValue (on_one_line bytes) v
  value_one_line null bytes h = ap on_one_line h
  value_one_line (boolean b) bytes h = ap on_one_line h ∙ word_one_line (word_of b) (boolean_of_word b)
  value_one_line (number m e) bytes h = record {
    numeral = h.numeral;
    correct = h.correct;
    short = h.short;
    joined = sym (word_one_line (numeral_bytes h.numeral) (numeral_of_word h.numeral h.correct)) ∙ ap on_one_line h.joined;
    is_mantissa = h.is_mantissa;
    is_scale = h.is_scale;
  }
  value_one_line (string points) bytes h = subst (λ xs. IsString xs points) (sym (string_one_line bytes points h)) h
  value_one_line (container kind children) bytes h = (on_one_line h.0, ap on_one_line h.1 ∙ then_one_line (opening kind) h.0 (opening_stays kind), first_one_line children kind h.0 h.2)

  first_one_line : (c : Children) (kind : Container) (bytes : List ℕ) → WritesFirst kind bytes c → WritesFirst kind (on_one_line bytes) c
  first_one_line no_child kind bytes h = end_one_line kind bytes h
  first_one_line (child name t more) kind bytes h =
      (on_one_line h.0, on_one_line h.1, on_one_line h.2, on_one_line h.3, four_one_line h.0 h.1 h.2 h.3 bytes h.4, white_one_line h.0 h.5, label_one_line kind h.1 name h.6, tree_one_line t h.2 h.7, more_one_line more kind h.3 h.8)

  more_one_line : (c : Children) (kind : Container) (bytes : List ℕ) → WritesMore kind bytes c → WritesMore kind (on_one_line bytes) c
  more_one_line no_child kind bytes h = end_one_line kind bytes h
  more_one_line (child name t more) kind bytes h =
      (on_one_line h.0, on_one_line h.1, on_one_line h.2, on_one_line h.3, four_one_line h.0 h.1 h.2 h.3 bytes h.4, separator_one_line 0x2C h.0 refl h.5, label_one_line kind h.1 name h.6, tree_one_line t h.2 h.7, more_one_line more kind h.3 h.8)

-- ---- lines

pub line_on_one : (line : List ℕ) (t : Tree) → status_of Lines line ≡ parsed t → SaysTheSame (on_one_line line) t
line_on_one line t e =
    let parts = accepted_parts line t e in
    let bytes = bytes_between line (span t).start (span t).end in
    let joined : on_one_line line ≡ on_one_line parts.before ++ (on_one_line bytes ++ on_one_line parts.after) =
    parts_one_line parts.before (bytes ++ parts.after) line parts.joined ∙ ap (λ xs. on_one_line parts.before ++ xs) (filter-append stays bytes parts.after) in
    let made = written_line (on_one_line parts.before) (on_one_line bytes) (on_one_line parts.after) t (white_one_line parts.before parts.white_before) (white_one_line parts.after parts.white_after) (tree_one_line t bytes parts.writes) (sound line t e) in
    record { tree = made.tree; accepted = ap (status_of Lines) joined ∙ made.accepted; same = made.same }

-- no line feed is left
no_feed_by : (b : Bool) (byte : ℕ) (rest : List ℕ) → stays byte ≡ b → AllByRecursion (λ x. eqb x 0x0A ≡ false) rest → AllByRecursion (λ x. eqb x 0x0A ≡ false) (cond b (byte ∷ rest) rest)
no_feed_by true byte rest e h = (no_feed (eqb byte 0x0A) (eqb byte 0x0D) e, h)
  where
    no_feed : (a b : Bool) → not (a || b) ≡ true → a ≡ false
    no_feed true b e = absurd (cc)
    no_feed false b e = refl
no_feed_by false byte rest e h = h

pub no_line_feed : (bytes : List ℕ) → AllByRecursion (λ x. eqb x 0x0A ≡ false) (on_one_line bytes)
no_line_feed [] = tt
no_line_feed (byte ∷ rest) = no_feed_by (stays byte) byte (on_one_line rest) refl (no_line_feed rest)
