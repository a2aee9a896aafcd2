-- What the readers of a pattern's text read.
use Rattle.std.proofs.Common.{◌≡◌, ◌==◌, ℕ, zero, suc, ◌+◌, ◌-◌, ◌*◌, ◌<◌, ◌≤◌, Bool, true, false, ◌&&◌, nat_le, List, [], ◌∷◌, ◌++◌, length, get_or, take, drop, Option, Some, None, option_map, refl, sym, ◌∙◌, ap, arith, add-one, sub-one, append_assoc, if◌then◌else◌}
use Rattle.std.proofs.lemmas.Bool.Decides.{nat_tests}
use Rattle.std.specs.List.{list_all}
use Rattle.jp_model.specs.Characters.{is_digit, value_behind}
use Rattle.jp_model.specs.Pattern.Reading.{Read, then_read, up_to, read_item, read_span, read_items, read_members}
use Rattle.jp_model.specs.Pattern.Spelling.{Token, class_token}
use Rattle.jp_model.specs.Pattern.Tree.{Item, range, members}
use Rattle.jp_iregexp.specs.declared.brackets.Next.{Next}
use Rattle.jp_iregexp.specs.Tokens.{first_of, after_next, bound_behind}

-- the first scalar that is `stop` stands at a position
pub up_to_position : (stop : ℕ) (text : List ℕ) (at : ℕ) → at < length text → (get_or text at 0 == stop) ≡ true → ((k : ℕ) → k < at → (get_or text k 0 == stop) ≡ false) → up_to stop text ≡ Some (take at text, drop (at + 1) text)
up_to_position stop [] at l is before = absurd (omega (arith, l))
up_to_position stop (c ∷ text) zero l is before = rw is refl
up_to_position stop (c ∷ text) (suc at) l is before =
    let here : (c == stop) ≡ false = before 0 (omega arith) in
    let later : up_to stop text ≡ Some (take at text, drop (at + 1) text) = up_to_position stop text at (omega arith) is (λ k b. before (suc k) (omega (arith, b))) in
    rw (here, later, add-one, add-one) refl

pub up_to_missing : (stop : ℕ) (text : List ℕ) → ((k : ℕ) → k < length text → (get_or text k 0 == stop) ≡ false) → up_to stop text ≡ None
up_to_missing stop [] all = refl
up_to_missing stop (c ∷ text) all =
    let here : (c == stop) ≡ false = all 0 (omega arith) in
    let later : up_to stop text ≡ None = up_to_missing stop text (λ k b. all (suc k) (omega (arith, b))) in
    rw (here, later) refl

-- ---- bounds

value_grows : (before : ℕ) (digits : List ℕ) → before ≤ value_behind before digits
value_grows before [] = omega arith
value_grows before (d ∷ digits) =
    let later = value_grows (before * 10 + (d - 0x30)) digits in
    omega arith

too_large : (all : Bool) (value : ℕ) → 999999999 < value → (if all && nat_le value 999999999 then Some value else None) ≡ None
too_large false value l = refl
too_large true value l = grind (arith, nat_tests)

-- a bound that is too large already
pub bound_large : (before c : ℕ) (left : List ℕ) → 1 ≤ length left → c ≡ get_or left 0 c → 999999999 < before * 10 + (c - 0x30) → bound_behind before left ≡ None
bound_large before c [] l is large = absurd (omega arith)
bound_large before c (d ∷ left) l is large =
    let later = value_grows (before * 10 + (d - 0x30)) left in
    let same : c ≡ d = is in
    too_large (list_all is_digit (d ∷ left)) (value_behind before (d ∷ left)) (omega arith)

-- ---- classes in brackets

-- the items so far in front of those that are read
abbrev pub in_front : List Item → List Item → List ℕ → Read (List Item)
in_front before more rest = Some (before ++ more, rest)

one_turn : (limit turn : ℕ) → turn < limit → limit - turn ≡ suc (limit - (turn + 1))
one_turn limit turn l = omega arith

-- one more item is read
pub turn_taken : (result next : Option Next) (before : List Item) (limit turn : ℕ) (left : List ℕ) (target : Read (List Item)) → turn < limit → ((steps : ℕ) → read_items (suc steps) left ≡ after_next steps result) → result ≡ next → then_read (read_items (limit - turn) left) (in_front before) ≡ target → then_read (after_next (limit - (turn + 1)) next) (in_front before) ≡ target
turn_taken result next before limit turn left target l reads is so_far =
    ap (λ n. then_read (after_next (limit - (turn + 1)) n) (in_front before)) (sym is)
    ∙ ap (λ r. then_read r (in_front before)) (sym (reads (limit - (turn + 1))))
    ∙ ap (λ n. then_read (read_items n left) (in_front before)) (sym (one_turn limit turn l)) ∙ so_far

moved : (read : Read (List Item)) (before : List Item) (item : Item) → then_read (then_read read (λ items end. Some (item ∷ items, end))) (in_front before) ≡ then_read read (in_front (before ++ item ∷ []))
moved None before item = refl
moved (Some p) before item = ap (λ items. Some (items, p.1)) (sym (append_assoc before (item ∷ []) p.0))

-- the item goes to those so far
pub item_taken : (before after : List Item) (item : Item) (steps : ℕ) (left : List ℕ) (target : Read (List Item)) → after ≡ before ++ item ∷ [] → then_read (then_read (read_items steps left) (λ items end. Some (item ∷ items, end))) (in_front before) ≡ target → then_read (read_items steps left) (in_front after) ≡ target
item_taken before after item steps left target is so_far =
    ap (λ items. then_read (read_items steps left) (in_front items)) is ∙ sym (moved (read_items steps left) before item) ∙ so_far

abbrev members_token : Bool → Item → List Item → List ℕ → Read Token
members_token negated item items end = Some (class_token (members negated (item ∷ items)), end)

first_cases : (negated hyphen : Bool) (c : ℕ) (text : List ℕ) → (if hyphen then then_read (read_items (length text) text) (members_token negated (range 0x2D 0x2D)) else then_read (then_read (read_item (c ∷ text)) read_span) (λ item rest. then_read (read_items (length text) rest) (members_token negated item))) ≡ then_read (if hyphen then Some (range 0x2D 0x2D, text) else then_read (read_item (c ∷ text)) read_span) (λ item rest. then_read (read_items (length text) rest) (members_token negated item))
first_cases negated true c text = refl
first_cases negated false c text = refl

-- the item that stands first, and then the others
members_first : (negated : Bool) (text : List ℕ) → read_members negated text ≡ then_read (first_of text) (λ item rest. then_read (read_items (length text - 1) rest) (members_token negated item))
members_first negated [] = refl
members_first negated (c ∷ text) = rw (sub-one) (first_cases negated (c == 0x2D) c text)

token_made : (negated : Bool) (item : Item) (read : Read (List Item)) → then_read read (members_token negated item) ≡ option_map (λ p. (class_token (members negated p.0), p.1)) (then_read read (in_front (item ∷ [])))
token_made negated item None = refl
token_made negated item (Some p) = refl

pub members_read : (negated : Bool) (text : List ℕ) (item : Item) (rest : List ℕ) (found : Read (List Item)) → Some (item, rest) ≡ first_of text → found ≡ then_read (read_items (length text - 1) rest) (in_front (item ∷ [])) → option_map (λ p. (class_token (members negated p.0), p.1)) found ≡ read_members negated text
members_read negated text item rest found first more =
    ap (option_map (λ p. (class_token (members negated p.0), p.1))) more
    ∙ sym (token_made negated item (read_items (length text - 1) rest))
    ∙ ap (λ r. then_read r (λ item rest. then_read (read_items (length text - 1) rest) (members_token negated item))) first
    ∙ sym (members_first negated text)
