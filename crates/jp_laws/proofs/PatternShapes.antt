-- What a text of the grammar of patterns spells is a pattern that the printer can say.
use Rattle.std.proofs.Common.{◌≡◌, ℕ, Bool, true, false, cond, List, [], ◌∷◌, ◌++◌, Option, Some, bytes_eq, subst, arith}
use Rattle.jp_model.specs.Pattern.Classes.{look_up, property_named, property_table}
use Rattle.jp_model.specs.Pattern.Spelling.{Token, close_token, bar_token, count_token, CategoryEscape, has, has_not, SpellsItem, one_char, from_to, property_item, SpellsItems, no_item, hyphen_at_end, more_items, SpellsMembers, first_hyphen, first_item, SpellsClass, dot_class, normal_class, escaped_class, category_class, bracketed_class, negated_class, caret_class, SpellsCount, any_number, one_or_more, none_or_one, exactly, at_least, between, SpellsToken, a_class, an_open, a_close, a_bar, a_count, SpellsTokens, no_token, more_tokens, Part, Derives, i_regexp_rule, branch_rule, piece_rule, atom_rule, one_branch, more_branches, no_piece, more_pieces, piece_once, counted_piece, class_atom, group_atom, SpellsPattern}
use Rattle.jp_model.specs.Pattern.Tree.{Property, Item, CharClass, members, Pattern, one_of, empty, followed_by, never, either_of, times}
use Rattle.jp_laws.specs.PatternTexts.{CanBeNamed, CanBeItem, CanBeItems, CanBeClass, CanBeCount, IsRegexp, IsMore, IsBranch, IsPiece, IsAtom}
use Rattle.jp_laws.proofs.PatternTexts.{CanBeToken}
use Rattle.jp_laws.proofs.Reached.{Each}

each_split : {X : Type 0} (P : X → Type 0) (xs ys : List X) → Each P (xs ++ ys) → Each P xs × Each P ys
each_split P [] ys a = (tt, a)
each_split P (x ∷ xs) ys a = let p = each_split P xs ys a.1 in ((a.0, p.0), p.1)

-- ---- classes

looked_up : (table : List (List ℕ × Property)) (name : List ℕ) (p : Property) → Each (λ entry. CanBeNamed entry.1) table → look_up table name ≡ Some p → CanBeNamed p
looked_up [] name p a h = absurd (cc)
looked_up (entry ∷ table) name p a h = step (bytes_eq entry.0 name) h (looked_up table name p a.1)
  where
    step : (b : Bool) → cond b (Some entry.1) (look_up table name) ≡ Some p → (look_up table name ≡ Some p → CanBeNamed p) → CanBeNamed p
    step true g again = subst CanBeNamed (same g) a.0
      where
        same : Some entry.1 ≡ Some p → entry.1 ≡ p
        same g = cc
    step false g again = again g

all_named : Each (λ entry. CanBeNamed entry.1) property_table
all_named = (tt, (tt, (tt, (tt, (tt, (tt, (tt, (tt, (tt, (tt, (tt, (tt, (tt, (tt, (tt, (tt, (tt, (tt, (tt, (tt, (tt, (tt, (tt, (tt, (tt, (tt, (tt, (tt, (tt, (tt, (tt, (tt, (tt, (tt, (tt, (tt, tt))))))))))))))))))))))))))))))))))))

named_from : (name : List ℕ) (p : Property) → property_named name ≡ Some p → CanBeNamed p
named_from name p h = looked_up property_table name p all_named h

escape_from : {x : List ℕ} {item : Item} → CategoryEscape x item → CanBeItem item
escape_from (has name {property = p} h) = named_from name p h
escape_from (has_not name {property = p} h) = named_from name p h

item_from : {x : List ℕ} {item : Item} → SpellsItem x item → CanBeItem item
item_from (one_char h) = omega arith
item_from (from_to a b h) = h
item_from (property_item h) = escape_from h

items_from : {x : List ℕ} {items : List Item} → SpellsItems x items → CanBeItems items
items_from no_item = tt
items_from hyphen_at_end = (omega arith, tt)
items_from (more_items h more) = (item_from h, items_from more)

members_from : {x : List ℕ} {items : List Item} (negated : Bool) → SpellsMembers x items → CanBeClass (members negated items)
members_from negated (first_hyphen more) = (omega arith, items_from more)
members_from negated (first_item h more) = (item_from h, items_from more)

class_from : {x : List ℕ} {c : CharClass} → SpellsClass x c → CanBeClass c
class_from dot_class = tt
class_from (normal_class h) = (omega arith, tt)
class_from (escaped_class h) = (omega arith, tt)
class_from (category_class h) = (escape_from h, tt)
class_from (bracketed_class h other) = members_from false h
class_from (negated_class h) = members_from true h
class_from caret_class = (omega arith, tt)

-- ---- tokens

count_from : {x : List ℕ} {least : ℕ} {most : Option ℕ} → SpellsCount x least most → CanBeCount least most
count_from any_number = omega arith
count_from one_or_more = omega arith
count_from none_or_one = (omega arith, omega arith)
count_from (exactly b) = (omega arith, b.small)
count_from (at_least b) = b.small
count_from (between a b h) = (h, b.small)

token_from : {x : List ℕ} {t : Token} → SpellsToken x t → CanBeToken t
token_from (a_class h) = class_from h
token_from an_open = tt
token_from a_close = tt
token_from a_bar = tt
token_from (a_count h) = count_from h

tokens_from : {x : List ℕ} {ts : List Token} → SpellsTokens x ts → Each CanBeToken ts
tokens_from no_token = tt
tokens_from (more_tokens h more) = (token_from h, tokens_from more)

-- ---- patterns

abbrev IsPart : Part → Pattern → Type 0
IsPart i_regexp_rule r = IsRegexp r
IsPart branch_rule r = IsBranch r
IsPart piece_rule r = IsPiece r
IsPart atom_rule r = IsAtom r

regexp_more : (r : Pattern) → IsRegexp r → IsMore r
regexp_more (either_of r s) h = h
regexp_more (one_of c) h = absurd h
regexp_more empty h = absurd h
regexp_more (followed_by r s) h = absurd h
regexp_more never h = absurd h
regexp_more (times r least most) h = absurd h

regexp_atom : (r : Pattern) → IsRegexp r → IsAtom r
regexp_atom (either_of r s) h = h
regexp_atom (one_of c) h = absurd h
regexp_atom empty h = absurd h
regexp_atom (followed_by r s) h = absurd h
regexp_atom never h = absurd h
regexp_atom (times r least most) h = absurd h

atom_piece : (r : Pattern) → IsAtom r → IsPiece r
atom_piece (one_of c) h = h
atom_piece (either_of r s) h = h
atom_piece empty h = absurd h
atom_piece (followed_by r s) h = absurd h
atom_piece never h = absurd h
atom_piece (times r least most) h = absurd h

part_from : {part : Part} {ts : List Token} {r : Pattern} → Derives part ts r → Each CanBeToken ts → IsPart part r
part_from (one_branch d) a = (part_from d a, tt)
part_from (more_branches {x = x} {y = y} {s = s} d e) a = let p = each_split CanBeToken x (bar_token ∷ y) a in (part_from d p.0, regexp_more s (part_from e p.1.1))
part_from no_piece a = tt
part_from (more_pieces {x = x} {y = y} d e) a = let p = each_split CanBeToken x y a in (part_from d p.0, part_from e p.1)
part_from (piece_once {r = r} d) a = atom_piece r (part_from d a)
part_from (counted_piece {x = x} {least = least} {most = most} d) a = let p = each_split CanBeToken x (count_token least most ∷ []) a in (part_from d p.0, p.1.0)
part_from class_atom a = a.0
part_from (group_atom {x = x} {r = r} d) a = let p = each_split CanBeToken x (close_token ∷ []) a.1 in regexp_atom r (part_from d p.0)

pub pattern_sayable : (text : List ℕ) (r : Pattern) → SpellsPattern text r → IsRegexp r
pattern_sayable text r h = part_from h.derived (tokens_from h.spelled)
