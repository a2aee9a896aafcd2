-- The tokens of a pattern's text, as the program keeps them.
use Rattle.std.specs.Prelude.{ℕ, ◌==◌, ◌&&◌, nat_le, if◌then◌else◌, List, [], ◌∷◌, Option, Some, None, option_and_then}
use Rattle.jp_iregexp.specs.declared.token.Token.{Token}
use Rattle.jp_iregexp.specs.declared.token.Token.TheVariants.{Class as ClassToken, Open as OpenToken, Close as CloseToken, Bar as BarToken, Count as CountToken}
use Rattle.std.specs.List.{list_all}
use Rattle.jp_model.specs.Characters.{is_digit, value_behind}
use Rattle.jp_iregexp.specs.declared.brackets.Next.{Next}
use Rattle.jp_iregexp.specs.declared.brackets.Next.TheVariants.{Item as ItemNext, Hyphen as HyphenNext, End as EndNext}
use Rattle.jp_iregexp.specs.Nodes.{item_of, class_of, most_of}
use Rattle.jp_model.specs.Pattern.Reading.{Read, then_read, up_to, with_rest, count_in, read_class, read_escape, one_item, read_item, read_items, read_span, tokens_within}
use Rattle.jp_model.specs.Pattern.Spelling.{Token as TreeToken, class_token, open_token, close_token, bar_token, count_token, is_normal_char}
use Rattle.jp_model.specs.Pattern.Groups.{Groups, read_from}
use Rattle.jp_model.specs.Pattern.Tree.{Item, range, Pattern}

-- the token of the definition
abbrev pub token_of : Token → TreeToken
token_of (ClassToken c) = class_token (class_of c)
token_of OpenToken = open_token
token_of CloseToken = close_token
token_of BarToken = bar_token
token_of (CountToken least further) = count_token least (most_of least further)

-- a quantifier by its least number, and by how many may follow
abbrev pub count_of_pair : ℕ × Option ℕ → TreeToken
count_of_pair p = count_token p.0 (most_of p.0 p.1)

-- the item that stands first in a class: a hyphen stands for itself there
abbrev pub first_of : List ℕ → Read Item
first_of [] = None
first_of (c ∷ text) = if c == 0x2D then Some (range 0x2D 0x2D, text) else then_read (read_item (c ∷ text)) read_span

-- a token that is none of the single scalars with a meaning
abbrev pub read_longer_token : ℕ → List ℕ → Read TreeToken
read_longer_token c text =
    if c == 0x7B then then_read (up_to 0x7D text) (λ inside rest. with_rest rest (count_in inside (up_to 0x2C inside)))
    else if c == 0x5B then read_class text
    else if c == 0x5C then then_read (read_escape text) one_item
    else if is_normal_char c then one_item (range c c) text
    else None

-- the value of a bound, where digits that stand for a value were read
abbrev pub bound_behind : ℕ → List ℕ → Option ℕ
bound_behind before digits = if list_all is_digit digits && nat_le (value_behind before digits) 999999999 then Some (value_behind before digits) else None

-- the items of a class, where the next of them was read
abbrev pub after_next : ℕ → Option Next → Read (List Item)
after_next steps None = None
after_next steps (Some (ItemNext item rest)) = then_read (read_items steps rest.now) (λ items end. Some (item_of item ∷ items, end))
after_next steps (Some (HyphenNext rest)) = Some (range 0x2D 0x2D ∷ [], rest.now)
after_next steps (Some (EndNext rest)) = Some ([], rest.now)

-- the pattern, where this text is left and these groups are open
abbrev pub read_on : ℕ → List ℕ → Groups → Option Pattern
read_on steps text groups = option_and_then (λ tokens. read_from tokens groups) (tokens_within steps text)
