use Rattle.std.proofs.Common.{◌≡◌, ◌∷◌, [], ◌-◌, length, List, ℕ, map, Option, Some, None, ◌∙◌, ap}
use Rattle.jp_model.specs.Pattern.Reading.{then_read, read_items}
use Rattle.jp_model.specs.Pattern.Tree.{Item as TreeItem}
use Rattle.jp_iregexp.specs.declared.class.Item.{Item}
use Rattle.jp_iregexp.specs.Nodes.{item_of}
use Rattle.jp_iregexp.specs.Tokens.{first_of}
use Rattle.jp_iregexp.proofs.Readers.{members_read, in_front}
use Rattle.jp_iregexp.proofs.brackets.read_in_brackets.Goals as goal

-- the items that were read, after the first
with_first : (items : List Item) (item : Item) (limit : ℕ) (text : List ℕ) (found : Option (List TreeItem × List ℕ)) → items ≡ item ∷ [] → found ≡ then_read (read_items limit text) (in_front (map item_of items)) → found ≡ then_read (read_items limit text) (in_front (item_of item ∷ []))
with_first items item limit text found is read = read ∙ ap (λ xs. then_read (read_items limit text) (in_front (map item_of xs))) is

pub returns-in-None-2 : goal.returns-in-None-2
returns-in-None-2 c =
    let first : Some (item_of c.in-Some.item, c.in-Some.rest.now) ≡ first_of c.args.text.now = c.in-Some.ensures in
    let found = with_first c.in_ok-items-in-Some.items.items c.in-Some.item (length c.args.text.now - 1) c.in-Some.rest.now None c.in_ok-items-in-Some.ensures.items (rw c.in-None-2.is at c.in_ok-read_more-in-Some.ensures) in
    members_read c.args.negated c.args.text.now (item_of c.in-Some.item) c.in-Some.rest.now None first found

pub returns-in-Some-2 : goal.returns-in-Some-2
returns-in-Some-2 c =
    let first : Some (item_of c.in-Some.item, c.in-Some.rest.now) ≡ first_of c.args.text.now = c.in-Some.ensures in
    let found = with_first c.in_ok-items-in-Some.items.items c.in-Some.item (length c.args.text.now - 1) c.in-Some.rest.now (Some (map item_of c.in-Some-2.items.items, c.in-Some-2.rest.now)) c.in_ok-items-in-Some.ensures.items (rw c.in-Some-2.is at c.in_ok-read_more-in-Some.ensures) in
    members_read c.args.negated c.args.text.now (item_of c.in-Some.item) c.in-Some.rest.now (Some (map item_of c.in-Some-2.items.items, c.in-Some-2.rest.now)) first found
