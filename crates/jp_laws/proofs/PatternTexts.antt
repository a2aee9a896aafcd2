-- The text of a pattern spells it.
use Rattle.std.proofs.Common.{◌≡◌, ℕ, ◌≤◌, true, false, not, ◌==◌, List, [], ◌∷◌, ◌++◌, flat_map, Option, Some, None, codes, count_by, refl, sym, ap, subst, ◌∙◌, append-nil, arith}
use Rattle.std.proofs.lemmas.Bool.{cond_both, eqb-true, ne_eqb, false≢true, true≢false, not_from_false}
use Rattle.jp_model.proofs.Reader.Numbers.{digits_whole}
use Rattle.ucd_category.specs.declared.GeneralCategory.{GeneralCategory}
use Rattle.ucd_category.specs.declared.GeneralCategory.TheVariants.{Surrogate}
use Rattle.ucd_category.specs.declared.GeneralCategoryGroup.{GeneralCategoryGroup}
use Rattle.ucd_category.specs.declared.GeneralCategoryGroup.TheVariants.{CasedLetter}
use Rattle.jp_model.specs.Pattern.Classes.{among, escape_value, property_named}
use Rattle.jp_model.specs.Pattern.Spelling.{Token, class_token, open_token, close_token, bar_token, count_token, is_class_plain, ClassChar, plain_char, escaped_char, has, has_not, SpellsItem, one_char, from_to, property_item, SpellsItems, no_item, more_items, SpellsMembers, first_item, SpellsClass, dot_class, bracketed_class, negated_class, SpellsBound, SpellsCount, at_least, between, SpellsToken, a_class, an_open, a_close, a_bar, a_count, SpellsTokens, no_token, more_tokens, Part, Derives, i_regexp_rule, branch_rule, piece_rule, atom_rule, one_branch, more_branches, no_piece, more_pieces, piece_once, counted_piece, class_atom, group_atom, SpellsPattern}
use Rattle.jp_model.specs.Pattern.Tree.{Property, category_group, one_category, Item, range, with_property, without_property, CharClass, dot, members, Pattern, one_of, empty, followed_by, never, either_of, times}
use Rattle.jp_canon.specs.Layout.{whole_text}
use Rattle.jp_laws.specs.PatternTexts.{escaped_scalars, scalar_text, group_letter, category_letters, property_text, item_text, class_text, count_text, token_text, grouped, barred, pattern_tokens, pattern_text, CanBeNamed, CanBeItem, CanBeItems, CanBeClass, CanBeCount, IsRegexp, IsMore, IsBranch, IsPiece, IsAtom}
use Rattle.jp_laws.proofs.DigitTexts.{spelt}
use Rattle.jp_laws.proofs.Reached.{Each, each_append}

-- ---- scalars

among_not : (c d : ℕ) → among escaped_scalars c ≡ true → among escaped_scalars d ≡ false → c ≡ d → ⊥
among_not c d h f e = false≢true (sym f ∙ subst (λ x. among escaped_scalars x ≡ true) e h)

not_among : (c d : ℕ) → among escaped_scalars c ≡ false → among escaped_scalars d ≡ true → c ≡ d → ⊥
not_among c d h t e = true≢false (sym t ∙ subst (λ x. among escaped_scalars x ≡ false) e h)

escapes : (c : ℕ) → among escaped_scalars c ≡ true → escape_value c ≡ Some c
escapes c h = rw (ne_eqb c 0x6E (among_not c 0x6E h refl), ne_eqb c 0x72 (among_not c 0x72 h refl), ne_eqb c 0x74 (among_not c 0x74 h refl), h) refl

stands_plain : (c : ℕ) → among escaped_scalars c ≡ false → is_class_plain c ≡ true
stands_plain c h = rw (ne_eqb c 0x2D (not_among c 0x2D h refl), ne_eqb c 0x5B (not_among c 0x5B h refl), ne_eqb c 0x5D (not_among c 0x5D h refl), ne_eqb c 0x5C (not_among c 0x5C h refl)) refl

scalar_spelled : (c : ℕ) → ClassChar (scalar_text c) c
scalar_spelled c = cond_both (among escaped_scalars c) _ _ (λ x. ClassChar x c) (λ h. escaped_char (escapes c h)) (λ h. plain_char (stands_plain c h))

-- ---- properties

group_named : (g : GeneralCategoryGroup) → CanBeNamed (category_group g) → property_named (group_letter g) ≡ Some (category_group g)
group_named CasedLetter h = absurd h
group_named g h = refl

category_named : (c : GeneralCategory) → CanBeNamed (one_category c) → property_named (category_letters c) ≡ Some (one_category c)
category_named Surrogate h = absurd h
category_named c h = refl

is_named : (p : Property) → CanBeNamed p → property_named (property_text p) ≡ Some p
is_named (category_group g) h = group_named g h
is_named (one_category c) h = category_named c h

-- ---- classes

item_spelled : (item : Item) → CanBeItem item → SpellsItem (item_text item) item
item_spelled (range c d) h =
    cond_both (c == d) _ _ (λ x. SpellsItem x (range c d)) (λ e. subst (λ z. SpellsItem (scalar_text c) (range c z)) (eqb-true c d e) (one_char (scalar_spelled c))) (λ e. from_to (scalar_spelled c) (scalar_spelled d) h)
item_spelled (with_property p) h = property_item (has (property_text p) (is_named p h))
item_spelled (without_property p) h = property_item (has_not (property_text p) (is_named p h))

items_spelled : (items : List Item) → CanBeItems items → SpellsItems (flat_map item_text items) items
items_spelled [] h = no_item
items_spelled (item ∷ items) h = more_items (item_spelled item h.0) (items_spelled items h.1)

members_spelled : (item : Item) (items : List Item) → CanBeItem item → CanBeItems items → SpellsMembers (flat_map item_text (item ∷ items)) (item ∷ items)
members_spelled item items h g = first_item (item_spelled item h) (items_spelled items g)

-- a text that does not begin with `^`
abbrev Begins : List ℕ → Type 0
Begins text = (c : ℕ) × (x : List ℕ) × (text ≡ c ∷ x) × (not (c == 0x5E) ≡ true)

begins_on : (x y : List ℕ) → Begins x → Begins (x ++ y)
begins_on x y b = (b.0, b.1 ++ y, ap (λ (l : List ℕ). l ++ y) b.2, b.3)

scalar_begins : (c : ℕ) → Begins (scalar_text c)
scalar_begins c = cond_both (among escaped_scalars c) _ _ Begins (λ h. (0x5C, c ∷ [], refl, refl)) (λ h. (c, [], refl, not_from_false _ (ne_eqb c 0x5E (not_among c 0x5E h refl))))

item_begins : (item : Item) → Begins (item_text item)
item_begins (range c d) = cond_both (c == d) _ _ Begins (λ e. scalar_begins c) (λ e. begins_on (scalar_text c) (0x2D ∷ scalar_text d) (scalar_begins c))
item_begins (with_property p) = (0x5C, codes "p{" ++ property_text p ++ codes "}", refl, refl)
item_begins (without_property p) = (0x5C, codes "P{" ++ property_text p ++ codes "}", refl, refl)

bracketed : (text : List ℕ) (items : List Item) → Begins text → SpellsMembers text items → SpellsClass (0x5B ∷ (text ++ 0x5D ∷ [])) (members false items)
bracketed text items b h = subst (λ (l : List ℕ). SpellsClass (0x5B ∷ (l ++ 0x5D ∷ [])) (members false items)) (sym b.2) (bracketed_class (subst (λ (l : List ℕ). SpellsMembers l items) b.2 h) b.3)

class_spelled : (c : CharClass) → CanBeClass c → SpellsClass (class_text c) c
class_spelled dot h = dot_class
class_spelled (members negated []) h = absurd h
class_spelled (members false (item ∷ items)) h = bracketed (flat_map item_text (item ∷ items)) (item ∷ items) (begins_on (item_text item) (flat_map item_text items) (item_begins item)) (members_spelled item items h.0 h.1)
class_spelled (members true (item ∷ items)) h = negated_class (members_spelled item items h.0 h.1)

-- ---- tokens

bound_spelled : (n : ℕ) → n ≤ 999999999 → SpellsBound (whole_text n) n
bound_spelled n h = let s = spelt n in record { some = s.some; digits = digits_whole (whole_text n) s.digits; is = sym s.value; small = h }

count_spelled : (least : ℕ) (most : Option ℕ) → CanBeCount least most → SpellsCount (count_text least most) least most
count_spelled least None h = at_least (bound_spelled least h)
count_spelled least (Some most) h = let a = h.0 in let b = h.1 in between (bound_spelled least (omega arith)) (bound_spelled most b) a

abbrev pub CanBeToken : Token → Type 0
CanBeToken (class_token c) = CanBeClass c
CanBeToken (count_token least most) = CanBeCount least most
CanBeToken _ = Unit {0}

token_spelled : (t : Token) → CanBeToken t → SpellsToken (token_text t) t
token_spelled (class_token c) h = a_class (class_spelled c h)
token_spelled open_token h = an_open
token_spelled close_token h = a_close
token_spelled bar_token h = a_bar
token_spelled (count_token least most) h = a_count (count_spelled least most h)

tokens_spelled : (ts : List Token) → Each CanBeToken ts → SpellsTokens (flat_map token_text ts) ts
tokens_spelled [] a = no_token
tokens_spelled (t ∷ ts) a = more_tokens (token_spelled t a.0) (tokens_spelled ts a.1)

-- ---- which tokens derive the pattern, and that each has a text

pub record Derived (part : Part) (tokens : List Token) (r : Pattern) : Type 0 where
  pub derives : Derives part tokens r
  pub each : Each CanBeToken tokens

-- of the branches after one
abbrev MoreDerived : Pattern → Type 0
MoreDerived never = Unit {0}
MoreDerived (either_of r s) = Derived i_regexp_rule (pattern_tokens (either_of r s)) (either_of r s)
MoreDerived _ = ⊥

choose : (r s : Pattern) → Derived branch_rule (pattern_tokens r) r → MoreDerived s → Derived i_regexp_rule (pattern_tokens (either_of r s)) (either_of r s)
choose r s d m = choose_by s m
  where
    choose_by : (s : Pattern) → MoreDerived s → Derived i_regexp_rule (pattern_tokens r ++ barred s (pattern_tokens s)) (either_of r s)
    choose_by never m = record { derives = subst (λ (l : List Token). Derives i_regexp_rule l (either_of r never)) (sym (append-nil (pattern_tokens r))) (one_branch d.derives); each = each_append CanBeToken (pattern_tokens r) [] d.each tt }
    choose_by (either_of p q) m = record { derives = more_branches d.derives m.derives; each = each_append CanBeToken (pattern_tokens r) (bar_token ∷ pattern_tokens (either_of p q)) d.each (tt, m.each) }
    choose_by (one_of c) m = absurd m
    choose_by empty m = absurd m
    choose_by (followed_by p q) m = absurd m
    choose_by (times p least most) m = absurd m

group : {tokens : List Token} {r : Pattern} → Derived i_regexp_rule tokens r → Derived atom_rule (open_token ∷ (tokens ++ close_token ∷ [])) r
group {tokens = tokens} d = record { derives = group_atom d.derives; each = (tt, each_append CanBeToken tokens (close_token ∷ []) d.each (tt, tt)) }

once : {tokens : List Token} {r : Pattern} → Derived atom_rule tokens r → Derived piece_rule tokens r
once d = record { derives = piece_once d.derives; each = d.each }

class_alone : (c : CharClass) → CanBeClass c → Derived atom_rule (class_token c ∷ []) (one_of c)
class_alone c h = record { derives = class_atom; each = (h, tt) }

mutual
  more_derived : (r : Pattern) → IsMore r → MoreDerived r
  more_derived never h = tt
  more_derived (either_of r s) h = choose r s (branch_derived r h.0) (more_derived s h.1)
  more_derived (one_of c) h = absurd h
  more_derived empty h = absurd h
  more_derived (followed_by r s) h = absurd h
  more_derived (times r least most) h = absurd h

  branch_derived : (r : Pattern) → IsBranch r → Derived branch_rule (pattern_tokens r) r
  branch_derived empty h = record { derives = no_piece; each = tt }
  branch_derived (followed_by r s) h =
      let p = piece_derived r h.0 in
      let b = branch_derived s h.1 in
      record { derives = more_pieces p.derives b.derives; each = each_append CanBeToken (grouped r (pattern_tokens r)) (pattern_tokens s) p.each b.each }
  branch_derived (one_of c) h = absurd h
  branch_derived never h = absurd h
  branch_derived (either_of r s) h = absurd h
  branch_derived (times r least most) h = absurd h

  piece_derived : (r : Pattern) → IsPiece r → Derived piece_rule (grouped r (pattern_tokens r)) r
  piece_derived (one_of c) h = once (class_alone c h)
  piece_derived (either_of r s) h = once (group (choose r s (branch_derived r h.0) (more_derived s h.1)))
  piece_derived (times r least most) h =
      let a = atom_derived r h.0 in
      record { derives = counted_piece a.derives; each = each_append CanBeToken (grouped r (pattern_tokens r)) (count_token least most ∷ []) a.each (h.1, tt) }
  piece_derived empty h = absurd h
  piece_derived never h = absurd h
  piece_derived (followed_by r s) h = absurd h

  atom_derived : (r : Pattern) → IsAtom r → Derived atom_rule (grouped r (pattern_tokens r)) r
  atom_derived (one_of c) h = class_alone c h
  atom_derived (either_of r s) h = group (choose r s (branch_derived r h.0) (more_derived s h.1))
  atom_derived empty h = absurd h
  atom_derived never h = absurd h
  atom_derived (followed_by r s) h = absurd h
  atom_derived (times r least most) h = absurd h

regexp_derived : (r : Pattern) → IsRegexp r → Derived i_regexp_rule (pattern_tokens r) r
regexp_derived (either_of r s) h = choose r s (branch_derived r h.0) (more_derived s h.1)
regexp_derived (one_of c) h = absurd h
regexp_derived empty h = absurd h
regexp_derived never h = absurd h
regexp_derived (followed_by r s) h = absurd h
regexp_derived (times r least most) h = absurd h

pub pattern_spelled : (r : Pattern) → IsRegexp r → count_by (λ c. c == 0x28) (pattern_text r) ≤ 256 → SpellsPattern (pattern_text r) r
pattern_spelled r h shallow = let d = regexp_derived r h in record { tokens = pattern_tokens r; spelled = tokens_spelled (pattern_tokens r) d.each; derived = d.derives; shallow = shallow }
