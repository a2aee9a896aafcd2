-- The elements of an array that is accepted.
use Rattle.std.proofs.Common.{◌≡◌, ℕ, suc, max, true, false, ◌||◌, List, [], ◌∷◌, ◌++◌, Option, Some, None, refl, sym, ap, subst, ◌∙◌, arith, append_assoc}
use Rattle.std.specs.Prelude.{nat_lt}
use Rattle.std.proofs.lemmas.Bool.{and_from, ltb-false, le-ltb}
use Rattle.std.proofs.lemmas.Bool.Decides.{nat_tests}
use Rattle.jp_model.specs.Characters.{is_white}
use Rattle.jp_model.specs.Lines.{is_blank}
use Rattle.jp_model.specs.Json.Faults.{depth, greatest_depth, has_surrogate, children_have_surrogate, name_has_lone_surrogate, has_repeated, names, has_duplicate, children_have_duplicate}
use Rattle.jp_model.specs.Json.Tree.{Tree, node, Value, container, Container, array, Children, no_child, child, Name, value_of}
use Rattle.jp_cut_laws.specs.Elements.{IsElement, AreElements, last, next, IsInside, empty, filled, IsArray, SaysTheSame, SayTheSame}
use Rattle.jp_cut_laws.specs.Values.{IsValue}
use Rattle.jp_cut_laws.proofs.Arrays.{blank_white}
use Rattle.jp_cut_laws.proofs.Lines.{IsSound, sound, written_line}
use Rattle.jp_cut_laws.proofs.Parts.{or_false}
use Rattle.jp_cut_laws.proofs.Whole.{value_written}
use Rattle.jp_cut_laws.proofs.Written.{IsWhite, IsLabel, Writes, WritesFirst, WritesMore}

white_blank : (bytes : List ℕ) → IsWhite bytes → is_blank bytes ≡ true
white_blank [] h = refl
white_blank (byte ∷ rest) h = and_from (is_white byte) (is_blank rest) h.0 (white_blank rest h.1)

white_join : (first second : List ℕ) → IsWhite first → IsWhite second → IsWhite (first ++ second)
white_join [] second h g = g
white_join (byte ∷ rest) second h g = (h.0, white_join rest second h.1 g)

-- ---- children have none of the faults

-- none of some children has a fault
record AreSound (c : Children) : Type 0 where
  shallow : nat_lt 512 (greatest_depth c) ≡ false
  whole : children_have_surrogate c ≡ false
  distinct : children_have_duplicate c ≡ false

inside_shallow : (d : ℕ) → nat_lt 512 (suc d) ≡ false → nat_lt 512 d ≡ false
inside_shallow d h = grind (arith, nat_tests, h)

first_shallow : (a b : ℕ) → nat_lt 512 (max a b) ≡ false → nat_lt 512 a ≡ false
first_shallow a b h = le-ltb 512 a (let l = ltb-false 512 (max a b) h in omega (arith, l))

second_shallow : (a b : ℕ) → nat_lt 512 (max a b) ≡ false → nat_lt 512 b ≡ false
second_shallow a b h = le-ltb 512 b (let l = ltb-false 512 (max a b) h in omega (arith, l))

children_sound : (t : Tree) (kind : Container) (c : Children) → value_of t ≡ container kind c → IsSound t → AreSound c
children_sound (node s v) kind c e h =
    let is = subst (λ (w : Value). IsSound (node s w)) e h in
    record { shallow = inside_shallow (greatest_depth c) is.shallow; whole = is.whole; distinct = (or_false (has_repeated (names c)) (children_have_duplicate c) is.distinct).1 }

first_sound : (name : Option Name) (t : Tree) (more : Children) → AreSound (child name t more) → IsSound t
first_sound name t more h = record {
  shallow = first_shallow (depth t) (greatest_depth more) h.shallow;
  whole = (or_false (name_has_lone_surrogate name) (has_surrogate t) (or_false (name_has_lone_surrogate name || has_surrogate t) (children_have_surrogate more) h.whole).0).1;
  distinct = (or_false (has_duplicate t) (children_have_duplicate more) h.distinct).0;
}

more_sound : (name : Option Name) (t : Tree) (more : Children) → AreSound (child name t more) → AreSound more
more_sound name t more h = record {
  shallow = second_shallow (depth t) (greatest_depth more) h.shallow;
  whole = (or_false (name_has_lone_surrogate name || has_surrogate t) (children_have_surrogate more) h.whole).1;
  distinct = (or_false (has_duplicate t) (children_have_duplicate more) h.distinct).1;
}

-- ---- elements

-- elements that say the same as these children
record Found (bytes : List ℕ) (c : Children) : Type 0 where
  elements : List (List ℕ)
  are : AreElements bytes elements
  say : SayTheSame elements c

-- white space in front of elements
pub in_front : {bytes : List ℕ} {elements : List (List ℕ)} → AreElements bytes elements → (before : List ℕ) → IsWhite before → AreElements (before ++ bytes) elements
in_front (last white bytes t blank is) before h =
    subst (λ xs. AreElements xs (bytes ∷ [])) (append_assoc before white (bytes ++ 0x5D ∷ []))
    (last (before ++ white) bytes t (white_blank (before ++ white) (white_join before white h (blank_white white blank))) is)
in_front (next white bytes rest t others blank is more) before h =
    subst (λ xs. AreElements xs (bytes ∷ others)) (append_assoc before white (bytes ++ 0x2C ∷ rest))
    (next (before ++ white) bytes rest t others (white_blank (before ++ white) (white_join before white h (blank_white white blank))) is more)

-- an element with the white space after it
record One (bytes : List ℕ) (t : Tree) : Type 0 where
  tree : Tree
  is : IsElement bytes tree
  says : SaysTheSame bytes t

one : (text white : List ℕ) (t : Tree) → Writes text t → IsWhite white → IsSound t → One (text ++ white) t
one text white t h w is_sound =
    let line = written_line [] text white t tt w h is_sound in
    record { tree = line.tree; is = record { accepted = line.accepted; start = line.start }; says = record { tree = line.tree; accepted = line.accepted; same = line.same } }

no_label : (name : Option Name) (bytes : List ℕ) → IsLabel array bytes name → bytes ≡ []
no_label None bytes h = h
no_label (Some name) bytes h = absurd h

-- an element, and what stands after it
more_found : (c : Children) (name : Option Name) (t : Tree) (text bytes : List ℕ) → Writes text t → WritesMore array bytes c → AreSound (child name t c) → Found (text ++ bytes) (child name t c)
more_found no_child name t text bytes h g s =
    let element = one text g.before t h g.white (first_sound name t no_child s) in
    record {
      elements = (text ++ g.before) ∷ [];
      are = subst (λ xs. AreElements xs ((text ++ g.before) ∷ [])) (append_assoc text g.before (0x5D ∷ []) ∙ ap (λ xs. text ++ xs) (sym g.joined)) (last [] (text ++ g.before) element.tree refl element.is);
      say = (element.says, tt);
    }
more_found (child label u more) name t text bytes h g s =
    let comma = g.5 in
    let element = one text comma.before t h comma.white_before (first_sound name t (child label u more) s) in
    let rest = more_found more label u g.2 g.3 g.7 g.8 (more_sound name t (child label u more) s) in
    let behind = in_front rest.are comma.after comma.white_after in
    let found = next [] (text ++ comma.before) (comma.after ++ (g.2 ++ g.3)) element.tree rest.elements refl element.is behind in
    let parts : bytes ≡ comma.before ++ 0x2C ∷ (comma.after ++ (g.2 ++ g.3)) =
    g.4 ∙ ap (λ xs. g.0 ++ (xs ++ (g.2 ++ g.3))) (no_label label g.1 g.6) ∙ ap (λ xs. xs ++ (g.2 ++ g.3)) comma.joined ∙ append_assoc comma.before (0x2C ∷ comma.after) (g.2 ++ g.3) in
    record {
      elements = (text ++ comma.before) ∷ rest.elements;
      are = subst (λ xs. AreElements xs ((text ++ comma.before) ∷ rest.elements)) (append_assoc text comma.before (0x2C ∷ (comma.after ++ (g.2 ++ g.3))) ∙ ap (λ xs. text ++ xs) (sym parts)) found;
      say = (element.says, rest.say);
    }

-- an array of elements that say the same as these children
record ArrayOf (bytes : List ℕ) (c : Children) : Type 0 where
  elements : List (List ℕ)
  is : IsArray bytes elements
  say : SayTheSame elements c

first_found : (c : Children) (bytes inside : List ℕ) → bytes ≡ 0x5B ∷ inside → WritesFirst array inside c → AreSound c → ArrayOf bytes c
first_found no_child bytes inside e h s = record {
  elements = [];
  is = record { inside = inside; opened = e; are = subst (λ xs. IsInside xs []) (sym h.joined) (empty h.before (white_blank h.before h.white)) };
  say = tt;
}
first_found (child name t more) bytes inside e h s =
    let found = more_found more name t h.2 h.3 h.7 h.8 s in
    let all = in_front found.are h.0 h.5 in
    let parts : inside ≡ h.0 ++ (h.2 ++ h.3) = h.4 ∙ ap (λ xs. h.0 ++ (xs ++ (h.2 ++ h.3))) (no_label name h.1 h.6) in
    record { elements = found.elements; is = record { inside = inside; opened = e; are = subst (λ xs. IsInside xs found.elements) (sym parts) (filled (h.0 ++ (h.2 ++ h.3)) found.elements all) }; say = found.say }

array_found : (bytes : List ℕ) (t : Tree) (c : Children) → Writes bytes t → value_of t ≡ container array c → AreSound c → ArrayOf bytes c
array_found bytes (node s v) c h e sounds = let w = subst (λ (v : Value). Writes bytes (node s v)) e h in first_found c bytes w.0 w.1 w.2 sounds

pub array_elements : (bytes : List ℕ) (t : Tree) (c : Children) → IsValue bytes t → value_of t ≡ container array c → (elements : List (List ℕ)) × IsArray bytes elements × SayTheSame elements c
array_elements bytes t c h e =
    let found = array_found bytes t c (value_written bytes t h) e (children_sound t array c e (sound bytes t h.accepted)) in
    (found.elements, found.is, found.say)
