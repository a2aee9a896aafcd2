-- The numbers of repeated parts, of parts in a row and in a list, and of groups, and the lengths that are noted beside them.
use Rattle.std.proofs.Common.{◌≡◌, ◌==◌, ℕ, suc, List, [], ◌∷◌, ◌++◌, Option, Some, None, option_and_then, Bool, true, false, if◌then◌else◌, refl, sym, ◌∙◌, ap, Global, Vec}
use Rattle.std.proofs.lemmas.Bool.{eqb-true, eq-eqb}
use Rattle.std.proofs.lemmas.Option.{none-some, option_and_then_some}
use Rattle.jp_iregexp.specs.declared.group.Group.{Group}
use Rattle.jp_iregexp.specs.declared.node.Node.{Node, Sequence, Choice, Row_of-Node, end_of-Node, more_of-Node, items-the_row-Node, items_hidden-the_row-Node-0}
use Rattle.jp_iregexp.specs.Lengths.{length_of}
use Rattle.jp_iregexp.specs.Numbers.{is_noted, next_of, numbers_after, parts_after, each_after, list_after, atom_after, group_after, groups_after}
use Rattle.jp_iregexp.proofs.Parts.{row_of}

-- ---- numbers

pub then_same : (f g : ℕ → Option ℕ) (o : Option ℕ) → ((n : ℕ) → f n ≡ g n) → option_and_then f o ≡ option_and_then g o
then_same f g None e = refl
then_same f g (Some n) e = e n

then_some : (o : Option ℕ) → option_and_then (λ n. Some n) o ≡ o
then_some None = refl
then_some (Some n) = refl

then_then : (f g h : ℕ → Option ℕ) (o : Option ℕ) → ((n : ℕ) → f n ≡ option_and_then g (h n)) → option_and_then f o ≡ option_and_then g (option_and_then h o)
then_then f g h None e = refl
then_then f g h (Some n) e = e n

row_after : (first : ℕ) (n : _) (row : Row_of-Node n) → parts_after first row ≡ list_after first (items-the_row-Node n row)
row_after first n end_of-Node = refl
row_after first n (more_of-Node part rest) = then_same (λ due. parts_after due rest) (λ due. list_after due (items-the_row-Node _ rest)) (numbers_after first part) (λ due. row_after due _ rest)

after_Sequence : (first : ℕ) (parts : Vec Node Global) → numbers_after first (Sequence parts) ≡ list_after first parts.items
after_Sequence first parts =
    let row = row_of (Sequence parts) in
    row_after first row.0 row.1 ∙ ap (list_after first) (items_hidden-the_row-Node-0 parts)

after_Choice : (first : ℕ) (parts : Vec Node Global) → numbers_after first (Choice parts) ≡ list_after first parts.items
after_Choice first parts =
    let row = row_of (Choice parts) in
    row_after first row.0 row.1 ∙ ap (list_after first) (items_hidden-the_row-Node-0 parts)

-- one more in a list
after_push : {A : Type 0} → (after : ℕ → A → Option ℕ) (first : ℕ) (front : List A) (part : A) → each_after after first (front ++ part ∷ []) ≡ option_and_then (λ due. after due part) (each_after after first front)
after_push after first [] part = then_some (after first part)
after_push after first (p ∷ front) part =
    then_then (λ due. each_after after due (front ++ part ∷ [])) (λ due. after due part) (λ due. each_after after due front) (after first p) (λ due. after_push after due front part)

-- ---- what a group holds

-- the next number after those of branches, of pieces, and of an atom
abbrev pub held : ℕ → List Node → List Node → Option Node → Option ℕ
held first branches pieces atom = option_and_then (λ due. atom_after due atom) (option_and_then (λ due. list_after due pieces) (list_after first branches))

-- without an atom
held_none : (first : ℕ) (branches pieces : List Node) (atom : Option Node) → atom ≡ None → held first branches pieces atom ≡ option_and_then (λ due. list_after due pieces) (list_after first branches)
held_none first branches pieces atom none = ap (held first branches pieces) none ∙ then_some (option_and_then (λ due. list_after due pieces) (list_after first branches))

-- an atom that becomes a piece
pub piece_after : (first : ℕ) (branches pieces more : List Node) (rest : Option Node) (piece : Node) → rest ≡ None → more ≡ pieces ++ piece ∷ [] → held first branches more rest ≡ held first branches pieces (Some piece)
piece_after first branches pieces more rest piece none m =
    let before = list_after first branches in
    held_none first branches more rest none
    ∙ ap (λ l. option_and_then (λ due. list_after due l) before) m
    ∙ then_then (λ due. list_after due (pieces ++ piece ∷ [])) (λ due. numbers_after due piece) (λ due. list_after due pieces) before (λ due. after_push numbers_after due pieces piece)

-- an atom that becomes a piece with a number
pub repeated_after : (first number : ℕ) (branches pieces more : List Node) (rest : Option Node) (atom piece : Node) → rest ≡ None → more ≡ pieces ++ piece ∷ [] → ((due : ℕ) → numbers_after due piece ≡ option_and_then (λ n. next_of n number) (numbers_after due atom)) → held first branches more rest ≡ option_and_then (λ due. next_of due number) (held first branches pieces (Some atom))
repeated_after first number branches pieces more rest atom piece none m e =
    piece_after first branches pieces more rest piece none m
    ∙ then_then (λ due. numbers_after due piece) (λ due. next_of due number) (λ due. numbers_after due atom) (option_and_then (λ due. list_after due pieces) (list_after first branches)) e

-- pieces that become a branch
pub branch_after : (first : ℕ) (branches more left : List Node) (pieces : Vec Node Global) (rest : Option Node) → rest ≡ None → left ≡ [] → more ≡ branches ++ Sequence pieces ∷ [] → held first more left rest ≡ held first branches pieces.items rest
branch_after first branches more left pieces rest none empty m =
    held_none first more left rest none
    ∙ ap (λ l. option_and_then (λ due. list_after due l) (list_after first more)) empty
    ∙ then_some (list_after first more)
    ∙ ap (list_after first) m
    ∙ after_push numbers_after first branches (Sequence pieces)
    ∙ then_same (λ due. numbers_after due (Sequence pieces)) (λ due. list_after due pieces.items) (list_after first branches) (λ due. after_Sequence due pieces)
    ∙ sym (held_none first branches pieces.items rest none)

-- branches that become a part, where nothing is left beside them
pub choice_after : (first : ℕ) (g : Group) → g.pieces.items ≡ [] → g.atom ≡ None → numbers_after first (Choice g.branches) ≡ group_after first g
choice_after first g empty none =
    after_Choice first g.branches
    ∙ sym (held_none first g.branches.items g.pieces.items g.atom none
    ∙ ap (λ l. option_and_then (λ due. list_after due l) (list_after first g.branches.items)) empty
    ∙ then_some (list_after first g.branches.items))

-- ---- groups

-- a group begins
pub opened_after : (around more : List Group) (now inner : Group) → more ≡ around ++ now ∷ [] → ((first : ℕ) → group_after first inner ≡ Some first) → groups_after 0 more inner ≡ groups_after 0 around now
opened_after around more now inner m none =
    let all = each_after group_after 0 more in
    then_same (λ due. group_after due inner) (λ due. Some due) all none ∙ then_some all ∙ ap (each_after group_after 0) m ∙ after_push group_after 0 around now

-- what follows the numbers of the innermost group follows those of all
innermost_after : (f : ℕ → Option ℕ) (around : List Group) (old new : Group) → ((first : ℕ) → group_after first new ≡ option_and_then f (group_after first old)) → groups_after 0 around new ≡ option_and_then f (groups_after 0 around old)
innermost_after f around old new e = then_then (λ due. group_after due new) f (λ due. group_after due old) (each_after group_after 0 around) e

-- the innermost group ends, and is the atom of the one around it
pub closed_after : (around before : List Group) (inner outer now : Group) (node : Node) → around ≡ before ++ outer ∷ [] → ((first : ℕ) → numbers_after first node ≡ group_after first inner) → ((first : ℕ) → group_after first now ≡ option_and_then (λ due. numbers_after due node) (group_after first outer)) → groups_after 0 before now ≡ groups_after 0 around inner
closed_after around before inner outer now node is same e =
    innermost_after (λ due. numbers_after due node) before outer now e
    ∙ then_same (λ due. numbers_after due node) (λ due. group_after due inner) (groups_after 0 before outer) same
    ∙ ap (option_and_then (λ due. group_after due inner)) (sym (ap (each_after group_after 0) is ∙ after_push group_after 0 before outer))

-- ---- what is noted in a repeated part

-- a number that is there only where a test passes
pub passed : (test : Bool) (o : Option ℕ) (last : ℕ) → (if test then o else None) ≡ Some last → (test ≡ true) × (o ≡ Some last)
passed true o last e = (refl, e)
passed false o last e = absurd (none-some last e)

noted_is : (length noted : Option ℕ) → is_noted length noted ≡ true → noted ≡ length
noted_is None None e = refl
noted_is None (Some n) e = absurd (cc)
noted_is (Some m) None e = absurd (cc)
noted_is (Some m) (Some n) e = ap (λ k. Some k) (eqb-true n m e)

noted_same : (length : Option ℕ) → is_noted length length ≡ true
noted_same None = refl
noted_same (Some n) = eq-eqb n n refl

-- a part that is repeated has the number that is due, where the length that is noted is that of its body
pub noted_after : (due number : ℕ) (body atom : Node) (noted : Option ℕ) → body ≡ atom → noted ≡ length_of atom
    → (if is_noted (length_of body) noted then option_and_then (λ n. next_of n number) (numbers_after due body) else None) ≡ option_and_then (λ n. next_of n number) (numbers_after due atom)
noted_after due number body atom noted is long =
    let test : is_noted (length_of body) noted ≡ true = ap (λ l. is_noted l noted) (ap length_of is ∙ sym long) ∙ noted_same noted in
    let all = option_and_then (λ n. next_of n number) (numbers_after due body) in
    ap (λ (t : Bool). if t then all else None) test ∙ ap (λ n. option_and_then (λ m. next_of m number) (numbers_after due n)) is

-- the number is the one that is due after those of the body, and the length is that of the body
pub record AreNotes (first last : ℕ) (body : Node) (number : ℕ) (length : Option ℕ) : Type 0 where
  pub due : ℕ
  pub before : numbers_after first body ≡ Some due
  pub is_due : number ≡ due
  pub next : last ≡ suc due
  pub has_length : length ≡ length_of body

pub notes_of : (first last : ℕ) (body : Node) (number : ℕ) (length : Option ℕ) → (if is_noted (length_of body) length then option_and_then (λ due. next_of due number) (numbers_after first body) else None) ≡ Some last → AreNotes first last body number length
notes_of first last body number length e =
    let noted = passed (is_noted (length_of body) length) (option_and_then (λ due. next_of due number) (numbers_after first body)) last e in
    option_and_then_some (λ due. next_of due number) (numbers_after first body) last noted.1
    (λ due before n.
    (let here = passed (number == due) (Some (suc due)) last n in
    let next = here.1 in
    record { due = due; before = before; is_due = eqb-true number due here.0; next = cc; has_length = noted_is (length_of body) length noted.0 }))
