-- Parts with their numbers, as a row and as a list.
use Rattle.std.proofs.Common.{◌≡◌, ℕ, zero, suc, ◌+◌, ◌<◌, ◌⊎◌, inl, inr, List, [], ◌∷◌, ◌++◌, length, get_or, Option, Some, None, arith, refl, sym, ◌∙◌, ap, subst, length-append, slice_set, Global, Vec}
use Rattle.std.proofs.Math.Seq.{get_or-append_seam}
use Rattle.std.proofs.lemmas.List.{append_assoc}
use Rattle.std.proofs.lemmas.Option.{none-some, option_and_then_some}
use Rattle.jp_model.specs.Pattern.Language.{Language}
use Rattle.jp_model.specs.Pattern.Tree.{Pattern, empty}
use Rattle.jp_iregexp.specs.declared.node.Node.{Node, Sequence, Choice, Class as ClassNode, Sequence', Choice', Repeated', Row_of-Node, end_of-Node, more_of-Node, items-the_row-Node, items_hidden-the_row-Node-0}
use Rattle.jp_iregexp.specs.declared.positions.PositionSet.{PositionSet}
use Rattle.jp_iregexp.specs.Numbers.{numbers_after, parts_after}
use Rattle.jp_iregexp.specs.Kept.{IsAdded}
use Rattle.jp_iregexp.specs.Tables.{AreAlike, AreTables, IsTable, IsNumber, Numbered, NumberedParts, NumberedList, bodies_of, bodies_in}
use Rattle.jp_iregexp.specs.Nodes.{tree_of}
use Rattle.jp_iregexp.proofs.Noted.{noted_length}
use Rattle.jp_iregexp.proofs.Numbering.{notes_of}
use Rattle.jp_iregexp.proofs.Parts.{row_of}

list_numbered : (bodies : List Pattern) (n : _) (row : Row_of-Node n) → NumberedParts bodies row → NumberedList bodies (items-the_row-Node n row)
list_numbered bodies n end_of-Node k = tt
list_numbered bodies n (more_of-Node part rest) k = (k.0, list_numbered bodies _ rest k.1)

pub from_Sequence : (bodies : List Pattern) (parts : Vec Node Global) → Numbered bodies (Sequence parts) → NumberedList bodies parts.items
from_Sequence bodies parts k =
    let row = row_of (Sequence parts) in
    subst (NumberedList bodies) (items_hidden-the_row-Node-0 parts) (list_numbered bodies row.0 row.1 k)

pub from_Choice : (bodies : List Pattern) (parts : Vec Node Global) → Numbered bodies (Choice parts) → NumberedList bodies parts.items
from_Choice bodies parts k =
    let row = row_of (Choice parts) in
    subst (NumberedList bodies) (items_hidden-the_row-Node-0 parts) (list_numbered bodies row.0 row.1 k)

pub numbered_at : (bodies : List Pattern) (parts : List Node) (i : ℕ) (part : Node) → i < length parts → part ≡ get_or parts i part → NumberedList bodies parts → Numbered bodies part
numbered_at bodies [] i part l is k = absurd (omega (arith, l))
numbered_at bodies (p ∷ parts) zero part l is k = subst (Numbered bodies) (sym is) k.0
numbered_at bodies (p ∷ parts) (suc i) part l is k = numbered_at bodies parts i part (omega (arith, l)) is k.1

-- ---- numbers that ascend are those of the bodies

mutual
  bodies_size : (first last : ℕ) (node : Node) → numbers_after first node ≡ Some last → last ≡ first + length (bodies_of node)
  bodies_size first last (ClassNode c) e = (let same : first ≡ last = cc in omega arith)
  bodies_size first last (Sequence' shape parts) e = row_size first last _ parts e
  bodies_size first last (Choice' shape parts) e = row_size first last _ parts e
  bodies_size first last (Repeated' p body least further number noted) e =
      let notes = notes_of first last body number noted e in
      let one = bodies_size first notes.due body notes.before in
      let other = notes.next in
      let both = length-append (bodies_of body) (tree_of body ∷ []) in
      omega (arith, one, other, both)

  row_size : (first last : ℕ) (n : _) (row : Row_of-Node n) → parts_after first row ≡ Some last → last ≡ first + length (bodies_in row)
  row_size first last n end_of-Node e = (let same : first ≡ last = cc in omega arith)
  row_size first last n (more_of-Node part rest) e =
      option_and_then_some (λ due. parts_after due rest) (numbers_after first part) last e
      (λ due b r. (let one = bodies_size first due part b in let other = row_size due last _ rest r in let both = length-append (bodies_of part) (bodies_in rest) in omega (arith, one, other, both)))

has_number : (before after : List Pattern) (body : Node) (number : ℕ) → number ≡ length before → IsNumber (before ++ (tree_of body ∷ [] ++ after)) body number
has_number before after body number is =
    let same : get_or (before ++ tree_of body ∷ after) number empty ≡ tree_of body = ap (λ n. get_or (before ++ tree_of body ∷ after) n empty) is ∙ get_or-append_seam before (tree_of body) after empty in
    subst (λ (r : Pattern). AreAlike (Language r) (Language (tree_of body))) (sym same) (record { to = λ x m. m; from = λ x m. m })

-- the list of all bodies, by what stands in front of some, and after them
three : (before one two after : List Pattern) → before ++ one ++ (two ++ after) ≡ before ++ (one ++ two ++ after)
three before one two after = append_assoc before one (two ++ after) ∙ ap (λ l. before ++ l) (sym (append_assoc one two after))

mutual
  numbered : (before after : List Pattern) (node : Node) (first last : ℕ) → first ≡ length before → numbers_after first node ≡ Some last → Numbered (before ++ (bodies_of node ++ after)) node
  numbered before after (ClassNode c) first last at e = tt
  numbered before after (Sequence' shape parts) first last at e = row_numbered before after _ parts first last at e
  numbered before after (Choice' shape parts) first last at e = row_numbered before after _ parts first last at e
  numbered before after (Repeated' p body least further number noted) first last at e =
      let notes = notes_of first last body number noted e in
      let inner = bodies_of body in
      let own = tree_of body ∷ [] in
      let size = bodies_size first notes.due body notes.before in
      let both = length-append before inner in
      let due = notes.is_due in
      let place : number ≡ length (before ++ inner) = omega (arith, at, size, both, due) in (
        subst (λ (l : List Pattern). Numbered l body) (ap (λ l. before ++ l) (sym (append_assoc inner own after))) (numbered before (own ++ after) body first notes.due at notes.before),
        subst (λ (l : List Pattern). IsNumber l body number) (three before inner own after) (has_number (before ++ inner) after body number place),
        noted_length body noted first notes.due notes.before notes.has_length,
      )

  row_numbered : (before after : List Pattern) (n : _) (row : Row_of-Node n) (first last : ℕ) → first ≡ length before → parts_after first row ≡ Some last → NumberedParts (before ++ (bodies_in row ++ after)) row
  row_numbered before after n end_of-Node first last at e = tt
  row_numbered before after n (more_of-Node part rest) first last at e =
      option_and_then_some (λ due. parts_after due rest) (numbers_after first part) last e
      (λ due b r.
      (let inner = bodies_of part in
      let own = bodies_in rest in
      let size = bodies_size first due part b in
      let both = length-append before inner in
      let place : due ≡ length (before ++ inner) = omega (arith, at, size, both) in (
        subst (λ (l : List Pattern). Numbered l part) (ap (λ l. before ++ l) (sym (append_assoc inner own after))) (numbered before (own ++ after) part first due at b),
        subst (λ (l : List Pattern). NumberedParts l rest) (three before inner own after) (row_numbered (before ++ inner) after _ rest due last place r),
      )))

append_none : (l : List Pattern) → l ++ [] ≡ l
append_none [] = refl
append_none (r ∷ l) = ap (λ x. r ∷ x) (append_none l)

-- each body of a pattern has its number
pub whole_numbered : (root : Node) (last : ℕ) → numbers_after 0 root ≡ Some last → Numbered (bodies_of root) root
whole_numbered root last e = subst (λ (l : List Pattern). Numbered l root) (append_none (bodies_of root)) (numbered [] [] root 0 last refl e)

-- ---- tables

abbrev Tables : Type 0
Tables = List (Option (Vec PositionSet Global))

pub none_made : (text : List ℕ) (root : Node) (tables : Tables) → tables ≡ [] → AreTables text root tables
none_made text root tables e number table is = absurd (none-some table (ap (λ l. get_or l number None) (sym e) ∙ is))

pub more_made : (text : List ℕ) (root : Node) (old new : Tables) (number : ℕ) (rows : Vec PositionSet Global) → IsTable (Language (get_or (bodies_of root) number empty)) text rows.items → IsAdded number rows old new → AreTables text root old → AreTables text root new
more_made text root old new number rows t kept are n table is =
    elim (kept n table is) [
      | inl e ↦ subst (λ i. IsTable (Language (get_or (bodies_of root) i empty)) text table.items) (sym e.0) (subst (λ (v : Vec PositionSet Global). IsTable (Language (get_or (bodies_of root) number empty)) text v.items) (sym e.1) t)
      | inr e ↦ are n table e
    ]

pub push_none : {A : Type 0} → (rows : List (Option A)) (n : ℕ) → get_or (rows ++ None ∷ []) n None ≡ get_or rows n None
push_none [] zero = refl
push_none [] (suc n) = refl
push_none (r ∷ rows) zero = refl
push_none (r ∷ rows) (suc n) = push_none rows n

pub set_some : {A : Type 0} → (rows : List (Option A)) (i : ℕ) (row : A) (n : ℕ) (other : A) → get_or (slice_set rows i (Some row)) n None ≡ Some other → (n ≡ i × other ≡ row) ⊎ (get_or rows n None ≡ Some other)
set_some [] i row n other e = inr e
set_some (r ∷ rows) zero row zero other e = inl (refl, cc)
set_some (r ∷ rows) zero row (suc n) other e = inr e
set_some (r ∷ rows) (suc i) row zero other e = inr e
set_some (r ∷ rows) (suc i) row (suc n) other e = elim (set_some rows i row n other e) [ inl p ↦ inl (ap suc p.0, p.1) | inr p ↦ inr p ]
