-- The length that all texts of a part have: what is noted is right, and what is found in a list of parts is found in their row.
use Rattle.std.proofs.Common.{◌≡◌, ℕ, zero, suc, ◌+◌, ◌*◌, ◌^◌, ◌≤◌, inl, inr, List, length, Option, Some, None, option_and_then, true, if◌then◌else◌, arith, refl, sym, ◌∙◌, ap, subst, length-append, Global, Vec}
use Rattle.std.specs.Option.{IfSome}
use Rattle.std.specs.Prelude.{nat_le}
use Rattle.std.proofs.lemmas.Bool.{eqb-true, leb-true}
use Rattle.std.proofs.lemmas.Option.{none-some, option_and_then_some}
use Rattle.jp_model.specs.Pattern.Language.{Language, RepeatsWithin}
use Rattle.jp_iregexp.specs.declared.node.Node.{Node, Sequence, Choice, Class as ClassNode, Sequence', Choice', Repeated', Row_of-Node, end_of-Node, more_of-Node, items-the_row-Node, items_hidden-the_row-Node-0}
use Rattle.jp_iregexp.specs.Evens.{HaveLength}
use Rattle.jp_iregexp.specs.Lengths.{bounded, agrees, length_of_turns, length_of, sum_after, common_after, sum_list, common_list}
use Rattle.jp_iregexp.specs.Nodes.{most_of, tree_of, sequence_of, choice_of}
use Rattle.jp_iregexp.specs.Numbers.{numbers_after, parts_after}
use Rattle.jp_iregexp.specs.Tables.{IsLength}
use Rattle.jp_iregexp.proofs.Evens.{exact_length}
use Rattle.jp_iregexp.proofs.Numbering.{then_same, passed, notes_of}
use Rattle.jp_iregexp.proofs.Parts.{row_of}

-- ---- a row and a list

sum_row : (before : ℕ) (n : _) (row : Row_of-Node n) → sum_after before row ≡ sum_list before (items-the_row-Node n row)
sum_row before n end_of-Node = refl
sum_row before n (more_of-Node part rest) =
    then_same (λ k. option_and_then (λ sum. sum_after sum rest) (bounded (before + k))) (λ k. option_and_then (λ sum. sum_list sum (items-the_row-Node _ rest)) (bounded (before + k))) (length_of part)
    (λ k. then_same (λ sum. sum_after sum rest) (λ sum. sum_list sum (items-the_row-Node _ rest)) (bounded (before + k)) (λ sum. sum_row sum _ rest))

common_row : (common : Option ℕ) (n : _) (row : Row_of-Node n) → common_after common row ≡ common_list common (items-the_row-Node n row)
common_row common n end_of-Node = refl
common_row common n (more_of-Node part rest) =
    then_same (λ k. if agrees common k then common_after (Some k) rest else None) (λ k. if agrees common k then common_list (Some k) (items-the_row-Node _ rest) else None) (length_of part)
    (λ k. ap (λ o. if agrees common k then o else None) (common_row (Some k) _ rest))

pub length_of_Sequence : (parts : Vec Node Global) → length_of (Sequence parts) ≡ sum_list 0 parts.items
length_of_Sequence parts =
    let row = row_of (Sequence parts) in
    sum_row 0 row.0 row.1 ∙ ap (sum_list 0) (items_hidden-the_row-Node-0 parts)

pub length_of_Choice : (parts : Vec Node Global) → length_of (Choice parts) ≡ common_list None parts.items
length_of_Choice parts =
    let row = row_of (Choice parts) in
    common_row None row.0 row.1 ∙ ap (common_list None) (items_hidden-the_row-Node-0 parts)

-- ---- texts

-- the length is not above 2^31, and each text has it
abbrev IsRight : (List ℕ → Type 0) → ℕ → Type 0
IsRight Member n = n ≤ 2 ^ 31 × HaveLength Member n

bounded_is : (n m : ℕ) → bounded n ≡ Some m → n ≡ m × m ≤ 2 ^ 31
bounded_is n m e =
    let p = passed (nat_le n (2 ^ 31)) (Some n) m e in
    let l = leb-true n (2 ^ 31) p.0 in
    let is = p.1 in
    let same : n ≡ m = cc in
    (same, omega (arith, l, same))

turns_right : (Member : List ℕ → Type 0) (noted : Option ℕ) (least : ℕ) (further : Option ℕ) (n : ℕ) → ((m : ℕ) → noted ≡ Some m → HaveLength Member m) → length_of_turns noted least further ≡ Some n → IsRight (RepeatsWithin Member least (most_of least further)) n
turns_right Member noted least None n each e = absurd (none-some n e)
turns_right Member noted least (Some (suc further)) n each e = absurd (none-some n e)
turns_right Member noted least (Some zero) n each e =
    option_and_then_some (λ m. bounded (m * least)) noted n e
    (λ m is b.
    (let all = bounded_is (m * least) n b in
    (all.1, subst (HaveLength (RepeatsWithin Member least (Some (least + 0)))) all.0 (exact_length Member m least (each m is)))))

agreed : (common : Option ℕ) (k n : ℕ) → agrees common k ≡ true → k ≡ n → IfSome common (λ c. c ≡ n)
agreed None k n e same = tt
agreed (Some c) k n e same = eqb-true c k e ∙ same

-- the length of a part is that of its texts, where what is noted in it is right
mutual
  length_right : (node : Node) (first last n : ℕ) → numbers_after first node ≡ Some last → length_of node ≡ Some n → IsRight (Language (tree_of node)) n
  length_right (ClassNode c) first last n e l = (let one : 1 ≡ n = cc in (omega (arith, one), λ x h. ap length h.is ∙ one))
  length_right (Sequence' shape parts) first last n e l = (let all = sum_right _ parts first last 0 n (omega arith) e l in (all.0, λ x h. (let own = all.1 x h in omega (arith, own))))
  length_right (Choice' shape parts) first last n e l = (let all = common_right _ parts first last None n tt e l in (all.0, all.1))
  length_right (Repeated' p body least further number noted) first last n e l =
      let notes = notes_of first last body number noted e in
      turns_right (Language (tree_of body)) noted least further n (λ m is. (length_right body first notes.due m notes.before (sym notes.has_length ∙ is)).1) l

  sum_right : (m : _) (row : Row_of-Node m) (first last before n : ℕ) → before ≤ 2 ^ 31 → parts_after first row ≡ Some last → sum_after before row ≡ Some n → n ≤ 2 ^ 31 × ((x : List ℕ) → Language (sequence_of row) x → before + length x ≡ n)
  sum_right m end_of-Node first last before n small e l =
      let same : before ≡ n = cc in
      (omega (arith, small, same), λ x h. (let none = ap length h in omega (arith, same, none)))
  sum_right m (more_of-Node part rest) first last before n small e l =
      option_and_then_some (λ due. parts_after due rest) (numbers_after first part) last e
      (λ due p r.
      option_and_then_some (λ k. option_and_then (λ sum. sum_after sum rest) (bounded (before + k))) (length_of part) n l
      (λ k is s.
      option_and_then_some (λ sum. sum_after sum rest) (bounded (before + k)) n s
      (λ sum b t.
      (let own = length_right part first due k p is in
      let here = bounded_is (before + k) sum b in
      let others = sum_right _ rest due last sum n here.1 r t in (
        others.0,
        λ x h.
            (let whole = ap length h.is ∙ length-append h.front h.rest in
            let one = own.1 h.front h.first in
            let more = others.1 h.rest h.second in
            let both = here.0 in
            omega (arith, whole, one, more, both)),
      )))))

  common_right : (m : _) (row : Row_of-Node m) (first last : ℕ) (common : Option ℕ) (n : ℕ) → IfSome common (λ c. c ≤ 2 ^ 31) → parts_after first row ≡ Some last → common_after common row ≡ Some n → n ≤ 2 ^ 31 × HaveLength (Language (choice_of row)) n × IfSome common (λ c. c ≡ n)
  common_right m end_of-Node first last common n small e l =
      (subst (λ (o : Option ℕ). IfSome o (λ c. c ≤ 2 ^ 31)) l small, λ x h. absurd h, subst (λ (o : Option ℕ). IfSome o (λ c. c ≡ n)) (sym l) refl)
  common_right m (more_of-Node part rest) first last common n small e l =
      option_and_then_some (λ due. parts_after due rest) (numbers_after first part) last e
      (λ due p r.
      option_and_then_some (λ k. if agrees common k then common_after (Some k) rest else None) (length_of part) n l
      (λ k is s.
      (let own = length_right part first due k p is in
      let same = passed (agrees common k) (common_after (Some k) rest) n s in
      let others = common_right _ rest due last (Some k) n own.0 r same.1 in
      (others.0, λ x h. elim h [ inl i ↦ own.1 x i ∙ others.2 | inr i ↦ others.1 x i ], agreed common k n same.0 others.2))))

-- so is the length that is noted for a body
pub noted_length : (body : Node) (noted : Option ℕ) (first last : ℕ) → numbers_after first body ≡ Some last → noted ≡ length_of body → IsLength body noted
noted_length body None first last e is = tt
noted_length body (Some n) first last e is = length_right body first last n e (sym is)
