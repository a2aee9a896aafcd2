-- The first two words of a tape tell whether a text of a sequence may have lost its end.
use Rattle.std.proofs.Common.{◌≡◌, ℕ, ◌+◌, ◌*◌, ◌^◌, ◌<◌, inl, inr, true, false, not, ◌&&◌, ◌==◌, List, length, drop, get_or, sym, ◌∙◌, ap, arith, add-zero, length-drop, get_or-drop}
use Rattle.std.specs.List.{list_any}
use Rattle.std.proofs.lemmas.Bool.{cases_lt, eq-eqb, ne_eqb}
use Rattle.std.proofs.lemmas.List.Folds.{list_any_at}
use Rattle.std.proofs.Math.Seq.{drop-length}
use Rattle.jp_model.specs.declared.Framing.TheVariants as framings
use Rattle.jp_model.specs.Characters.{is_white}
use Rattle.jp_model.specs.Json.Places.{White}
use Rattle.jp_model.specs.Json.Tree.{Tree, node, value_of, span}
use Rattle.jp_model.specs.Json.Faults.{has_open_end, is_truncated}
use Rattle.jp_model.specs.Json.Spelling.{Text}
use Rattle.jp_nodes.proofs.Bounds.{room}
use Rattle.jp_nodes.proofs.Places.{count-below}
use Rattle.jp_nodes.specs.declared.word.Word.{Word}
use Rattle.jp_nodes.specs.Forms.{joined}
use Rattle.jp_nodes.specs.Kinds.{kind_of, kind_by}
use Rattle.jp_nodes.specs.Words.{span_word, nodes_below, tape_words}
use Rattle.jp_nodes.proofs.Packed.{kind-packed}

-- after the value stands white space, if anything
end_test : (line : List ℕ) (i : ℕ) → White line i (length line) → (i == length line) ≡ not (list_any is_white (drop i line))
end_test line i w =
    elim (cases_lt i (length line)) [
      | inl lt ↦ (
          let first : is_white (get_or line i 0) ≡ true = w.white i (omega arith) lt in
          let d = length-drop i line in
          let some : list_any is_white (drop i line) ≡ true = list_any_at is_white (drop i line) 0 0 (omega (arith, d, lt)) (ap is_white (get_or-drop i line 0 0 ∙ ap (λ n. get_or line n 0) (add-zero i)) ∙ first) in
          ne_eqb i (length line) (λ e. omega (arith, e, lt)) ∙ sym (ap not some)
          )
      | inr le ↦ (
          let e : i ≡ length line = (let o = w.order in omega (arith, o, le)) in
          eq-eqb i (length line) e ∙ sym (ap (λ (n : ℕ). not (list_any is_white (drop n line))) e ∙ ap (λ (xs : List ℕ). not (list_any is_white xs)) (drop-length line))
          )
    ]

-- two bytes to a node but one
few_below : (line : List ℕ) (t : Tree) → Text line t → length line < 2 ^ 32 → nodes_below (value_of t) < 2 ^ 31
few_below line t h l =
    let all = room line t h.value in
    let count = count-below t in
    omega (arith, l, all, count)

-- the kind and the end of the root stand in its first two words
pub root_kind : (line words : List ℕ) (word : Word) (t : Tree) → Text line t → words ≡ tape_words t → length line < 2 ^ 32 → joined word ≡ get_or words 0 0 → kind_by word.high word.low ≡ kind_of (value_of t)
root_kind line words word (node s v) h e l w = kind-packed word v 0 (w ∙ ap (λ (xs : List ℕ). get_or xs 0 0) e) (omega arith) (few_below line (node s v) h l)

pub root_end : (line words : List ℕ) (word : Word) (t : Tree) → Text line t → words ≡ tape_words t → length line < 2 ^ 32 → joined word ≡ get_or words 1 0 → word.low < 2 ^ 32 → word.low ≡ (span t).end
unfolding span_word
root_end line words word (node s v) h e l w small =
    let is : word.high * 2 ^ 32 + word.low ≡ s.start * 2 ^ 32 + s.end = w ∙ ap (λ (xs : List ℕ). get_or xs 1 0) e in
    let o = h.after.order in
    omega (arith, is, small, o, l)

pub truncated_open : (line : List ℕ) (t : Tree) (end : ℕ) → Text line t → has_open_end (value_of t) ≡ true → end ≡ (span t).end → (end == length line) ≡ is_truncated framings.Sequence line t
truncated_open line (node s v) end h o e = ap (λ n. n == length line) e ∙ (end_test line s.end h.after ∙ ap (λ b. b && not (list_any is_white (drop s.end line))) (sym o))

pub truncated_closed : (line : List ℕ) (t : Tree) → has_open_end (value_of t) ≡ false → false ≡ is_truncated framings.Sequence line t
truncated_closed line (node s v) o = ap (λ b. b && not (list_any is_white (drop s.end line))) (sym o)
