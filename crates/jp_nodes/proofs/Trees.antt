-- The tree of a tape is the one that its line spells.
use Rattle.std.proofs.Common.{◌≡◌, ℕ, ◌+◌, ◌*◌, ◌<◌, ◌≤◌, ◌^◌, true, false, List, length, sym, ◌∙◌, ap, refl, arith, Option, Some, None, unwrap_or}
use Rattle.std.specs.Option.{is_some}
use Rattle.jp_model.specs.Json.Tree.{Tree, node, null}
use Rattle.jp_model.specs.Json.Spelling.{Text}
use Rattle.jp_model.specs.Json.Faults.{has_surrogate, has_long_exponent, has_duplicate}
use Rattle.jp_model.specs.Json.Reader.{tree_of}
use Rattle.jp_model.proofs.Reader.Found.{tree_found}
use Rattle.jp_model.proofs.Reader.Whole.{tree_whole}
use Rattle.jp_model.proofs.Reader.Lexical.{clash}
use Rattle.jp_nodes.specs.Words.{node_count, tape_words}
use Rattle.jp_nodes.specs.Tapes.{is_spelled, spelled, IsTapeOf}
use Rattle.jp_nodes.proofs.Bounds.{room}

some_is : {A : Type 0} (o : Option A) (d : A) → is_some o ≡ true → o ≡ Some (unwrap_or o d)
some_is None d h = absurd (clash false h refl)
some_is (Some x) d h = refl

pub spelled_text : (line : List ℕ) → is_spelled line ≡ true → Text line (spelled line)
unfolding is_spelled spelled
spelled_text line h = tree_found line _ (some_is (tree_of line) _ h)

pub spelled_only : (line : List ℕ) (t : Tree) → Text line t → spelled line ≡ t
unfolding spelled
spelled_only line t h = let none : Tree = node (record { start = 0; end = 0 }) null in ap (λ o. unwrap_or o none) (tree_whole line t h)

is_spelled_by : (line : List ℕ) (t : Tree) → Text line t → is_spelled line ≡ true
unfolding is_spelled
is_spelled_by line t h = ap is_some (tree_whole line t h)

pub tape_made : (words line : List ℕ) (t : Tree) → Text line t → words ≡ tape_words t → length line < 2 ^ 32 → has_surrogate t ≡ false → has_duplicate t ≡ false → has_long_exponent line t ≡ false → IsTapeOf words line
tape_made words line t h w l whole distinct exponents =
    let e = spelled_only line t h in
    record {
      spelled_line = is_spelled_by line t h;
      words_are = w ∙ ap tape_words (sym e);
      short = l;
      whole = ap has_surrogate e ∙ whole;
      exponents = ap (has_long_exponent line) e ∙ exponents;
      distinct = ap has_duplicate e ∙ distinct;
    }

-- a line of fewer than 2 ^ 32 bytes has at most 2 ^ 31 nodes
pub count_short : (line : List ℕ) → is_spelled line ≡ true → 2 * node_count (spelled line) ≤ length line + 1
count_short line h = let r = room line (spelled line) (spelled_text line h).value in omega (arith, r)
