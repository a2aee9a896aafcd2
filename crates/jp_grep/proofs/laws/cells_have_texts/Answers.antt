-- Value by value.
use Rattle.std.proofs.Common.{◌≡◌, ◌∙◌, ◌||◌, ℕ, List, Bool, true, false, refl, sym, ap}
use Rattle.jp_model.specs.declared.Span.{Span}
use Rattle.jp_model.specs.Json.Spelling.{Spells, word_of}
use Rattle.jp_model.specs.Json.Tree.{Tree, node, Value, null, boolean, number, string, container, array, object}
use Rattle.jp_table.specs.Literals.{is_literal, is_number}
use Rattle.jp_table.specs.ReadBack.{HasText}
use Rattle.jp_table.proofs.Grammar.{numbers_are_spelled}
use Rattle.jp_form.specs.declared.form.Table.TheVariants as tables
use Rattle.jp_grep.specs.Spelled.{cell_of}
use Rattle.jp_grep.proofs.laws.cells_have_texts.Goals as goal

word_literal : (b : Bool) → is_literal (word_of b) ≡ true
word_literal true = refl
word_literal false = refl

or_last : (a b : Bool) → b ≡ true → (a || b) ≡ true
or_last true b e = refl
or_last false b e = e

number_literal : (bytes : List ℕ) → is_number bytes ≡ true → is_literal bytes ≡ true
number_literal bytes e = or_last _ (is_number bytes) e

by_value : (line : List ℕ) (s : Span) (v : Value) → Spells line (node s v) → HasText (cell_of tables.Commas line (node s v)).kind (cell_of tables.Commas line (node s v)).text
by_value line s null h = ap is_literal h.are
by_value line s (boolean true) h = ap is_literal h.are ∙ word_literal true
by_value line s (boolean false) h = ap is_literal h.are ∙ word_literal false
by_value line s (number m e) h = number_literal _ ((numbers_are_spelled _).1 (h.numeral, h.correct, sym h.bytes.are))
by_value line s (string points) h = tt
by_value line s (container array cs) h = refl
by_value line s (container object cs) h = refl

pub returns : goal.returns
returns c = λ line t spells. by_tree line t spells
  where
    by_tree : (line : List ℕ) (t : Tree) → Spells line t → HasText (cell_of tables.Commas line t).kind (cell_of tables.Commas line t).text
    by_tree line (node s v) spells = by_value line s v spells
