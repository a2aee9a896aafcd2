-- The rows of the places so far stand after the head.
use Rattle.std.proofs.Common.{◌≡◌, ◌++◌, take}
use Rattle.std.specs.Prelude.{flat_map}
use Rattle.jp_survey.specs.Texts.{entry_text, names_text}
use Rattle.jp_survey.specs.Trees.{tree_paths}
use Rattle.jp_survey.specs.Walked.{IsWay, entries_in}
use Rattle.jp_survey.proofs.text.text_of.Given as goal

abbrev pub invariant-loop-place : goal.invariant-loop-place
invariant-loop-place l = record {
  table : l.page.table ≡ l.fn.table;
  way : IsWay (tree_paths l.tree) l.way;
  text : l.page.text.items ≡ names_text l.fn.table l.fn.has_names
      ++ flat_map (entry_text l.fn.table) (entries_in (tree_paths l.tree) l.tree.counts.places.items (take l.place-index l.order));
}
