-- Each turn adds the rows of the next place.
use Rattle.std.proofs.Common.{◌≡◌, ◌∙◌, ℕ, List, ◌++◌, ap, append-nil, get_or, sym, take_all}
use Rattle.std.specs.Prelude.{flat_map}
use Rattle.jp_survey.specs.Counts.{counts_at, no_counts}
use Rattle.jp_survey.specs.Entries.{entries_of, path_of_listed}
use Rattle.jp_survey.specs.Texts.{entry_text, names_text}
use Rattle.jp_survey.specs.Trees.{links_of, names_of, tree_paths}
use Rattle.jp_survey.specs.Walked.{entries_in}
use Rattle.jp_survey.specs.declared.count.PlaceCounts.{PlaceCounts}
use Rattle.jp_survey.proofs.Arranged.{rows_more}
use Rattle.jp_survey.proofs.text.text_of.Goals as goal

pub loop-place-init : goal.loop-place-init
loop-place-init c = record {
  table = c.in_ok-page.ensures.table;
  way = c.in_ok-way.ensures (names_of c.args.tree.now) (links_of c.args.tree.now) c.requires.places;
  text = c.in_ok-page.ensures.text ∙ sym (append-nil (names_text c.args.table c.args.has_names));
}

pub loop-place-preserved : goal.loop-place-preserved
loop-place-preserved c =
    let was = c.loop-place.invariant in let paths = tree_paths c.args.tree.now in let counts = c.args.tree.now.counts.places.items in
    let order = c.args.order.now in let i = c.loop-place.place-index in
    let got = rw c.in_ok-counts.ensures.ok_part at c.get.ensures.lookup in
    let count-is : c.in_ok-counts.counts.now ≡ counts_at counts (get_or order i 0) = got.3.1 no_counts ∙ ap (λ (cs : List PlaceCounts). counts_at cs (get_or order i 0)) c.deref.ensures.value in
    let path-is = ap path_of_listed c.deref-in-loop-place.ensures.value ∙ c.in_ok-go_to.ensures.path in
    record {
      table = c.in_ok-add_place.ensures.table ∙ was.table;
      way = c.in_ok-go_to.ensures.way;
      text = rows_more (entry_text c.args.table) (names_text c.args.table c.args.has_names) c.loop-place.page.text.items c.add_place.new.self.text.items paths counts order i
          (path_of_listed c.deref-in-loop-place.result.now) c.in_ok-counts.counts.now c.loop-place-test.true path-is count-is was.text
          (c.in_ok-add_place.ensures.text ∙ ap (λ t. c.loop-place.page.text.items ++ flat_map (entry_text t) (entries_of (path_of_listed c.deref-in-loop-place.result.now) c.in_ok-counts.counts.now)) was.table);
    }

pub returns : goal.returns
returns c =
    let was = c.loop-place.invariant in let order = c.args.order.now in let end = c.loop-place-test.false in
    was.text
    ∙ ap (λ (places : List ℕ). names_text c.args.table c.args.has_names
    ++ flat_map (entry_text c.args.table) (entries_in (tree_paths c.args.tree.now) c.args.tree.now.counts.places.items places))
    (take_all c.loop-place.place-index order end)
