-- The names are those that there were, and the new one where it is another.
use Rattle.std.proofs.Common.{◌∙◌, [], append-nil, refl, sym}
use Rattle.std.specs.Prelude.{string_bytes}
use Rattle.std.specs.Str.{bytes_eq}
use Rattle.std.proofs.lemmas.Slice.Eq.{bytes_eq-Decides}
use Rattle.jp_survey.specs.Trees.{links_of, names_of, tree_paths}
use Rattle.jp_survey.proofs.Inserted.{name_at, names_step}
use Rattle.jp_survey.proofs.Names.{names_stay}
use Rattle.jp_survey.proofs.tree.Tree.name_number.Goals as goal

pub returns-clause-tree : goal.returns-clause-tree
returns-clause-tree c =
    let old = c.args.self.now in let tree = c.requires in
    let step = names_step (λ x y. bytes_eq (string_bytes x) (string_bytes y)) (λ x y. bytes_eq-Decides (string_bytes x) (string_bytes y)) old.names.keys c.insert_full.new.self.keys c.args.name c.in_ok-number.ensures.keys in
    let stay = names_stay (links_of old) (names_of old) _ _ tree.places tree.apart step in
    record { places = stay.0; apart = stay.1; counted = tree.counted; linked = tree.linked }

pub returns-clause-grows : goal.returns-clause-grows
returns-clause-grows c =
    let old = c.args.self.now in let tree = c.requires in
    let step = names_step (λ x y. bytes_eq (string_bytes x) (string_bytes y)) (λ x y. bytes_eq-Decides (string_bytes x) (string_bytes y)) old.names.keys c.insert_full.new.self.keys c.args.name c.in_ok-number.ensures.keys in
    let stay = names_stay (links_of old) (names_of old) _ _ tree.places tree.apart step in
    record {
      more = [];
      added = 0;
      paths = stay.2 ∙ sym (append-nil (tree_paths old));
      folds = stay.3;
      counts = sym (append-nil old.counts.places.items);
      places = refl;
      lines = refl;
      fold = refl;
    }

pub returns-clause-paths : goal.returns-clause-paths
returns-clause-paths c =
    let old = c.args.self.now in let tree = c.requires in
    let step = names_step (λ x y. bytes_eq (string_bytes x) (string_bytes y)) (λ x y. bytes_eq-Decides (string_bytes x) (string_bytes y)) old.names.keys c.insert_full.new.self.keys c.args.name c.in_ok-number.ensures.keys in
    (names_stay (links_of old) (names_of old) _ _ tree.places tree.apart step).2

pub returns-clause-within : goal.returns-clause-within
returns-clause-within c =
    let stored = c.in_ok-number.ensures.stored in
    (name_at (λ x y. bytes_eq (string_bytes x) (string_bytes y)) (λ x y. bytes_eq-Decides (string_bytes x) (string_bytes y)) c.insert_full.new.self.keys c.args.name stored.0 c.in_ok-number.number stored.1 stored.2).0

pub returns-clause-name : goal.returns-clause-name
returns-clause-name c =
    let stored = c.in_ok-number.ensures.stored in
    (name_at (λ x y. bytes_eq (string_bytes x) (string_bytes y)) (λ x y. bytes_eq-Decides (string_bytes x) (string_bytes y)) c.insert_full.new.self.keys c.args.name stored.0 c.in_ok-number.number stored.1 stored.2).1
