-- A member of an object that is not folded is at the place of its name.
use Rattle.std.proofs.Common.{◌≡◌, ◌∙◌, ℕ, ◌++◌, ◌∷◌, [], List, IfOk, ap, ap₂, arith, get_or, length, refl, subst, sym}
use Rattle.std.specs.Prelude.{chars, string_bytes}
use Rattle.std.proofs.lemmas.Result.{on_ok_weaker}
use Rattle.jp_survey.specs.Foldings.{longer}
use Rattle.jp_survey.specs.Justified.{WithPath}
use Rattle.jp_survey.specs.Paths.{Path, member}
use Rattle.jp_survey.specs.Places.{has_path, path_at}
use Rattle.jp_survey.specs.Trees.{Grows, IsPlaceAt, links_of, names_of, tree_folds, tree_paths}
use Rattle.jp_survey.proofs.Folded.{shown_plain}
use Rattle.jp_survey.proofs.Seen.{with_after}
use Rattle.jp_survey.proofs.Trees.{grows_on, path_stays}
use Rattle.jp_survey.proofs.tree.Tree.add_member.Goals as goal

pub add-requires-clause-leads : goal.add-requires-clause-leads
add-requires-clause-leads c =
    let old = c.args.self.now in let mid = c.name_number.new.self in let parent = c.args.parent in
    let many : length (links_of mid) ≡ length (links_of old) = ap (λ l. length l.links.keys) c.name_number.ensures.links in
    record {
      within = omega (arith, many, c.requires.parent);
      known = c.in_ok-number.ensures.within;
      told = (refl, refl);
      apart = λ named. ap₂ has_path c.in_ok-number.ensures.grows.folds (path_stays old mid c.requires.tree c.in_ok-number.ensures.grows parent c.requires.parent) ∙ c.requires.plain;
    }

pub returns : goal.returns
returns c =
    let old = c.args.self.now in let mid = c.name_number.new.self in let new = c.add.new.self in let parent = c.args.parent in let points = chars (string_bytes c.args.name) in
    let path : path_at (tree_paths mid) parent ++ member (get_or (names_of mid) c.in_ok-number.number []) ∷ [] ≡ longer (tree_folds old) (path_at (tree_paths old) parent) (member points) =
    ap₂ (λ (p : Path) (x : List ℕ). p ++ member x ∷ []) (path_stays old mid c.requires.tree c.in_ok-number.ensures.grows parent c.requires.parent) c.in_ok-number.ensures.name
    ∙ sym (shown_plain (tree_folds old) (path_at (tree_paths old) parent) points c.requires.plain) in
    record {
      tree = c.add.ensures.tree;
      grows = on_ok_weaker c.add.result (λ (h : Grows mid new). grows_on old mid new c.in_ok-number.ensures.grows h) c.add.ensures.grows;
      place = subst (λ (p : Path). IfOk c.add.result (λ place. IsPlaceAt new place p)) path c.add.ensures.place;
      path = on_ok_weaker c.add.result
          (λ (h : WithPath (tree_paths mid) (path_at (tree_paths mid) parent ++ member (get_or (names_of mid) c.in_ok-number.number []) ∷ []) (tree_paths new)).
          with_after (tree_paths old) (tree_paths mid) (tree_paths new) _ c.in_ok-number.ensures.paths (subst (λ (p : Path). WithPath (tree_paths mid) p (tree_paths new)) path h))
          c.add.ensures.path;
    }
