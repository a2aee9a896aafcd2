-- The place of a node that is looked for.
use Rattle.std.proofs.Common.{◌≡◌, ◌∙◌, ℕ, List, [], ◌∷◌, ◌++◌, get_or, true, false, ap, ap₂, refl, sym}
use Rattle.std.specs.Prelude.{IfSome, Option, Some, None, String, chars, position, slice_get, string_bytes}
use Rattle.std.specs.Borrow.{Bor}
use Rattle.std.specs.Option.{option_map}
use Rattle.std.proofs.lemmas.List.{get_or-map}
use Rattle.std.proofs.lemmas.Option.{get_or_from_slice_get, same_Some, slice_get-get_or, slice_get_within}
use Rattle.std.proofs.lemmas.Slice.Eq.{bytes_eq-Decides}
use Rattle.jp_model.specs.Characters.{text_equal}
use Rattle.jp_model.specs.Json.Tree.{Name}
use Rattle.jp_model.specs.Meaning.Nodes.{step_to}
use Rattle.jp_nodes.specs.Cursors.{index_of, name_of}
use Rattle.jp_nodes.specs.declared.cursor.Cursor.{Cursor}
use Rattle.jp_strings.specs.Points.{points_of}
use Rattle.jp_survey.specs.Foldings.{longer}
use Rattle.jp_survey.specs.Paths.{element, member, stride_of}
use Rattle.jp_survey.specs.Places.{has_path, is_named, is_start, link_at, link_equal, names_in, path_at, root_link, stride_in}
use Rattle.jp_survey.specs.Trees.{IsPlaceAt, IsTree, links_of, names_of, stride_to, tree_folds, tree_paths}
use Rattle.jp_survey.specs.declared.links.Link.{Link}
use Rattle.jp_survey.specs.declared.links.Step.TheVariants as steps
use Rattle.jp_survey.specs.declared.tree.Tree.{Tree}
use Rattle.jp_survey.proofs.Folded.{shown_folded, shown_plain}
use Rattle.jp_survey.proofs.Names.{is_folded_at, link_found, path_of_link}

module _ (tree : Tree) (h : IsTree tree) (guess parent : ℕ) where
  -- a link at a place
  module _ (link : Link) (there : slice_get (links_of tree) guess ≡ Some link) (above : link.parent ≡ parent) where
    at_link : link_at (links_of tree) guess ≡ link
    at_link = get_or_from_slice_get (links_of tree) guess link root_link there

    place_of_link : is_start link.step ≡ false → IsPlaceAt tree guess (path_at (tree_paths tree) parent ++ stride_in (names_of tree) link.step ∷ [])
    place_of_link told = (
      slice_get_within (links_of tree) guess link there,
      path_of_link (names_of tree) (links_of tree) h.places guess link (slice_get_within (links_of tree) guess link there) at_link told
          ∙ ap (λ (p : ℕ). path_at (tree_paths tree) p ++ stride_in (names_of tree) link.step ∷ []) above,
    )

    pub guessed_element : link.step ≡ steps.Element → IsPlaceAt tree guess (longer (tree_folds tree) (path_at (tree_paths tree) parent) element)
    guessed_element is =
        let at = place_of_link (ap is_start is) in
        (at.0, at.1 ∙ ap (λ s. path_at (tree_paths tree) parent ++ stride_in (names_of tree) s ∷ []) is)

    pub guessed_others : link.step ≡ steps.Others → (x : List ℕ) → IsPlaceAt tree guess (longer (tree_folds tree) (path_at (tree_paths tree) parent) (member x))
    guessed_others is x =
        let at = place_of_link (ap is_start is) in
        let folded = is_folded_at (names_of tree) (links_of tree) h.places guess parent (slice_get_within (links_of tree) guess link there)
        (at_link ∙ ap₂ (λ (p : ℕ) s. record { parent = p; step = s }) above is) in (
          at.0,
          at.1 ∙ (ap (λ s. path_at (tree_paths tree) parent ++ stride_in (names_of tree) s ∷ []) is
              ∙ sym (shown_folded (tree_folds tree) (path_at (tree_paths tree) parent) x folded)),
        )

    pub guessed_member : (n : ℕ) → link.step ≡ steps.Member n → (x : List ℕ) → get_or (names_of tree) n [] ≡ x
        → IsPlaceAt tree guess (longer (tree_folds tree) (path_at (tree_paths tree) parent) (member x))
    guessed_member n is x named =
        let at = place_of_link (ap is_start is) in
        let l = slice_get_within (links_of tree) guess link there in
        let plain = h.apart guess l (ap (λ (k : Link). is_named k.step) at_link ∙ ap is_named is) in
        let apart : has_path (tree_folds tree) (path_at (tree_paths tree) parent) ≡ false =
        ap (λ (p : ℕ). has_path (tree_folds tree) (path_at (tree_paths tree) p)) (sym above ∙ sym (ap (λ (k : Link). k.parent) at_link)) ∙ plain in (
          at.0,
          at.1 ∙ (ap (λ s. path_at (tree_paths tree) parent ++ stride_in (names_of tree) s ∷ []) is
              ∙ (ap (λ (t : List ℕ). path_at (tree_paths tree) parent ++ member t ∷ []) named
              ∙ sym (shown_plain (tree_folds tree) (path_at (tree_paths tree) parent) x apart))),
        )

  -- a place that is found
  pub found_others : position (link_equal (record { parent = parent; step = steps.Others })) (links_of tree) ≡ Some guess → (x : List ℕ)
      → IsPlaceAt tree guess (longer (tree_folds tree) (path_at (tree_paths tree) parent) (member x))
  found_others e x =
      let found = link_found (links_of tree) (record { parent = parent; step = steps.Others }) guess e in
      guessed_others (record { parent = parent; step = steps.Others }) (slice_get-get_or (links_of tree) guess root_link found.0 ∙ ap Some found.1) refl refl x

-- or is not
pub others_found : (tree : Tree) → IsTree tree → (parent : ℕ) (r : Option ℕ) → r ≡ position (link_equal (record { parent = parent; step = steps.Others })) (links_of tree)
    → IfSome r (λ place. (x : List ℕ) → IsPlaceAt tree place (longer (tree_folds tree) (path_at (tree_paths tree) parent) (member x)))
others_found tree h parent None e = tt
others_found tree h parent (Some guess) e = λ x. found_others tree h guess parent (sym e) x

-- the name at a number
pub name_is : {A : Type 0} (keys : List (String A)) (n : ℕ) (name : String A) (points : List ℕ) → slice_get keys n ≡ Some name → text_equal (chars (string_bytes name)) points ≡ true
    → get_or (names_in keys) n [] ≡ points
name_is {A} keys n name points there same =
    get_or-map (λ (name : String A). chars (string_bytes name)) keys n name [] (slice_get_within keys n name there)
    ∙ (ap (λ (name : String A). chars (string_bytes name)) (get_or_from_slice_get keys n name name there) ∙ (bytes_eq-Decides (chars (string_bytes name)) points).0 same)

-- the stride to a node, by its name
stride_none : (index : ℕ) (name : Option Name) → None ≡ option_map (λ (n : Name). n.points) name → stride_of (step_to index name) ≡ element
stride_none index None e = refl
stride_none index (Some n) e = absurd (cc)

stride_some : (index : ℕ) (name : Option Name) (x : List ℕ) → Some x ≡ option_map (λ (n : Name). n.points) name → stride_of (step_to index name) ≡ member x
stride_some index None x e = absurd (cc)
stride_some index (Some n) x e = ap member (sym (same_Some x n.points e))

module _ (child : Cursor) (r : Option (Bor (List ℕ))) (e : option_map (λ (body : Bor (List ℕ)). points_of body.now) r ≡ option_map (λ (n : Name). n.points) (name_of child)) where
  pub to_element : r ≡ None → stride_to child ≡ element
  to_element is = stride_none (index_of child) (name_of child) (ap (option_map (λ (body : Bor (List ℕ)). points_of body.now)) (sym is) ∙ e)

  pub to_member : (body : Bor (List ℕ)) → r ≡ Some body → stride_to child ≡ member (points_of body.now)
  to_member body is = stride_some (index_of child) (name_of child) (points_of body.now) (ap (option_map (λ (body : Bor (List ℕ)). points_of body.now)) (sym is) ∙ e)
