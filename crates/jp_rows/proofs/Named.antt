-- The slice of a line in which the body of a member's name stands.
use Rattle.std.proofs.Common.{◌≡◌, ℕ, ◌<◌, ◌≤◌, false, List, length, sym, ap, subst, arith, Option, Some, None}
use Rattle.std.specs.Prelude.{IfSome, option_map}
use Rattle.jp_model.specs.declared.Span.{Span}
use Rattle.jp_model.specs.Steps.{name_step}
use Rattle.jp_model.specs.Json.Places.{bytes_between}
use Rattle.jp_model.specs.Json.Strings.{SpellsBody, has_lone_surrogate}
use Rattle.jp_model.specs.Json.Tree.{Name}
use Rattle.jp_model.specs.Meaning.Nodes.{step_to}
use Rattle.jp_strings.specs.Points.{IsText, points_of}
use Rattle.jp_strings.proofs.Slices.{text_of_slice, points_of_slice}

-- it is a text, and the step to the member goes by what it spells
pub record NamesStep (body : List ℕ) (name : Option Name) : Type 0 where
  pub text : IsText body
  pub step : (index : ℕ) → step_to index name ≡ name_step (points_of body)

pub names_step : (found line : List ℕ) (name : Option Name) (s : Span) → found ≡ line → Some s ≡ option_map (λ (n : Name). n.body) name → IfSome name (λ n. SpellsBody line n.body.start n.body.end n.points)
    → IfSome name (λ n. has_lone_surrogate n.points ≡ false) → s.end < length line → NamesStep (bytes_between found s.start s.end) name
names_step found line None s f e spells whole h = absurd (none_some e)
  where
    none_some : Some s ≡ None → ⊥
    none_some k = cc
names_step found line (Some n) s f e spells whole h =
    let is : s ≡ n.body = cc in
    let inside : n.body.end ≤ length line = let same = ap (λ (x : Span). x.end) is in omega (arith, h, same) in
    let own : NamesStep (bytes_between line n.body.start n.body.end) (Some n) = record {
      text = text_of_slice line n.points n.body.start n.body.end inside spells whole;
      step = λ index. ap name_step (sym (points_of_slice line n.points n.body.start n.body.end inside spells));
    } in
    subst (λ (x : List ℕ). NamesStep (bytes_between x s.start s.end) (Some n)) (sym f) (subst (λ (x : Span). NamesStep (bytes_between line x.start x.end) (Some n)) (sym is) own)
