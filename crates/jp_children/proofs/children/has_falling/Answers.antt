-- A child with a name is no element.
use Rattle.std.proofs.Common.{◌≡◌, ◌∙◌, ℕ, ℤ, pos, List, Bool, false, rules, Option, Some, None, refl, sym, ap}
use Rattle.std.specs.Prelude.{option_map}
use Rattle.std.specs.Option.{is_some}
use Rattle.jp_model.specs.Json.Tree.{Name}
use Rattle.jp_model.specs.Meaning.Nodes.{step_to}
use Rattle.jp_model.specs.Meaning.Slices.{is_index, downward}
use Rattle.jp_nodes.specs.Cursors.{name_of}
use Rattle.jp_children.proofs.children.has_falling.Goals as goal

nameless : (f : ℤ → Bool) (index : ℕ) (name : Option Name) → is_some (option_map (λ (n : Name). n.points) name) ≡ false → f (pos index) ≡ is_index f (step_to index name)
nameless f index None h = refl
nameless f index (Some n) h = absurd (cc)

some_mapped : {A : Type 0} (f : A → List ℕ) (o : Option A) → is_some (option_map f o) ≡ is_some o
some_mapped f None = refl
some_mapped f (Some a) = refl

pub returns-then-is_none : goal.returns-then-is_none
returns-then-is_none c =
    let none : is_some c.name.result ≡ false = c.if-is_none.ensures in
    let slice = c.args.slice in
    let found : c.has_downward.result ≡ downward c.args.count slice.first slice.last slice.step (pos c.args.index) = search rules in
    found ∙ nameless (downward c.args.count slice.first slice.last slice.step) c.args.index (name_of c.args.child) (ap is_some (sym c.name.ensures.points) ∙ (some_mapped _ c.name.result ∙ none))
