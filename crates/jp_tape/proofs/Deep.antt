-- Where a container would nest too deep, so does the line if it is JSON.
use Rattle.std.proofs.Common.{ℕ, ◌+◌, ◌<◌, ◌≤◌, List, [], ◌∷◌, length, ap, arith, Option}
use Rattle.jp_model.specs.Json.Places.{Has}
use Rattle.jp_model.specs.Json.Tree.{Tree, node, container, Container, Children, no_child, child, Name, joined}
use Rattle.jp_model.specs.Json.Faults.{depth, greatest_depth}
use Rattle.jp_model.specs.Json.Spelling.{Text, opening}
use Rattle.jp_tape.specs.Machine.{Frame, Value_at, CompletesAfter, Leads}
use Rattle.jp_tape.proofs.Steps.{opened}

child_depth : (a : Children) (own : Option Name) (t : Tree) (more : Children) → depth t ≤ greatest_depth (joined a (child own t more))
child_depth no_child own t more = omega arith
child_depth (child o u rest) own t more = let h = child_depth rest own t more in omega (arith, h)

depth_after : (line : List ℕ) (frames : List Frame) (own : Option Name) (t : Tree) (at : ℕ) (whole : Tree) → CompletesAfter line frames own t at whole → length frames + depth t ≤ depth whole
depth_after line [] own t at whole h = let e = ap depth h.1 in omega (arith, e)
depth_after line (f ∷ frames) own t at whole h =
    let c = child_depth f.done own t h.0 in
    let d = depth_after line frames f.name (node (record { start = f.start; end = h.1 }) (container f.kind (joined f.done (child own t h.0)))) h.1 whole h.3 in
    omega (arith, c, d)

-- a bracket opens one container more than are open
pub deeper : (line : List ℕ) (kind : Container) (frames : List Frame) (own : Option Name) (at : ℕ) → Has line at (opening kind) → Leads line (Value_at frames own at) → (whole : Tree) → Text line whole → length frames < depth whole
deeper line kind frames own at b l whole t =
    let o = opened line kind at frames own whole b (l.forth whole t) in
    let d = depth_after line frames own (node (record { start = at; end = o.1 }) (container kind o.0)) o.1 whole o.3 in
    omega (arith, d)
