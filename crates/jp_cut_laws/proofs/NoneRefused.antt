-- No piece of values is refused.
use Rattle.std.proofs.Common.{◌≡◌, ℕ, List, [], ◌∷◌, ◌++◌, map, ap, ◌∙◌}
use Rattle.std.specs.List.{AllByRecursion}
use Rattle.jp_model.specs.declared.Framing.TheVariants.{Lines}
use Rattle.jp_model.specs.Json.Reader.{status_of}
use Rattle.jp_model.specs.Json.Status.{parsed}
use Rattle.jp_model.specs.Json.Tree.{Tree}
use Rattle.jp_cut.specs.Cuts.{Piece, cut_of, all_of}
use Rattle.jp_cut.specs.Worked.{Cutting, closed, bytes_and_ends}
use Rattle.jp_cut.specs.declared.machine.Pieces.{Pieces}
use Rattle.jp_cut_laws.specs.Elements.{AreElements, last, next, IsInside, empty, filled}
use Rattle.jp_cut_laws.specs.Values.{IsTaken, AreValues, no_value, white, value, split}
use Rattle.jp_cut_laws.proofs.Streams.{values_are_pieces_of}

-- a line of these bytes is accepted
record IsAccepted (bytes : List ℕ) : Type 0 where
  tree : Tree
  accepted : status_of Lines bytes ≡ parsed tree

all_join : (first second : List (List ℕ)) → AllByRecursion IsAccepted first → AllByRecursion IsAccepted second → AllByRecursion IsAccepted (first ++ second)
all_join [] second h g = g
all_join (bytes ∷ rest) second h g = (h.0, all_join rest second h.1 g)

elements_accepted : {inside : List ℕ} {elements : List (List ℕ)} → AreElements inside elements → AllByRecursion IsAccepted elements
elements_accepted (last before bytes t blank is) = (record { tree = t; accepted = is.accepted }, tt)
elements_accepted (next before bytes rest t others blank is more) = (record { tree = t; accepted = is.accepted }, elements_accepted more)

inside_accepted : {inside : List ℕ} {elements : List (List ℕ)} → IsInside inside elements → AllByRecursion IsAccepted elements
inside_accepted (empty before blank) = tt
inside_accepted (filled inside elements h) = elements_accepted h

values_accepted : {pieces : Pieces} {stream : List ℕ} {values : List (List ℕ)} → AreValues pieces stream values → AllByRecursion IsAccepted values
values_accepted no_value = tt
values_accepted (white byte rest others w h) = values_accepted h
values_accepted (value bytes t rest others is whole follow h) = (record { tree = t; accepted = is.accepted }, values_accepted h)
values_accepted (split bytes elements rest others is array h) = all_join elements others (inside_accepted array.are) (values_accepted h)

taken_pieces : (ps : List Piece) (values : List (List ℕ)) → bytes_and_ends ps ≡ map closed values → AllByRecursion IsAccepted values → AllByRecursion IsTaken ps
taken_pieces [] values e h = tt
taken_pieces (p ∷ ps) [] e h = absurd (cc)
taken_pieces (p ∷ ps) (bytes ∷ rest) e h =
    let here : Cutting = record { bytes = p.bytes; is_closed = p.is_closed } in
    let first : here ≡ closed bytes = cc in
    let others : bytes_and_ends ps ≡ map closed rest = cc in
    (record { closed = ap (λ (c : Cutting). c.is_closed) first; tree = h.0.tree; accepted = ap (λ (c : Cutting). status_of Lines c.bytes) first ∙ h.0.accepted }, taken_pieces ps rest others h.1)

pub none_refused : (pieces : Pieces) (bytes : List ℕ) (values : List (List ℕ)) → AreValues pieces bytes values → AllByRecursion IsTaken (all_of (cut_of pieces bytes))
none_refused pieces bytes values h = taken_pieces (all_of (cut_of pieces bytes)) values (values_are_pieces_of pieces bytes values h) (values_accepted h)
