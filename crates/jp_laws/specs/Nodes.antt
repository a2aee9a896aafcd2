-- What the laws of nodes say of lists of them.
use Rattle.std.specs.Prelude.{◌≢◌, List, [], ◌∷◌}
use Rattle.jp_model.specs.Steps.{Step}
use Rattle.jp_model.specs.Meaning.Nodes.{Node, children}
use Rattle.jp_model.specs.Query.Syntax.{Segments, no_segments, segment, descendant_segment, wildcard_selector, no_selectors, selector}

-- a node is among some nodes
pub data IsAmong (n : Node) : List Node → Type 0 where
  first_of : {ns : List Node} → IsAmong n (n ∷ ns)
  later_of : {m : Node} {ns : List Node} → IsAmong n ns → IsAmong n (m ∷ ns)

-- a node is another node or is below it (RFC 9535, section 1.1)
pub data IsWithin (n : Node) : Node → Type 0 where
  itself : IsWithin n n
  child_of_one : {m c : Node} → IsWithin n m → IsAmong c (children m) → IsWithin n c

-- none of some nodes is at this location
abbrev pub IsElsewhere : List Step → List Node → Type 0
IsElsewhere location [] = Unit {0}
IsElsewhere location (n ∷ ns) = (location ≢ n.location) × IsElsewhere location ns

-- no two of some nodes are at one location
abbrev pub AreApart : List Node → Type 0
AreApart [] = Unit {0}
AreApart (n ∷ ns) = IsElsewhere n.location ns × AreApart ns

-- the query `$..*`
abbrev pub all_descendants : Segments
all_descendants = segment (descendant_segment (selector wildcard_selector no_selectors)) no_segments
