-- Which lines of the bytes that came are answered, and what is held of the others.
use Rattle.std.specs.Prelude.{◌≡◌, ℕ, List, [], ◌++◌, Bool, true, false}
use Rattle.jp_model.specs.declared.Framing.{Framing}
use Rattle.jp_model.specs.Lines.{without_byte_order_mark}
use Rattle.jp_masks.specs.Found.{lines_in}
use Rattle.jp_grep.specs.Cuts.{HasNoEnd}
use Rattle.jp_grep.specs.Fronts.{IsOfLines, MayGoOn}
use Rattle.jp_grep.specs.Streams.{closed_in}

-- a byte order mark in front of a text is in front of the same text with more after it
abbrev pub GoesOn : List ℕ → List ℕ → Type 0
GoesOn text more = without_byte_order_mark (text ++ more) ≡ without_byte_order_mark text ++ more

-- No line is answered: the bytes that came are held, and no line ends in them.
pub record IsAtFront (framing : Framing) (came held : List ℕ) (answered : List (List ℕ)) : Type 0 where
  pub same : held ≡ came
  pub none : answered ≡ []
  pub unended : HasNoEnd framing came
  pub front : MayGoOn framing came

-- All lines that end in the bytes that came are answered. Whatever follows, the other lines are those of what is held and of
-- that.
pub record IsBehind (framing : Framing) (came held : List ℕ) (answered : List (List ℕ)) : Type 0 where
  pub mark : (more : List ℕ) → GoesOn came more
  pub rest : (more : List ℕ) → lines_in framing (without_byte_order_mark came ++ more) ≡ answered ++ lines_in framing (held ++ more)
  pub closed : closed_in framing (without_byte_order_mark came) ≡ answered
  pub front : (more : List ℕ) → IsOfLines framing (came ++ more)

-- the one or the other
abbrev pub IsAt : Framing → List ℕ → List ℕ → List (List ℕ) → Bool → Type 0
IsAt framing came held answered true = IsAtFront framing came held answered
IsAt framing came held answered false = IsBehind framing came held answered
