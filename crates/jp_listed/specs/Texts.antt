-- The texts of a set.
use Rattle.std.specs.Prelude.{ℕ, List}
use Rattle.jp_listed.specs.Slots.{texts_at}
use Rattle.jp_listed.specs.declared.texts.Texts.{Texts}

-- the texts of a set, in the order of its slots
abbrev pub texts_of : Texts → List (List ℕ)
texts_of texts = texts_at texts.bytes.items texts.slots.items
