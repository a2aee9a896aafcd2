-- What comes of a line, a text or an element: it is answered, or given up for want of memory.
use Rattle.std.specs.Prelude.{◌≡◌, ℕ, List, [], ◌∷◌, ◌++◌, Some, count_by, ◌⊎◌}
use Rattle.jp_devices.specs.Devices.{Came}
use Rattle.jp_form.specs.declared.form.Form.{Form}
use Rattle.jp_grep.specs.Items.{Item, is_given_up, items_come}

-- an item that was given up after as many of its rows were written
abbrev pub give_up : ℕ → Item → Item
give_up count item = record { text = item.text; status = item.status; from_line = item.from_line; most = item.most; given_up = Some count }

-- what came of an item: itself, or that it was given up
abbrev pub CameOf : Item → Item → Type 0
CameOf item outcome = (outcome ≡ item) ⊎ ((count : ℕ) × (outcome ≡ give_up count item))

-- what came of each of some items
abbrev pub CameOfEach : List Item → List Item → Type 0
CameOfEach [] [] = Unit {0}
CameOfEach [] (outcome ∷ outcomes) = ⊥
CameOfEach (item ∷ items) [] = ⊥
CameOfEach (item ∷ items) (outcome ∷ outcomes) = CameOf item outcome × CameOfEach items outcomes

-- how many of them were given up
abbrev pub given_up_count : List Item → ℕ
given_up_count items = count_by is_given_up items

-- What came of the first items of a stream. Others may have come; nothing is said of them.
pub record CameOfStream (form : Form) (came : Came) (outcomes : List Item) : Type 0 where
  pub items : List Item
  pub others : List Item
  pub split : items_come form.units came.ended came.bytes ≡ items ++ others
  pub each : CameOfEach items outcomes
