-- The first row that is kept goes where one more is to be kept than are wanted.
use Rattle.std.proofs.Common.{◌≡◌, ◌∙◌, ◌≤◌, ◌+◌, ℕ, List, ◌∷◌, ◌++◌, Global, Vec, ap₂, arith, false, length, sym}
use Rattle.std.proofs.lemmas.Grind.{common_steps}
use Rattle.std.proofs.lemmas.List.{length-map}
use Rattle.jp_context.specs.Steps.{kept_rows, text_from}
use Rattle.jp_context.specs.Told.{next_row}
use Rattle.jp_context.specs.declared.shown.Shown.{Shown}
use Rattle.jp_context.proofs.Kept.{first_gone, texts_of}
use Rattle.jp_context.proofs.state.Groups.make_room.Goals as goal

pub returns-clause-shows : goal.returns-clause-shows
returns-clause-shows c row more =
    let s = c.args.self.now in let coloured = s.layout.coloured in let before = s.layout.before in let after = s.layout.after in
    let rest = c.pop_front.new.self.items in
    let all : s.kept.items ≡ c.in-Some.row ∷ rest = c.in-Some.ensures.items in
    let many : before ≤ length rest + 1 = grind (arith, common_steps) in
    let same = length-map rest (λ (r : Vec ℕ Global). r.items) in
    ap₂ (λ (left : ℕ) (rows : List (Vec ℕ Global)). text_from coloured before after left s.shown (kept_rows (texts_of rows) ++ next_row false row ∷ more)) c.requires.left all
    ∙ (first_gone coloured before after s.shown c.in-Some.row.items (texts_of rest) row more (omega (arith, many, same))
    ∙ sym (ap₂ (λ (left : ℕ) (shown : Shown). text_from coloured before after left shown (kept_rows (texts_of rest) ++ next_row false row ∷ more)) c.requires.left c.parted-self.ensures))
