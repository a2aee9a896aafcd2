-- The words and the number come after what was written.
use Rattle.std.proofs.Common.{◌≡◌, ◌∙◌, ◌++◌, codes, sym, ap, subst, append_assoc}
use Rattle.std.specs.Prelude.{decimal}
use Rattle.jp_devices.specs.Devices.{Writes}
use Rattle.jp_grep.specs.Rows.{from_line_text}
use Rattle.jp_grep.proofs.told.write_from_line.Goals as goal

pub returns : goal.returns
returns g c = (
  (λ start text w.
      let digits : c.as_bytes.result.now ≡ decimal c.in-Some.line = c.as_bytes.ensures.value ∙ c.format.ensures.text in
      subst (λ t. Writes g.E.Write.contents start c.then_write.new.messages c.then_write.result t)
      (append_assoc text (codes ", from line ") c.as_bytes.result.now ∙ ap (λ l. text ++ (codes ", from line " ++ l)) digits ∙ ap (λ o. text ++ from_line_text o) (sym c.in-Some.is))
      (c.then_write.ensures.0 start _ (c.then_write-written.ensures.0 start text w))),
  c.then_write.ensures.1,
  c.then_write.ensures.2 ∙ c.then_write-written.ensures.2,
)
