-- The parts of the message follow one another.
use Rattle.std.proofs.Common.{◌≡◌, ◌∙◌, ◌++◌, codes, ℕ, List, sym, ap, subst, append-nil, append_assoc}
use Rattle.std.specs.Prelude.{decimal}
use Rattle.jp_devices.specs.Devices.{Writes}
use Rattle.jp_model.specs.Rows.{line_feed}
use Rattle.jp_grep.specs.Rows.{from_line_text}
use Rattle.jp_grep.proofs.told.write_line_message.Goals as goal

-- parts one after another
joined : (a b c d s f g h : List ℕ) → ((((((a ++ b) ++ c) ++ d) ++ (c ++ s)) ++ f) ++ g) ++ h ≡ ((((a ++ (b ++ c)) ++ (d ++ c)) ++ s) ++ f) ++ (g ++ h)
joined a b c d s f g h =
    let x = (a ++ b) ++ c in
    append_assoc (((x ++ d) ++ (c ++ s)) ++ f) g h
    ∙ ap (λ l. (l ++ f) ++ (g ++ h)) (sym (append_assoc (x ++ d) c s) ∙ ap (λ l. l ++ s) (append_assoc x d c) ∙ ap (λ l. (l ++ (d ++ c)) ++ s) (append_assoc a b c))

pub returns-clause-text : goal.returns-clause-text
returns-clause-text g c =
    let start = c.args.messages.now in
    let name : c.as_bytes.result.now ≡ c.args.name.now = c.as_bytes.ensures.value in
    let digits : c.as_bytes-2.result.now ≡ decimal c.args.number = c.as_bytes-2.ensures.value ∙ c.format.ensures.text in
    let said : c.as_bytes-3.result.now ≡ c.args.said.now = c.as_bytes-3.ensures.value in
    let parts : List ℕ → List ℕ → List ℕ → List ℕ = λ b d f. ((((((codes "jpgrep: " ++ b) ++ codes ":") ++ d) ++ (codes ":" ++ codes " ")) ++ f) ++ from_line_text c.args.from_line) ++ line_feed in (
      subst (λ t. Writes g.E.Write.contents start c.then_flush.new.messages c.then_flush.result t)
          (append-nil (parts c.as_bytes.result.now c.as_bytes-2.result.now c.as_bytes-3.result.now) ∙ ap (λ b. parts b c.as_bytes-2.result.now c.as_bytes-3.result.now) name ∙ ap (λ d. parts c.args.name.now d c.as_bytes-3.result.now) digits ∙ ap (parts c.args.name.now (decimal c.args.number)) said
          ∙ joined (codes "jpgrep: ") c.args.name.now (codes ":") (decimal c.args.number) (codes " ") c.args.said.now (from_line_text c.args.from_line) line_feed)
          (c.then_flush.ensures.text.0 start _ (c.then_write-written-6.ensures.0 start _ (c.write_from_line-written.ensures.0 start _ (c.then_write-written-5.ensures.0 start _ (c.then_write-written-4.ensures.0 start _
          (c.then_write-written-3.ensures.0 start _ (c.then_write-written-2.ensures.0 start _ (c.then_write-written.ensures.0 start _ c.write_whole-written.ensures.text)))))))),
      c.then_flush.ensures.text.1,
      c.then_flush.ensures.text.2 ∙ c.then_write-written-6.ensures.2 ∙ c.write_from_line-written.ensures.2 ∙ c.then_write-written-5.ensures.2 ∙ c.then_write-written-4.ensures.2 ∙ c.then_write-written-3.ensures.2 ∙ c.then_write-written-2.ensures.2 ∙ c.then_write-written.ensures.2 ∙ c.write_whole-written.ensures.after,
    )
