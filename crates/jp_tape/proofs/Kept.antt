-- The names that are kept.
use Rattle.std.proofs.Common.{◌≡◌, ℕ, ◌≤◌, true, false, List, length, sym, ◌∙◌, subst, arith}
use Rattle.jp_model.specs.declared.Span.{Span}
use Rattle.jp_model.specs.Json.Places.{Has, bytes_between}
use Rattle.jp_model.specs.Json.Strings.{SpellsBody, has_lone_surrogate}
use Rattle.jp_tape.specs.declared.builder.tokens.Label.{Label}
use Rattle.jp_tape.specs.Names.{IsKept}
use Rattle.jp_tape.specs.Reading.{FoundLabel}
use Rattle.jp_strings.specs.Plain.{ArePlain}
use Rattle.jp_strings.specs.Points.{is_text_from, points_of}
use Rattle.jp_tape.proofs.Bodies.{plain_between}
use Rattle.jp_strings.proofs.Slices.{text_of_slice, points_of_slice}
use Rattle.jp_strings.proofs.Texts.{text_of_body}

-- a name is spelled, and a quote is behind it
named : (line : List ℕ) (from : ℕ) (r : Label) (f : FoundLabel line from r) → SpellsBody line r.name.start r.name.end f.name.points × Has line r.name.end 0x22
named line from r f = subst (λ (s : Span). SpellsBody line s.start s.end f.name.points × Has line s.end 0x22) (sym f.is_body) (f.label.spelled.body, f.label.spelled.closes)

-- the body is a text, and what it spells is what the name says
pub kept_text : (line : List ℕ) (from : ℕ) (r : Label) (f : FoundLabel line from r) → r.is_lone ≡ false →
    (is_text_from (bytes_between line r.name.start r.name.end) 0 ≡ true) × (f.name.points ≡ points_of (bytes_between line r.name.start r.name.end))
kept_text line from r f l =
    let b = named line from r f in
    let i = b.1.inside in
    let lone : has_lone_surrogate f.name.points ≡ false = sym f.surrogate ∙ l in (
      text_of_body (bytes_between line r.name.start r.name.end) (text_of_slice line f.name.points r.name.start r.name.end (omega (arith, i)) b.0 lone),
      sym (points_of_slice line f.name.points r.name.start r.name.end (omega (arith, i)) b.0),
    )

-- what is kept of it
pub kept_name : (line : List ℕ) (from : ℕ) (r : Label) (f : FoundLabel line from r) → r.is_lone ≡ false → (r.is_plain ≡ true → ArePlain line r.name.start r.name.end) → IsKept line (record { body = r.name; is_plain = r.is_plain })
kept_name line from r f l p =
    let b = named line from r f in
    let order = b.0.order in
    let i = b.1.inside in
    let within : r.name.end ≤ length line = omega (arith, i) in
    record { order = order; within = within; text = (kept_text line from r f l).0; plain = λ t. plain_between line r.name.start r.name.end order within (p t) }
