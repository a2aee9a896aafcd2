use Rattle.std.proofs.Common.{◌∙◌, sym}
use Rattle.jp_types.proofs.KnownWords.{length_is, count_is, value_is, match_is, search_is, none_is}
use Rattle.jp_types.proofs.signature.signature_of.Goals as goal
use Rattle.jp_types.proofs.signature.signature_of.Goals.{then-eq-2-via-then-eq-2, then-eq-2-via-else-eq-2+then-eq-3, then-eq-4-via-then-eq-4, then-eq-4-via-else-eq-4+then-eq-5}

pub returns-then-eq : goal.returns-then-eq
returns-then-eq c = length_is c.args.name.now c.utf8.name (sym c.eq.ensures ∙ c.if-eq.true)

pub returns-then-eq-2 : goal.returns-then-eq-2
returns-then-eq-2 c =
    let name = c.args.name.now in
    let length = sym c.eq.ensures ∙ c.if-eq.false in
    elim c.then-eq-2.branch [
      | then-eq-2-via-then-eq-2 w ↦ count_is name c.utf8.name length (sym c.eq-2.ensures ∙ w.if-eq-2.true)
      | then-eq-2-via-else-eq-2+then-eq-3 w ↦ value_is name c.utf8.name length (sym c.eq-2.ensures ∙ w.if-eq-2.false) (sym w.eq-else-eq-2.ensures ∙ w.if-eq-3.true)
    ]

pub returns-then-eq-4 : goal.returns-then-eq-4
returns-then-eq-4 c =
    let name = c.args.name.now in
    let length = sym c.eq.ensures ∙ c.if-eq.false in
    let count = sym c.eq-2.ensures ∙ c.if-eq-2.false in
    let value = sym c.eq-else-eq-2.ensures ∙ c.if-eq-3.false in
    elim c.then-eq-4.branch [
      | then-eq-4-via-then-eq-4 w ↦ match_is name c.utf8.name length count value (sym c.eq-3.ensures ∙ w.if-eq-4.true)
      | then-eq-4-via-else-eq-4+then-eq-5 w ↦ search_is name c.utf8.name length count value (sym c.eq-3.ensures ∙ w.if-eq-4.false) (sym w.eq-else-eq-4.ensures ∙ w.if-eq-5.true)
    ]

pub returns : goal.returns
returns c = none_is c.args.name.now c.utf8.name (sym c.eq.ensures ∙ c.if-eq.false) (sym c.eq-2.ensures ∙ c.if-eq-2.false) (sym c.eq-else-eq-2.ensures ∙ c.if-eq-3.false) (sym c.eq-3.ensures ∙ c.if-eq-4.false) (sym c.eq-else-eq-4.ensures ∙ c.if-eq-5.false)
