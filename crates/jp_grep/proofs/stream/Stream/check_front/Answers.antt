-- The bytes go on as lines.
use Rattle.std.proofs.Common.{◌≡◌, ◌∙◌, ◌<◌, ◌&&◌, Bool, List, ℕ, true, false, drop, take, length, ltb, sym, ap, subst, refl, arith, ◌≤◌, inl, inr, take-append-drop}
use Rattle.std.specs.Prelude.{MatchBool}
use Rattle.std.proofs.lemmas.Bool.{ltb-true}
use Rattle.std.proofs.lemmas.List.{length-take-le}
use Rattle.jp_model.specs.declared.Framing.{Framing}
use Rattle.jp_model.specs.Lines.{is_blank}
use Rattle.jp_grep.specs.Cuts.{HasNoEnd}
use Rattle.jp_grep.specs.Formats.{begins_mark, format_of}
use Rattle.jp_grep.specs.Fronts.{IsUnframed, MayBeFramed, MayGoOn}
use Rattle.jp_grep.proofs.Fronted.{blank_may}
use Rattle.jp_grep.proofs.stream.Stream.check_front.Goals as goal
use Rattle.jp_grep.proofs.stream.Stream.check_front.Goals.{then-is_blank_behind, else-is_blank_behind, then-begins_mark, else-begins_mark}

both : (a b : Bool) → (a && b) ≡ true → (a ≡ true) × (b ≡ true)
both true b h = (refl, h)
both false b h = absurd (cc)

-- white space came after more bytes than the longest mark has
blank_behind : (framing : Framing) (from : ℕ) (held : List ℕ) → from ≤ length held → (ltb 10 from && is_blank (drop from held)) ≡ true → MayGoOn framing (take from held) → HasNoEnd framing (take from held) → MayBeFramed framing held
blank_behind framing from held within e may clear =
    let said = both (ltb 10 from) (is_blank (drop from held)) e in
    let long : 10 < length (take from held) = omega (arith, ltb-true 10 from said.0, length-take-le from held within) in
    subst (λ l. MayBeFramed framing l) (take-append-drop from held) (blank_may framing (take from held) (drop from held) long clear may said.1)

by_frame : (P Q : Type 0) (r : Bool) → MatchBool r P Q → r ≡ true → P
by_frame P Q true h e = h
by_frame P Q false h e = absurd (cc)

pub returns-then-goes_on : goal.returns-then-goes_on
returns-then-goes_on c = λ first.
    let framing = c.args.self.now.framing in
    let held = c.args.self.now.held.items in
    record {
      format = ap format_of (sym c.deref.ensures.value) ∙ sym c.format_of.ensures ∙ c.in_default.is;
      framed = elim c.if-begins_mark.branch [
        | then-begins_mark w ↦ elim c.if-is_blank_behind.branch [
          | then-is_blank_behind v ↦ inr (blank_behind framing c.args.from held c.requires.within (sym c.is_blank_behind.ensures ∙ v.if-is_blank_behind.true) (c.requires.before first) (c.requires.unended first))
          | else-is_blank_behind v ↦ inl (ap begins_mark (sym v.deref-else-is_blank_behind.ensures.value) ∙ sym v.begins_mark.ensures ∙ sym v.value-is ∙ w.if-begins_mark.true)
        ]
        | else-begins_mark w ↦
            let r = w.may_be_framed-goes_on.result in
            inr (by_frame (MayBeFramed framing held) (IsUnframed framing held) r
            (subst (λ (l : List ℕ). MatchBool r (MayBeFramed framing l) (IsUnframed framing l)) w.deref-else-begins_mark.ensures.value w.may_be_framed-goes_on.ensures) (sym w.goes_on-is ∙ c.if-goes_on.true))
      ];
    }
