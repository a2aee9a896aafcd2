-- `of` takes a box apart, and its parts own what it owned.
use mathlib.Core.Path.{◌≡◌, refl, sym, subst, ap, ◌∙◌}
use mathlib.Core.List.{List, [], ◌∷◌, ◌++◌}
use seplogic.Ra.Ura.{Ura}
use mir.Syntax.{Fn, Args, Dict, a_type, dcons, dnil}
use mir.MapTy.{inst_fn}
use mir.Raw.{raw as bare}
use mir.Val.{Val, vstruct, of_list}
use base.Logic.{SProp, ent, id⊢, never, fst∗}
use base.Fml.{ftrue, fsep}
use prog.Memory.{Memory}
use prog.Routine.{Routine}
use prog.Wp.{WpFn, Tables}
use types.Logic.{Logic, sem}
use contract.Monad.{Fun, fact}
use contract.Running.{tables, tables_of}
use sound.WpLaws.{fm_of, WpFn-mono}
use types.Kit.{Item, ‵, raw, ◌⊛◌, some, later, ◌$◌, ◌∵◌, !, qed, by, move, drop, use1, join, split, split3, pick, rewrite, fsplit, fjoin, fpick, feq_l, suffices, await, done}
use types.Part.{whole, sub, agg}
use types.Run.{stop, fld, no_more, and_then, of_opd, returns, enter}
use types.ByLocal.{alloc_all, pass_all, free_all, look_at, get, get_in, sets, lands_as}
use denote.Exit.{no}
use denote.Param.{bounded}
use denote.RawPtr.{Ptr, RawPtr, block_ptr, null_ptr, ptr_val, in_a_block}
use denote.Signature.{plain}
use denote.Steps.{heard, nothing, only}
use denote.Struct.Tuple.{Tuple}
use denote.Triple.Call.{calls_at}
use denote.Triple.Clauses.{Ended, Clauses}
use denote.Triple.Spec.{triple_of}
use denote.Triple.Statement.{Triple, Contract}
use denote.Triple.Table.{entered}
use denote.Triple.Walked.{says, Stays, stay_dropped, walk_of, ends_at, walk_Meets}
use Rattle.core.proofs.alloc.Calls.{token, handle_tells, Goes-blank}
use Rattle.std_alloc.proofs.BoxSteps.Form.{Bx, D, τ, P, B, word, box_typed}
use Rattle.std_alloc.proofs.BoxSteps.Steps.{box_out, box_in}
use Rattle.jp_c.proofs.Boxes.{PartsRow, as_parts, Owned, tokens, lives}
use Rattle.std_alloc.specs.contracts.boxed.Box.into_raw_with_allocator as Ra
use Rattle.std_alloc.proofs.boxed.Box.into_raw_with_allocator.Symbol as raw_sym
use Rattle.std_alloc.proofs.boxed.Box.into_raw_with_allocator.Met as raw_met
use Rattle.jp_c.specs.contracts.parts.Parts.of as F
use Rattle.jp_c.specs.contracts.parts.Parts.of.Key.{name as #self}
use Rattle.jp_c.proofs.parts.Parts.of.Statement as stated
use Rattle.jp_c.proofs.parts.Parts.of.Code as code

module _ (E : Bx) (dx : Dict) where
  abbrev chosen : Args
  chosen = bounded (a_type ∷ a_type ∷ []) (E.row, (E.al.row, tt)) (dcons E.al.d (dcons E.al.drops (dcons dx dnil)))

  abbrev code_of : Fn
  code_of = inst_fn chosen code.function

  abbrev ended : Ended
  ended = F.ended E.row E.al.row E.al.g E.al.d E.al.drops dx

  abbrev stayed : Stays ended.signature.params ended.kept
  stayed = (stay_dropped (plain (λ _. B E)) no, tt)

  module _ {M : Type 1} {𝓤 : Ura M} (𝓛 : Logic 𝓤) (at_mem : Memory → SProp 𝓤) (run : Routine → Fun 𝓤) (𝓣 : Tables 𝓤 𝓛.H) where
    open 𝓛 use {H}

    abbrev clauses : Clauses 𝓤 ended
    clauses = F.clauses E.row E.al.row E.al.g E.al.d E.al.drops dx 𝓛 at_mem run

    abbrev Opens : Contract 𝓤
    Opens = triple_of 𝓛 (Ra.signature E.row E.al.row E.al.g E.al.d E.al.drops dx) (Ra.spec E.row E.al.row E.al.g E.al.d E.al.drops dx 𝓛 at_mem run)

    walk : Triple 𝓤 (𝓣.C (raw_sym.name chosen)) Opens → (z : (walk_of 𝓛 ended stayed clauses).Ghost)
        → ent 𝓤 ((walk_of 𝓛 ended stayed clauses).pre z) (WpFn 𝓤 H 𝓣.C 𝓣.Λ code_of (z.0.4.0 ++ []) ((walk_of 𝓛 ended stayed clauses).post z))
    walk opens z =
        let Post = (walk_of 𝓛 ended stayed clauses).post z in
        let given : D E = z.0.3.0 in
        let alive = tokens E 𝓤 z.0.0.0 z.0.0.1.0 z.0.1.0 z.0.1.1.0 in
        let long = lives E 𝓤 z.0.0.0 z.0.0.1.0 in
        qed 𝓛 ((alive ⊛ ‵ (fsep ((B E).own_val given z.0.4.0) ftrue)) ∷ long ∷ []) ∵ split ! $ move ! (1 ∷ []) $ fsplit ! $
        box_out E ! given z.0.4.0 (λ block offset handle of_block words fits. box_in E ! given block offset given.value of_block refl $
        let whole_word = word E handle block offset in
        let call : Opens.Ghost = ((z.0.0, z.0.1, tt, (given, tt), (whole_word ∷ [], tt)), tt) in
        let Γ : List (Item 𝓤) = ‵ ((B E).own_val given (whole_word ∷ [])) ∷ ‵ ftrue ∷ alive ∷ long ∷ [] in
        by ! (subst (λ (vs : List Val). ent 𝓤 (types.Kit.⋆ 𝓛 Γ) (WpFn 𝓤 H 𝓣.C 𝓣.Λ code_of (vs ++ []) Post)) (sym words)
        (qed 𝓛 Γ ∵ enter ! 𝓣.C 𝓣.Λ code_of (whole_word ∷ []) _ $ alloc_all ! (λ ls. pass_all ! refl (box_typed E handle block offset fits, tt) $
        sets ! (of_opd ! (get ! refl)) refl (box_typed E handle block offset fits) $
        -- the call takes the box apart
        fjoin ! $ move ! (1 ∷ 0 ∷ []) $ join ! $ join ! $ use1 𝓛 (raw (Opens.pre call)) (id⊢ 𝓤 _) $
        calls_at ! (fm_of 𝓤 H 𝓛.laws 𝓣) Opens opens call (and_then ! (get ! refl) (no_more !)) (λ pair_word.
        use1 𝓛 (later (some (λ (pair : Ptr × E.al.row.Denot). (alive ⊛ ‵ ((Tuple (RawPtr ∷ P E ∷ [])).own_val pair (pair_word ∷ []))) ⊛ some (λ (_ : (Unit {0} × (Unit {0} × Unit {0})) × Unit {0}). ‵ (fsep (fsep ftrue (fsep ftrue ftrue)) ftrue) ⊛ (raw (fact 𝓤 (pair.1 ≡ given.alloc)) ⊛ ‵ (Owned E given.alloc pair.0 given.value)))))) (id⊢ 𝓤 _) $
        await ! tt $ pick ! (λ pair. split ! $ move ! (1 ∷ []) $ pick ! (λ _. split3 ! $ drop ! $ heard ! (pair.1 ≡ given.alloc) (λ same.
        in_a_block ! pair.0 (λ at. Owned E given.alloc at given.value) (fst∗ 𝓤 (never 𝓤) (sem 𝓛 (token E.al given.alloc (bare (τ E)) null_ptr))) (λ block' offset' of_block'.
        -- and answers a pair of words: the pointer's and the allocator's
        move ! (1 ∷ []) $ split ! $ move ! (1 ∷ []) $ fpick ! (λ both. fsplit ! $ feq_l ! (λ pair_is. fsplit ! $ feq_l ! (λ pointer_is. fsplit ! $
        rewrite ! 0 (λ (alloc : E.al.row.Denot). ‵ (E.al.row.own_val alloc both.1.0)) same refl $ handle_tells E.al ! given.alloc both.1.0 (λ handle' handle_is fits'.
        let owner : D E = record { ptr = block_ptr block' offset'; alloc = given.alloc; value = given.value } in
        let made : (PartsRow E).Denot = as_parts E owner in
        let made_word = word E handle' block' offset' in
        lands_as ! (ap only (pair_is ∙ (λ j. vstruct (of_list ((pointer_is ∙ ap (λ (p : Ptr). ptr_val p ∷ []) of_block') j ++ (handle_is j ++ []))) ∷ []))) refl (box_typed E handle' block' offset' fits') $
        sets ! (of_opd ! (get_in ! (fld ! refl (stop !)) (sub ! 0 refl (whole !)))) refl (tt, tt) $
        sets ! (of_opd ! (get_in ! (fld ! refl (stop !)) (sub ! 1 refl (whole !)))) refl fits' $ sets ! (of_opd ! (get ! refl)) refl fits' $
        sets ! (agg ! (and_then ! (get ! refl) (and_then ! (get ! refl) (no_more !)))) refl (box_typed E handle' block' offset' fits') $ returns ! (look_at ! 0 refl) $ free_all ! refl $
        -- what the box owned, the parts own
        move ! (3 ∷ []) $ fsplit ! $ box_in E ! owner block' offset' given.value refl refl $ use1 𝓛 (‵ ((PartsRow E).own_val made (made_word ∷ []))) (id⊢ 𝓤 _) $ move ! (1 ∷ []) $ drop ! $
        suffices ! _ (ends_at 𝓛 ended stayed clauses z made_word made ((tt, (tt, tt)), tt) (tt, tt)) $ says ! refl $
        nothing ! $ nothing ! $ fjoin ! $ join ! $ move ! (1 ∷ 0 ∷ []) $ join ! $ done !)))))))))))))

pub of_spec : {M : Type 1} → stated.statement M
unfolding tables_of
of_spec 𝓤 𝓛 𝓜 𝓡 wired X Z LX LZ g d dd dx allocator drops glue =
    let E : Bx = record { row = X; laws = LX; al = record { row = Z; laws = LZ; g = g; d = d; drops = dd } } in
    let 𝓣 : Tables 𝓤 𝓛.H = tables_of 𝓤 𝓛.H 𝓜 (tables 𝓤 𝓛.H 𝓜 𝓡 𝓡.env) in
    let opens = raw_met.met 𝓤 𝓛 𝓜 𝓡 (code.calls-std_alloc::boxed::Box::into_raw_with_allocator 𝓡.env wired) X Z LX LZ g d dd dx allocator drops glue in
    entered 𝓤 𝓛.H (triple_of 𝓛 (ended E dx).signature (F.spec X Z g d dd dx 𝓛 𝓜.mem 𝓡.returns)) 𝓣.C 𝓣.Λ (#self (chosen E dx)) (code_of E dx) (code.unfolded 𝓤 𝓛.H 𝓜 𝓡 wired (X, (Z, tt)) d dd dx)
    (walk_Meets 𝓛 (ended E dx) (stayed E dx) (Goes-blank 𝓛 2 (plain (λ _. B E)) no (λ κs x f. tt), tt) (clauses E dx 𝓛 𝓜.mem 𝓡.returns 𝓣)
    (WpFn 𝓤 𝓛.H 𝓣.C 𝓣.Λ (code_of E dx)) (WpFn-mono 𝓤 𝓛.H 𝓛.laws 𝓣 (code_of E dx)) (walk E dx 𝓛 𝓜.mem 𝓡.returns 𝓣 opens))
