-- A step of the walks of `src/passed.rt`: the struct has no field that is stored. Assumes `Logic`.
use Rattle.std.proofs.Common.{List, [], ◌∷◌, refl}
use seplogic.Ra.Ura.{Ura}
use mir.Val.{Val, vstruct, vnil}
use types.Logic.{Logic}
use types.Kit.{Goal, Step, step, Item, ‵, ◌$◌, fjoin, fpack, feq_i}
use denote.RattleType.{RattleType, Valss}
use denote.Steps.{nothing}
use denote.Struct.Struct.{Struct, within}

abbrev stored_none : Val
stored_none = vstruct vnil

abbrev fieldless : RattleType
fieldless = Struct (record { name = []; args = []; types = []; fields = [] })

-- a value with no field owns nothing
pub owns_none : {M : Type 1} {𝓤 : Ura M} {𝓛 : Logic 𝓤} {K : Type 0} {Γ : List (Item 𝓤)} {G : Goal 𝓤 𝓛.H} → K → Step K 𝓛 (‵ (fieldless.own_val tt (stored_none ∷ [])) ∷ Γ) G Γ G
owns_none t = step (λ s.
    nothing t $ feq_i t (List Val) (stored_none ∷ []) (stored_none ∷ []) refl $ fjoin t $
    fpack t (Valss []) (within (record { name = []; args = []; types = []; fields = [] }) tt (stored_none ∷ [])) tt $ s)
