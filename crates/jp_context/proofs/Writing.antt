-- Texts that are written one after another.
use Rattle.std.proofs.Common.{◌≡◌, ℕ, List, ◌++◌, sym, subst, append_assoc, Err}
use Rattle.jp_devices.specs.Devices.{Begins}
use Rattle.jp_sink.specs.Texts.{WritesOn, written}
use Rattle.jp_sink.specs.declared.Untold.{Untold}
use Rattle.jp_sink.specs.declared.text.TextSink.{TextSink}
use Rattle.jp_sink.proofs.Texts.{begins_front, begins_more}

-- what begins a text
pub begins_with : (front rest text : List ℕ) → text ≡ front ++ rest → Begins front text
begins_with front rest text is = subst (λ (t : List ℕ). Begins front t) (sym is) (begins_front front rest)

-- and what begins its front
pub begins_longer : (part front rest text : List ℕ) → Begins part front → text ≡ front ++ rest → Begins part text
begins_longer part front rest text begins is = subst (λ (t : List ℕ). Begins part t) (sym is) (begins_more part front rest begins)

-- a text of which a beginning was not written whole
pub writes_less : {W : Type 0} (from to : TextSink W) (fault : Untold) (front rest : List ℕ) → WritesOn {A = Unit {0}} from to (Err fault) front → WritesOn {A = Unit {0}} from to (Err fault) (front ++ rest)
writes_less from to fault front rest h =
    (h.0, begins_longer to.out.taken (written from ++ front) rest (written from ++ (front ++ rest)) h.1 (sym (append_assoc (written from) front rest)))
