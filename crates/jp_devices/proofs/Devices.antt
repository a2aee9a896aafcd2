-- What a reader gave, where it went on, came to its end, or was not called.
use Rattle.std.proofs.Common.{◌≡◌, ◌∙◌, ℕ, List, [], ◌++◌, append_assoc, append-nil, Bool, true, false, ◌||◌, refl, sym, ap}
use Rattle.std.specs.Prelude.{Option}
use Rattle.std.specs.Io.KnownBytes.{Consumes, Keeps}
use Rattle.std.proofs.lemmas.Bool.{false≢true}
use Rattle.std.proofs.KnownBytes.{Appends-kept, Appends-nil, Appends-trans, Consumes-kept, Consumes-nil, Consumes-trans}
use Rattle.jp_devices.specs.Devices.{Device, Gave, HasEnded, Came, GaveUpTo, Received}

-- what passed of bytes, and then of more
passed_more : (a b c more others : List ℕ) → b ≡ a ++ more → c ≡ b ++ others → c ≡ a ++ (more ++ others)
passed_more a b c more others p q = q ∙ ap (λ l. l ++ others) p ∙ append_assoc a more others

module _ {R : Type 0} (remaining : R → Option (List ℕ)) where
  pub gave_none : (a b : Device R) → b.given ≡ a.given → Consumes (remaining a.device) (remaining b.device) [] → Gave remaining a b []
  gave_none a b e left = record { given = e ∙ sym (append-nil a.given); left = left }

  pub gave_more : (a b c : Device R) (more others : List ℕ) → Gave remaining a b more → Gave remaining b c others → Gave remaining a c (more ++ others)
  gave_more a b c more others p q = record {
    given = passed_more a.given b.given c.given more others p.given q.given;
    left = Consumes-trans (remaining a.device) (remaining b.device) (remaining c.device) more others p.left q.left;
  }

  -- a call that gave nothing
  pub gave_kept : (a b c : Device R) (bytes : List ℕ) → Gave remaining a b bytes → c.given ≡ b.given → Keeps (remaining b.device) (remaining c.device) → Gave remaining a c bytes
  gave_kept a b c bytes p e kept = record {
    given = e ∙ p.given;
    left = Consumes-kept (remaining a.device) (remaining b.device) (remaining c.device) bytes p.left kept;
  }

module _ {W : Type 0} (contents : W → Option (List ℕ)) where
  pub received_none : (w : Device W) → Received contents w w []
  received_none w = record { taken = sym (append-nil w.taken); held = Appends-nil (contents w.device) }

  pub received_more : (a b c : Device W) (more others : List ℕ) → Received contents a b more → Received contents b c others → Received contents a c (more ++ others)
  received_more a b c more others p q = record {
    taken = passed_more a.taken b.taken c.taken more others p.taken q.taken;
    held = Appends-trans (contents a.device) (contents b.device) (contents c.device) more others p.held q.held;
  }

  -- a call that took nothing
  pub received_kept : (a b c : Device W) (bytes : List ℕ) → Received contents a b bytes → c.taken ≡ b.taken → Keeps (contents b.device) (contents c.device) → Received contents a c bytes
  received_kept a b c bytes p e kept = record {
    taken = e ∙ p.taken;
    held = Appends-kept (contents a.device) (contents b.device) (contents c.device) bytes p.held kept;
  }

pub or_false : (b : Bool) → b ≡ (b || false)
or_false true = refl
or_false false = refl

pub or_true : (b : Bool) → true ≡ (b || true)
or_true true = refl
or_true false = refl

abbrev pub came_so : List ℕ → Bool → Bool → Came
came_so bytes ended failed = record { bytes = bytes; ended = ended; failed = failed }

-- a read came to the end
pub record CameToEnd {R : Type 0} (remaining : R → Option (List ℕ)) (s0 s1 : Device R) : Type 0 where
  pub worked : s0.failed ≡ false
  pub ended : s1.ended ≡ true
  pub nothing_left : HasEnded remaining s1

module _ {R : Type 0} (remaining : R → Option (List ℕ)) (s0 s1 : Device R) (bytes : List ℕ) (gave : Gave remaining s0 s1 bytes) where
  -- a reader that did not come to its end
  pub goes_on : s0.failed ≡ false → s1.ended ≡ s0.ended → GaveUpTo remaining s0 s1 (came_so bytes false s1.failed)
  goes_on worked going = (gave, going ∙ or_false s0.ended, ap (λ b. b || s1.failed) (sym worked), λ e. absurd (false≢true e))

  -- a reader that came to its end
  pub came_whole : CameToEnd remaining s0 s1 → GaveUpTo remaining s0 s1 (came_so bytes true s1.failed)
  came_whole end = (gave, end.ended ∙ or_true s0.ended, ap (λ b. b || s1.failed) (sym end.worked), λ e. end.nothing_left)

pub not_ended : (old new : Bool) → new ≡ (old || false) → new ≡ old
not_ended old new e = e ∙ sym (or_false old)

-- a reader of which no call was made
pub nothing_came : {R : Type 0} (remaining : R → Option (List ℕ)) (reader : Device R) → reader.failed ≡ false → GaveUpTo remaining reader reader (came_so [] false false)
nothing_came remaining reader worked = (gave_none remaining reader reader refl (Consumes-nil (remaining reader.device)), or_false reader.ended, or_false reader.failed, λ e. absurd (false≢true e))

pub was_ended : {R : Type 0} (remaining : R → Option (List ℕ)) (old new : Device R) → old.failed ≡ false → new.ended ≡ (old.ended || true) → HasEnded remaining new → CameToEnd remaining old new
was_ended remaining old new worked e left = record { worked = worked; ended = e ∙ sym (or_true old.ended); nothing_left = left }
