-- What held tables tell for a check. Assumes nothing.
use Rattle.std.specs.Prelude.{Ok, Err}
use mathlib.Core.Path.{refl, sym, subst}
use mathlib.Core.List.{List}
use Prim.Native.Nat.{ℕ}
use lib.ListN.{length}
use Rattle.reading.specs.Tables.{label_entry_word}
use Rattle.handover.specs.Reading.{Reading, Tables, places, filled, ReadsFor, Reads, ReadsWords}
use Rattle.held.specs.Held.{Holds}
use Rattle.held.proofs.Fills.{refilled}
use Rattle.checking.specs.Checks.{Checks}

module _ (text : List ℕ) (h k : Tables ℕ) where
  -- whatever tables x of so many places are lent, they would be filled
  told : (r : Reading) (x : Tables ℕ) → ReadsFor label_entry_word (length x.tokens) (places x) text h k r → (y : Tables ℕ) × ReadsWords text x y r
  unfolding Reads
  told (Ok c) x a = (filled label_entry_word a.tokens a.reading a.nets x, refilled a refl)
  told (Err f) x a = (x, (a.0, refl))

pub checked : {room : ℕ} {ps text : List ℕ} {h : Tables ℕ} {r : Reading} → Holds room ps text h r → Checks room ps text r
checked {room} {ps} {text} {h} {r} w x e g =
    told text w.before h r x
    (subst (λ (n : ℕ). ReadsFor label_entry_word n (places x) text w.before h r) (sym e)
    (subst (λ (q : List ℕ). ReadsFor label_entry_word room q text w.before h r) (sym g) w.reads))
