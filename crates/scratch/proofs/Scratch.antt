-- What parsing left in scratch. Assumes nothing.
use mathlib.Core.Path.{◌≡◌, sym}
use mathlib.Core.List.{List}
use Prim.Native.Nat.{ℕ, ◌≤◌}
use lib.ListN.{length, take}
use lib.Seq.{length-take-le}
use Rattle.std.specs.Prelude.{Ok, Err}
use Rattle.answers.specs.Answers.{refusal}
use Rattle.answers.specs.declared.Refusal.{Refusal}
use Rattle.grammar.specs.Refusals.{Answers}
use Rattle.reading.specs.declared.Parsed.{Parsed}
use Rattle.reading.specs.Told.{Parses, Logged}

module _ (text z l : List ℕ) (room : ℕ) where
  -- the tokens and the log of a text that has a reading
  pub parsed : (p : Parsed) → Parses text room z l (Ok p) → Logged text room (take p.tokens z) (take p.events l) × ((p.tokens ≤ length z) × (p.events ≤ length l))
  unfolding Parses
  parsed p h = h

  -- a refusal, whatever the other tables
  pub refused : (r : Refusal) → Parses text room z l (Err r) → (places : List ℕ) → Answers room places text (refusal r)
  unfolding Parses
  refused r h = h

  pub words_long : (p : Parsed) → Parses text room z l (Ok p) → p.tokens ≡ length (take p.tokens z)
  words_long p h = sym (length-take-le p.tokens z (parsed p h).1.0)

  pub events-long : (p : Parsed) → Parses text room z l (Ok p) → p.events ≡ length (take p.events l)
  events-long p h = sym (length-take-le p.events l (parsed p h).1.1)
