-- The top level's net in held tables, and the three answers of the example. Assumes nothing.
use Rattle.std.specs.Prelude.{Ok, Err}
use mathlib.Core.Path.{◌≡◌, refl, sym, ap, subst, ◌∙◌}
use mathlib.Core.Bool.{Bool, true, false}
use mathlib.Core.Logic.{inl, inr}
use mathlib.Core.List.{List, [], ◌∷◌}
use Prim.Native.Nat.{ℕ, ◌<◌}
use native.Mathlib.Nat.{not-suc-le-zero}
use native.Mathlib.Omega.{arith}
use lib.ListN.{length, get_or}
use Rattle.answers.specs.declared.Refusal.{Refusal}
use Rattle.answers.specs.declared.Refusal.TheVariants as F
use Rattle.grammar.specs.Nets.{Net}
use Rattle.grammar.specs.Reading as G
use Rattle.grammar.specs.Reading.{reading_of}
use Rattle.entries.specs.declared.Level.{Level}
use Rattle.entries.specs.Entries.{level_of, level_in}
use Rattle.reading.specs.Tables.{level_entries, label_entry_word}
use Rattle.handover.specs.declared.Counts.{Counts}
use Rattle.handover.specs.Reading.{Reading, Tables, places, Accepts}
use Rattle.as2_pcode.proofs.Handed.{read, nets-long}
use Rattle.as2_pcode.proofs.Theorems.{levels-handed}
use Rattle.held.specs.Held.{Holds, handed}
use Rattle.held.proofs.Hand.{held-read, held-refused, hands}
use Rattle.held_test.specs.Determined.{is_undetermined, top_net, ReadsDetermined}

-- ---- the top level

first-net : (ls : List G.Level) (ns : List Net) (d : Level) → 0 < length ls → length ns ≡ length ls → (get_or (level_entries ls ns) 0 d).net ≡ top_net ns
first-net [] ns d h e = absurd (not-suc-le-zero h)
first-net (l ∷ ls) [] d h e = absurd (omega (arith, e))
first-net (l ∷ ls) (n ∷ ns) d h e = refl

module _ {room : ℕ} {ps text : List ℕ} {x y : Tables ℕ} {c : Counts} (a : Accepts label_entry_word room ps text x y c) where
  some_level : 0 < length a.reading.levels
  unfolding reading_of
  some_level = subst (λ (q : G.Reading). 0 < length q.levels) (read a).told (omega arith)

  top-net : is_undetermined (level_in y.levels 0).net ≡ is_undetermined (top_net a.nets)
  top-net =
      ap (λ (l : Level). is_undetermined l.net) (levels-handed a 0 (omega (arith, some_level, ap (λ (k : Counts). k.levels) a.counts)) (level_of 0 0))
      ∙ ap is_undetermined (first-net a.reading.levels a.nets (level_of 0 0) some_level (nets-long a))

-- ---- the answers

module _ (text : List ℕ) (h x : Tables ℕ) (r : Reading) (w : Holds (length x.tokens) (places x) text h r) where
  pub refused : (f : Refusal) → r ≡ Err f → ReadsDetermined text x x (Err f)
  unfolding ReadsDetermined
  refused f e = (inl (held-refused w e), refl)

  module _ (c : Counts) (e : r ≡ Ok c) (k : Bool) (t : k ≡ is_undetermined (level_in h.levels 0).net) where
    pub undetermined : k ≡ true → ReadsDetermined text x x (Err F.Undetermined)
    unfolding ReadsDetermined
    undetermined f =
        let a = held-read w e in
        (inr (refl, record { tables = handed c h x; counts = c; accepts = hands text w.before h x c a (handed c h x) refl; net = sym (top-net a) ∙ sym t ∙ f }), refl)

    pub determined : k ≡ false → (y : Tables ℕ) → y ≡ handed c h x → ReadsDetermined text x y (Ok c)
    unfolding ReadsDetermined
    determined f y g = let a = held-read w e in (hands text w.before h x c a y g, sym (top-net a) ∙ sym t ∙ f)
