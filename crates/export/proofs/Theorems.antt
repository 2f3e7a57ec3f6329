-- THE THEOREMS about export. `Exports`, the contract, and `Asked` are defined in export/specs, `exported`, the bytes or the answer that
-- refuses them, in action_records/specs/Export. They assume nothing.
use Rattle.std.specs.Prelude.{Ok, Err}
use mathlib.Core.Path.{◌≡◌, refl, ap, subst}
use mathlib.Core.List.{List}
use Prim.Native.Nat.{ℕ, ◌*◌, ◌≤◌}
use native.Mathlib.Omega.{arith}
use lib.ListN.{length}
use Rattle.answers.specs.Answers.{Answer, refused, refusal}
use Rattle.answers.specs.declared.Refusal.{Refusal}
use Rattle.tokens.specs.declared.Token.{Token}
use Rattle.lexemes.specs.Lexemes.{numbered}
use Rattle.grammar.specs.Grammar.{Items}
use Rattle.grammar.specs.Reading.{Has}
use Rattle.grammar.specs.Reading as G
use Rattle.grammar.proofs.Texts.{unlike, same-accepted}
use Rattle.grammar.proofs.Theorems.{one_answer}
use Rattle.grammar.proofs.Unique.{one_told}
use Rattle.handover.specs.Reading.{Tables, places, Reads, ReadsWords}
use Rattle.action_records.specs.declared.Style.{Style}
use Rattle.action_records.specs.Export.{exported}
use Rattle.export.specs.Asked.{Asked, unread}
use Rattle.export.specs.Asked as A
use Rattle.export.specs.Export.{Exports}
use Rattle.export.specs.declared.Exported.{Exported}
use Rattle.pieces.proofs.Length as Length
use Rattle.export.proofs.Accepted.{tree_of, bytes_of}

same-refused : {B : Type 0} {n p m o : ℕ} → ◌≡◌ {A = Answer G.Reading} (refused n p) (refused m o) → ◌≡◌ {A = Answer B} (refused n p) (refused m o)
same-refused {n = n} {p = p} {m = m} {o = o} e = let a : n ≡ m = cc in let b : p ≡ o = cc in cc

-- one text, one answer
module _ {B L : Type 0} (f : Items → Answer B) (x : Tables L) (text : List ℕ) where
  abbrev room : ℕ
  room = length x.tokens

  pub one : {a b : Answer B} → Asked f x text a → Asked f x text b → a ≡ b
  one (unread p) (unread q) = same-refused (one_answer room (places x) text p q)
  one (unread p) (A.read g q k) = unlike refl (one_answer room (places x) text q p)
  one (A.read e p h) (unread q) = unlike refl (one_answer room (places x) text p q)
  one {a = a} {b = b} (A.read e p h) (A.read g q k) =
      one_told h (subst (λ (l : List Token). Has f (numbered 0 text l) b) (same-accepted g e) k)

-- the tables x have become y, and the output o has become o'
module _ (style : Style) (text : List ℕ) (x y : Tables ℕ) (o o' : List ℕ) where
  -- what reading refuses is refused alike, and not written
  pub refused_alike : (z : Tables ℕ) (q r : Refusal) → ReadsWords text x z (Err q) → Exports style text x y o o' (Err r)
      → ◌≡◌ {A = Answer (List ℕ)} (refusal r) (refusal q)
  unfolding Exports Reads
  refused_alike z q r p e = one (exported style (length o)) x text e.0 (unread p.0)

  pub refused_unwritten : (z : Tables ℕ) (q : Refusal) (e : Exported) → ReadsWords text x z (Err q) → ¬ Exports style text x y o o' (Ok e)
  unfolding Exports Reads
  refused_unwritten z q e p w = unlike refl (one (exported style (length o)) x text w.answer (unread p.0))

  module _ (e : Exported) (w : Exports style text x y o o' (Ok e)) where
    -- what is written is read, and the tables are filled as by `read`
    pub read_alike : ReadsWords text x y (Ok e.counts)
    unfolding Exports Reads
    read_alike = w.reads

    -- at most ten bytes for each byte of the text
    pub short : e.bytes ≤ 10 * length text
    unfolding Exports
    short =
        let t = tree_of (exported style (length o)) x text w.bytes w.answer refl in
        omega (
          arith,
          w.count,
          ap length (bytes_of style (length o) t.has.tree w.bytes t.has.told),
          Length.short style (length x.tokens) text t.tokens t.has.tree t.lexed t.has.fits,
        )
