-- A record from its code, its fields and the length that is stored behind them. Assumes nothing.
use mathlib.Core.Path.{◌≡◌, refl, sym, ap, ◌∙◌}
use mathlib.Core.Bool.{Bool, true, cond, ◌&&◌, and-true}
use mathlib.Core.List.{List, [], ◌∷◌, ◌++◌, map}
use Prim.Native.Nat.{ℕ, suc, ◌-◌, ◌≤◌, ◌<◌}
use native.Mathlib.Omega.{arith}
use lib.Dec.{leb}
use lib.ListN.{length, set, get_or}
use lib.Seq.{sets, set_comm, set-set}
use borrow.Author.Tests.{le-leb, lt-leb}
use Rattle.laws.proofs.Tabulate.{tabulate, entry}
use Rattle.names.specs.declared.ActionName.{ActionName}
use Rattle.actions.specs.Numbers.{number_of, action_at}
use Rattle.actions.proofs.Numbers.{number_below, action-number}
use Rattle.shapes.specs.declared.Shape.{Shape}
use Rattle.lexemes.specs.Lexemes.{Lexeme}
use Rattle.movies.specs.Meaning.{meaning}
use Rattle.action_records.specs.declared.Style.{Style}
use Rattle.action_records.specs.Codes.{listed}
use Rattle.action_records.specs.Fields.{Field, UI16, low_first, all_bytes, all, is16, holds}
use Rattle.action_records.specs.Bytes.{with_length, blank}
use Rattle.action_records.proofs.Listed.{short-nothing}
use Rattle.std.specs.Borrow.{MutBor}
use Rattle.field_coding.specs.declared.Coder.{Coder}
use Rattle.field_coding.specs.Coding.{Puts, Codes}
use Rattle.field_coding.proofs.Putting.{then, first_true}
use Rattle.block_coding.specs.Shapes.{shape_fields}
use Rattle.coding.specs.Heads.{head_fields, head_of, head_holds}

-- ---- the table of codes

abbrev codes : ℕ → ℕ
codes k = (listed (action_at k)).code

pub at-number : (n : ℕ) (a : ActionName) → n ≡ number_of a → get_or (tabulate codes 0 100) n 0 ≡ (listed a).code
unfolding number_of
at-number n a e =
    let h : n < 100 = rw e (number_below a) in
    entry codes 0 100 n h ∙ ap (λ (b : ActionName). (listed b).code) (ap action_at e ∙ action-number a)

-- ---- a store inside what is stored

set_before : (u l : List ℕ) (i k v : ℕ) → k < i → set (sets l i u) k v ≡ sets (set l k v) i u
set_before [] l i k v h = refl
set_before (x ∷ u) l i k v h =
    set_before u (set l i x) (suc i) k v (omega arith) ∙ ap (λ m. sets m (suc i) u) (set_comm l i k x v (λ e. omega arith))

overwrite : (x u : List ℕ) (c a b p q : ℕ) → sets (sets x 0 (c ∷ a ∷ b ∷ u)) 1 (p ∷ q ∷ []) ≡ sets x 0 (c ∷ p ∷ q ∷ u)
overwrite x u c a b p q =
    let y = set x 0 c in
    ap (λ l. set l 2 q) (set_before u (set (set y 1 a) 2 b) 3 1 p (omega arith))
    ∙ set_before u (set (set (set y 1 a) 2 b) 1 p) 3 2 q (omega arith)
    ∙ ap (λ l. sets (set l 2 q) 3 u) (set_comm (set y 1 a) 2 1 b p (λ e. omega arith) ∙ ap (λ l. set l 2 b) (set-set y 1 a p))
    ∙ ap (λ l. sets l 3 u) (set-set (set y 1 p) 2 b q)

-- ---- the record

abbrev start : MutBor (List ℕ) → Coder
start x = record { out = x; end = 0; holds = true }

pub record Whole (y : Style) (n : ActionName) (os : List Lexeme) (x z : MutBor (List ℕ)) (end : ℕ) (holds : Bool) : Type 0 where
  pub end_value : end ≡ length (head_of y n os)
  pub holds_value : holds ≡ head_holds y n os
  pub bytes : holds ≡ true → z.now ≡ sets x.now 0 (head_of y n os)
  pub same : z.ghost_name ≡ x.ghost_name

module _ (y : Style) (n : ActionName) (os : List Lexeme) {code : ℕ} (e : code ≡ (listed n).code) {x : MutBor (List ℕ)} {c : Coder} (a : Puts (code ∷ []) true (start x) c) where
  pub short : code < 128 → Whole y n os x c.out c.end c.holds
  unfolding head_of head_holds
  short h =
      let g = sym (ap (λ (k : ℕ). leb 0x80 k) (sym e) ∙ lt-leb 128 code h) in
      let s = short-nothing n (sym g) in
      let fs : head_fields y n os ≡ [] = ap (λ (k : Shape). shape_fields y k (map meaning os)) s in
      let bs : code ∷ [] ≡ with_length (listed n).code (all_bytes blank (head_fields y n os)) =
      ap (λ (k : ℕ). k ∷ []) e
      ∙ ap (λ (t : Bool). cond t ((listed n).code ∷ low_first 2 0 ++ []) ((listed n).code ∷ [])) g
      ∙ ap (λ (l : List Field). with_length (listed n).code (all_bytes blank l)) (sym fs) in
      record {
        end_value = a.end ∙ ap length bs;
        holds_value = a.holds ∙ ap (λ (l : List Field). all holds l && is16 (length (all_bytes blank l))) (sym fs);
        bytes = λ t. a.bytes t ∙ ap (sets x.now 0) bs;
        same = a.same;
      }

  module _ {d g r : Coder} (b : Codes (UI16 0 ∷ []) c d) (f : Codes (head_fields y n os) d g)
      (l : Codes (UI16 (g.end - 3) ∷ []) (record { out = g.out; end = 1; holds = g.holds }) r) where
    abbrev field_bytes : List ℕ
    field_bytes = all_bytes blank (head_fields y n os)

    stored : Puts (code ∷ 0 ∷ 0 ∷ field_bytes) (all holds (head_fields y n os)) (start x) g
    stored = then a (then b.puts f.puts)

    counted : g.end - 3 ≡ length field_bytes
    counted = omega (arith, stored.end)

    pub long : 128 ≤ code → Whole y n os x r.out g.end r.holds
    unfolding head_of head_holds
    long h =
        let t : leb 0x80 code ≡ true = le-leb 128 code h in
        let bs : code ∷ (low_first 2 (length field_bytes) ++ field_bytes) ≡ with_length (listed n).code field_bytes =
        ap (λ (p : Bool). cond p (code ∷ low_first 2 (length field_bytes) ++ field_bytes) (code ∷ field_bytes)) (sym t) ∙ ap (λ (k : ℕ). with_length k field_bytes) e in
        let z : g.end ≡ length (code ∷ (low_first 2 (length field_bytes) ++ field_bytes)) = omega (arith, stored.end) in
        record {
          end_value = z ∙ ap length bs;
          holds_value =
              l.puts.holds
              ∙ ap (λ (p : Bool). g.holds && p) (and-true (is16 (g.end - 3)))
              ∙ ap (λ (k : ℕ). g.holds && is16 k) counted
              ∙ ap (λ (p : Bool). p && is16 (length field_bytes)) stored.holds;
          bytes = λ q.
              l.puts.bytes q
              ∙ ap (λ (m : List ℕ). sets m 1 (low_first 2 (g.end - 3))) (stored.bytes (first_true g.holds _ (sym l.puts.holds ∙ q)))
              ∙ ap (λ (k : ℕ). sets (sets x.now 0 (code ∷ 0 ∷ 0 ∷ field_bytes)) 1 (low_first 2 k)) counted
              ∙ overwrite x.now field_bytes code 0 0 _ _
              ∙ ap (sets x.now 0) bs;
          same = l.puts.same ∙ stored.same;
        }
