-- The words of a tree's actions, operands and levels, and how far its nets go. Assumes nothing.
use mathlib.Core.Path.{◌≡◌, refl, sym, ap, subst, ◌∙◌}
use mathlib.Core.Bool.{Bool, true, false, cond}
use mathlib.Core.List.{List, [], ◌∷◌, ◌++◌, map, map-append, append_assoc}
use Prim.Native.Nat.{ℕ, suc, ◌+◌, ◌-◌, ◌≤◌}
use native.Mathlib.Omega.{arith}
use lib.IntN.{pos, negsuc}
use lib.ListN.{length, length-append, length-map}
use Rattle.names.specs.declared.ActionName.{ActionName}
use Rattle.entries.specs.declared.Level.{Level}
use Rattle.entries.specs.declared.Net.{Net}
use Rattle.entries.specs.declared.Net.TheVariants as N
use Rattle.entries.specs.Entries.{action_word}
use Rattle.pcode.specs.Deltas.{delta_of}
use Rattle.nets.specs.Nets.{moved_by}
use Rattle.nets.proofs.Bounds.{Bounded, NearIf, delta_near, moved_bounded}
use Rattle.lexemes.specs.Lexemes.{Lexeme, unclosed}
use Rattle.grammar.specs.Grammar.{Items, done, label, action}
use Rattle.grammar.specs.Reading.{Acted, Opened, own_actions, unclosed_in, own_unclosed, all_actions, actions_inside, opened_in, acted_of, acted_in, operands_from}
use Rattle.grammar.specs.Reading as R
use Rattle.grammar.specs.Nets.{name_is_empty, net_from}
use Rattle.reading.specs.Tables.{block_of, net_entry, operand_entry_word}
use Rattle.reading.proofs.Nets.{run_from, run-done, run-label, run-action}

abbrev pub of : ℕ → Lexeme → R.Operand
of a t = record { action = a; token = t }

-- how many operands actions have
abbrev pub ops : List Acted → ℕ
ops [] = 0
ops (l ∷ ls) = length l.operands + ops ls

-- actions whose operands stand from q on
abbrev pub act_word : ℕ → Acted → ℕ
act_word q l = action_word (record { name = l.name; level = l.level; first = q; count = length l.operands })

abbrev pub act_words : ℕ → List Acted → List ℕ
act_words q [] = []
act_words q (l ∷ ls) = act_word q l ∷ act_words (q + length l.operands) ls

abbrev pub op_words : ℕ → List Acted → List ℕ
op_words a ls = map operand_entry_word (operands_from a ls)

abbrev pub level_final : Opened → Level
level_final l =
    record {
      block = block_of l.owner;
      actions = own_actions l.items;
      net = net_entry (net_from l.first (pos 0) l.items);
      unclosed = own_unclosed l.items;
    }

pub ops_append : (l r : List Acted) → ops (l ++ r) ≡ ops l + ops r
ops_append [] r = omega arith
ops_append (y ∷ l) r = omega (arith, ops_append l r)

pub act-append : (l r : List Acted) (q : ℕ) → act_words q (l ++ r) ≡ act_words q l ++ act_words (q + ops l) r
act-append [] r q = let z : q ≡ q + 0 = omega arith in ap (λ k. act_words k r) z
act-append (y ∷ l) r q =
    let z : q + length y.operands + ops l ≡ q + (length y.operands + ops l) = omega arith in
    λ i. act_word q y ∷ (act-append l r (q + length y.operands) ∙ ap (λ k. act_words (q + length y.operands) l ++ act_words k r) z) i

pub act-length : (l : List Acted) (q : ℕ) → length (act_words q l) ≡ length l
act-length [] q = refl
act-length (y ∷ l) q = ap suc (act-length l (q + length y.operands))

from-append : (l r : List Acted) (a : ℕ) → operands_from a (l ++ r) ≡ operands_from a l ++ operands_from (a + length l) r
from-append [] r a = let z : a ≡ a + 0 = omega arith in ap (λ k. operands_from k r) z
from-append (y ∷ l) r a =
    let z : suc a + length l ≡ a + suc (length l) = omega arith in
    let m = map (of a) y.operands in
    ap (λ k. m ++ k) (from-append l r (suc a) ∙ ap (λ k. operands_from (suc a) l ++ operands_from k r) z)
    ∙ sym (append_assoc m (operands_from (suc a) l) (operands_from (a + suc (length l)) r))

pub op_append : (l r : List Acted) (a : ℕ) → op_words a (l ++ r) ≡ op_words a l ++ op_words (a + length l) r
op_append l r a = ap (map operand_entry_word) (from-append l r a) ∙ map-append operand_entry_word (operands_from a l) (operands_from (a + length l) r)

pub op_length : (l : List Acted) (a : ℕ) → length (op_words a l) ≡ ops l
op_length [] a = refl
op_length (y ∷ l) a =
    let m = map (of a) y.operands in
    ap length (map-append operand_entry_word m (operands_from (suc a) l))
    ∙ length-append (map operand_entry_word m) (op_words (suc a) l)
    ∙ omega (arith, length-map m operand_entry_word, length-map y.operands (of a), op_length l (suc a))

-- ---- how many unclosed strings there are

either : (b : Bool) → cond b 1 0 ≤ 1
either true = omega arith
either false = omega arith

pub unclosed-few : (os : List Lexeme) → unclosed_in os ≤ length os
unclosed-few [] = omega arith
unclosed-few (t ∷ os) = omega (arith, either (unclosed t), unclosed-few os)

pub own-unclosed-few : (x : Items) (ℓ m : ℕ) → own_unclosed x ≤ ops (acted_of ℓ m x)
own-unclosed-few done ℓ m = omega arith
own-unclosed-few (label t x) ℓ m = own-unclosed-few x ℓ m
own-unclosed-few (action n os bs x) ℓ m =
    let m' = m + length (opened_in 0 0 bs) in
    omega (arith, unclosed-few os, own-unclosed-few x ℓ m', ops_append (acted_in m bs) (acted_of ℓ m' x))

-- ---- how far a net goes

pub widens : (i s j r : ℕ) (t : Net) → i ≤ j → s ≤ r → Bounded i s t → Bounded j r t
widens i s j r (N.Height (pos h)) k l b = omega arith
widens i s j r (N.Height (negsuc h)) k l b = omega arith
widens i s j r (N.Undetermined a) k l b = omega arith

pub moves_near : (n : ActionName) (os : List Lexeme) (a q : ℕ) (t : Net) → Bounded a q t
    → Bounded (suc a) (q + length os) (moved_by (delta_of n (length os) (name_is_empty os)) a t)
moves_near n os a q t b =
    let z : length os ≡ q + length os - q = omega arith in
    moved_bounded a q (q + length os) (delta_of n (length os) (name_is_empty os)) t (omega arith) b
    (subst (λ v. NearIf v (delta_of n (length os) (name_is_empty os))) z (delta_near n (length os) (name_is_empty os)))

pub run_near : (x : Items) (ℓ m a q : ℕ) (t : Net) → Bounded a q t → Bounded (a + all_actions x) (q + ops (acted_of ℓ m x)) (run_from a t x)
run_near done ℓ m a q t b = subst (Bounded (a + 0) (q + 0)) (sym (run-done a t)) (widens a q (a + 0) (q + 0) t (omega arith) (omega arith) b)
run_near (label n x) ℓ m a q t b =
    subst (Bounded (a + all_actions x) (q + ops (acted_of ℓ m x))) (sym (run-label a t n x)) (run_near x ℓ m a q t b)
run_near (action n os bs x) ℓ m a q t b =
    let l : Acted = record { name = n; level = ℓ; operands = os } in
    let u = moved_by (delta_of n (length os) (name_is_empty os)) a t in
    let a' = suc a + actions_inside bs in
    let m' = m + length (opened_in 0 0 bs) in
    let q' = q + length os + ops (acted_in m bs) in
    let r = run_near x ℓ m' a' q' u (widens (suc a) (q + length os) a' q' u (omega arith) (omega arith) (moves_near n os a q t b)) in
    subst (Bounded (a + suc (actions_inside bs + all_actions x)) (q + (length os + ops (acted_in m bs ++ acted_of ℓ m' x)))) (sym (run-action a t l bs x))
    (widens (a' + all_actions x) (q' + ops (acted_of ℓ m' x)) _ _ (run_from a' u x) (omega arith) (omega (arith, ops_append (acted_in m bs) (acted_of ℓ m' x))) r)
