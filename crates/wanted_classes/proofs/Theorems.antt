-- The operand that a sentence names is the one that the grammar takes there, and behind the last of a fixed number it names none. Assumes
-- nothing.
use mathlib.Core.Path.{◌≡◌, refl, sym, subst}
use mathlib.Core.List.{List, [], ◌∷◌, ◌++◌}
use Prim.Native.Nat.{ℕ, zero, suc, ◌+◌, ◌≤◌, ◌<◌}
use native.Mathlib.Omega.{arith}
use lib.ListN.{length, get_or, replicate, get_or-replicate, length-replicate}
use Rattle.lexemes.specs.Operands.{Class, string, value, bool, only_true, u8, u16, identifier, target, count, pairs as pairsOf}
use Rattle.shapes.specs.declared.Shape.{Shape}
use Rattle.shapes.specs.declared.Shape.TheVariants as S
use Rattle.grammar.specs.Grammar.{Takes, Body, push, constant_pool, get_url, get_url2, goto_frame, goto_frame2, goto_frame2_bias, goto_label, jump_to, store_register, wait_for_frame, define_function, define_function2, with_block, try_plain, try_target, others}
use Rattle.wanted.specs.declared.Wanted.{Wanted}
use Rattle.wanted.specs.declared.Wanted.TheVariants as W
use Rattle.wanted.specs.Wanted.{nth, pairs, wanted_at}
use Rattle.wanted_classes.specs.Classes.{Names, a_string, a_parameter, a_value, a_bool, a_true, a_false, a_flag, a_u8, a_register, a_u16, a_count, a_label, a_target, given_by, Fixed}

-- one by one
abbrev Each : List Wanted → List Class → Type 0
Each [] [] = Unit {0}
Each [] (c ∷ cs) = ⊥
Each (w ∷ ws) [] = ⊥
Each (w ∷ ws) (c ∷ cs) = Names w c × Each ws cs

pick : (ws : List Wanted) (cs : List Class) → Each ws cs → (n : ℕ) → n < length cs → Names (nth ws n) (get_or cs n value)
pick [] [] e n h = absurd (omega (arith, h))
pick (w ∷ ws) (c ∷ cs) e zero h = e.0
pick (w ∷ ws) (c ∷ cs) e (suc n) h = pick ws cs e.1 n (omega (arith, h))
pick [] (c ∷ cs) e n h = elim e [ ]
pick (w ∷ ws) [] e n h = elim e [ ]

none : (ws : List Wanted) (cs : List Class) → Each ws cs → (n : ℕ) → length cs ≤ n → nth ws n ≡ W.Nothing
none [] [] e n h = refl
none (w ∷ ws) (c ∷ cs) e zero h = absurd (omega (arith, h))
none (w ∷ ws) (c ∷ cs) e (suc n) h = none ws cs e.1 n (omega (arith, h))
none [] (c ∷ cs) e n h = elim e [ ]
none (w ∷ ws) [] e n h = elim e [ ]

parameters : (k : ℕ) → Each (replicate k W.Parameter) (replicate k string)
parameters zero = tt
parameters (suc k) = (a_parameter, parameters k)

registers : (k : ℕ) → Each (pairs k) (pairsOf k)
registers zero = tt
registers (suc k) = (a_register, (a_parameter, registers k))

flags : (k : ℕ) → Each (replicate 9 W.Flag ++ pairs k) (replicate 9 bool ++ pairsOf k)
flags k = (a_flag, (a_flag, (a_flag, (a_flag, (a_flag, (a_flag, (a_flag, (a_flag, (a_flag, registers k)))))))))

counted : (k : ℕ) → k ≡ 0 + k
counted k = omega arith

pub named : {s : Shape} {cs : List Class} {b : Body} → Takes s cs b → (n : ℕ) → n < length cs → Names (wanted_at s n (given_by cs)) (get_or cs n value)
unfolding wanted_at
named (push k) n h = subst (Names W.Value) (sym (get_or-replicate k n value value (subst (λ l. n < l) (length-replicate k value) h))) a_value
named (constant_pool k) n h = subst (Names W.String) (sym (get_or-replicate k n string value (subst (λ l. n < l) (length-replicate k string) h))) a_string
named get_url n h = pick (W.String ∷ W.String ∷ []) (string ∷ string ∷ []) (a_string, (a_string, tt)) n h
named get_url2 n h = pick (W.Bool ∷ W.Bool ∷ W.U8 ∷ []) (bool ∷ bool ∷ u8 ∷ []) (a_bool, (a_bool, (a_u8, tt))) n h
named goto_frame n h = pick (W.U16 ∷ []) (u16 ∷ []) (a_u16, tt) n h
named goto_frame2 zero h = a_false
named goto_frame2 (suc zero) h = a_bool
named goto_frame2 (suc (suc n)) h = absurd (omega (arith, h))
named goto_frame2_bias n h = pick (W.Bool ∷ W.Bool ∷ W.U16 ∷ []) (only_true ∷ bool ∷ u16 ∷ []) (a_true, (a_bool, (a_u16, tt))) n h
named goto_label n h = pick (W.String ∷ []) (string ∷ []) (a_string, tt) n h
named jump_to n h = pick (W.Label ∷ []) (identifier ∷ []) (a_label, tt) n h
named store_register n h = pick (W.U8 ∷ []) (u8 ∷ []) (a_u8, tt) n h
named wait_for_frame n h = pick (W.U16 ∷ W.U8 ∷ []) (u16 ∷ u8 ∷ []) (a_u16, (a_u8, tt)) n h
named (define_function k) n h =
    subst (λ g. Names (wanted_at S.Function n g) (get_or (string ∷ count k ∷ replicate k string) n value)) (counted k)
    (pick (W.String ∷ W.Count ∷ replicate k W.Parameter) (string ∷ count k ∷ replicate k string) (a_string, (a_count, parameters k)) n h)
named (define_function2 k) n h =
    subst (λ g. Names (wanted_at S.Function2 n g) (get_or (string ∷ count k ∷ u8 ∷ (replicate 9 bool ++ pairsOf k)) n value)) (counted k)
    (pick (W.String ∷ W.Count ∷ W.U8 ∷ (replicate 9 W.Flag ++ pairs k)) (string ∷ count k ∷ u8 ∷ (replicate 9 bool ++ pairsOf k)) (a_string, (a_count, (a_u8, flags k))) n h)
named with_block n h = absurd (omega (arith, h))
named try_plain n h = absurd (omega (arith, h))
named try_target n h = pick (W.Target ∷ []) (target ∷ []) (a_target, tt) n h
named others n h = absurd (omega (arith, h))

pub no_more : {s : Shape} {cs : List Class} {b : Body} → Takes s cs b → Fixed s → (n : ℕ) → length cs ≤ n → wanted_at s n (given_by cs) ≡ W.Nothing
unfolding wanted_at
no_more get_url f n h = none (W.String ∷ W.String ∷ []) (string ∷ string ∷ []) (a_string, (a_string, tt)) n h
no_more get_url2 f n h = none (W.Bool ∷ W.Bool ∷ W.U8 ∷ []) (bool ∷ bool ∷ u8 ∷ []) (a_bool, (a_bool, (a_u8, tt))) n h
no_more goto_frame f n h = none (W.U16 ∷ []) (u16 ∷ []) (a_u16, tt) n h
no_more goto_frame2 f zero h = absurd (omega (arith, h))
no_more goto_frame2 f (suc zero) h = absurd (omega (arith, h))
no_more goto_frame2 f (suc (suc zero)) h = refl
no_more goto_frame2 f (suc (suc (suc n))) h = refl
no_more goto_frame2_bias f n h = none (W.Bool ∷ W.Bool ∷ W.U16 ∷ []) (only_true ∷ bool ∷ u16 ∷ []) (a_true, (a_bool, (a_u16, tt))) n h
no_more goto_label f n h = none (W.String ∷ []) (string ∷ []) (a_string, tt) n h
no_more jump_to f n h = none (W.Label ∷ []) (identifier ∷ []) (a_label, tt) n h
no_more store_register f n h = none (W.U8 ∷ []) (u8 ∷ []) (a_u8, tt) n h
no_more wait_for_frame f n h = none (W.U16 ∷ W.U8 ∷ []) (u16 ∷ u8 ∷ []) (a_u16, (a_u8, tt)) n h
no_more (define_function k) f n h =
    subst (λ g. wanted_at S.Function n g ≡ W.Nothing) (counted k)
    (none (W.String ∷ W.Count ∷ replicate k W.Parameter) (string ∷ count k ∷ replicate k string) (a_string, (a_count, parameters k)) n h)
no_more (define_function2 k) f n h =
    subst (λ g. wanted_at S.Function2 n g ≡ W.Nothing) (counted k)
    (none (W.String ∷ W.Count ∷ W.U8 ∷ (replicate 9 W.Flag ++ pairs k)) (string ∷ count k ∷ u8 ∷ (replicate 9 bool ++ pairsOf k)) (a_string, (a_count, (a_u8, flags k))) n h)
no_more with_block f n h = refl
no_more others f n h = refl
no_more (push k) f n h = elim f [ ]
no_more (constant_pool k) f n h = elim f [ ]
no_more try_plain f n h = elim f [ ]
no_more try_target f n h = elim f [ ]
