-- Trees that are alike have readings that are alike, and the same nets. Assumes nothing.
use mathlib.Core.Path.{◌≡◌, refl, ap, subst}
use mathlib.Core.Bool.{Bool, true, false, cond}
use mathlib.Core.List.{List, [], ◌∷◌}
use mathlib.Core.Option.{some}
use Prim.Native.Nat.{ℕ, suc, ◌+◌}
use lib.IntN.{ℤ, pos}
use Rattle.pcode.specs.Deltas.{delta_of}
use Rattle.lexemes.specs.Lexemes.{Lexeme, raw, same_name}
use Rattle.grammar.specs.Grammar.{Items, Blocks}
use Rattle.grammar.specs.Reading.{Label, Opened, Acted, own_actions, all_actions, actions_inside, opened_of, opened_in, opened, level_of, acted_of, acted_in, operands_from, place, own_labels, labels_from, reading_of}
use Rattle.grammar.specs.Nets.{net_from, nets, moved, name_is_empty}
use Rattle.unclosed.specs.Alike.{Each, none, next, Alike, same, quoted, OperandAlike, LabelAlike, ReadingAlike}
use Rattle.unclosed.proofs.Each.{each_append, each_length, each_map, each_same}
use Rattle.unclosed.proofs.Trees.{AlikeItems, ends, names, acts, AlikeBlocks, no_more, also}

module _ (At : ℕ → ℕ → Type 0) where
  -- ---- counts

  own_alike : {x y : Items} → AlikeItems At x y → own_actions x ≡ own_actions y
  own_alike ends = refl
  own_alike (names a h) = own_alike h
  own_alike (acts o b h) = ap suc (own_alike h)

  mutual
    all_alike : {x y : Items} → AlikeItems At x y → all_actions x ≡ all_actions y
    all_alike ends = refl
    all_alike (names a h) = all_alike h
    all_alike (acts o b h) = λ i. suc (inside_alike b i + all_alike h i)

    inside_alike : {bs cs : Blocks} → AlikeBlocks At bs cs → actions_inside bs ≡ actions_inside cs
    inside_alike no_more = refl
    inside_alike (also h b) = λ i. all_alike h i + inside_alike b i

  -- ---- levels

  record OpenedAlike (o p : Opened) : Type 0 where
    owner : o.owner ≡ p.owner
    first : o.first ≡ p.first
    items : AlikeItems At o.items p.items

  mutual
    opened_alike : {x y : Items} (a b : ℕ) → a ≡ b → AlikeItems At x y → Each OpenedAlike (opened_of a x) (opened_of b y)
    opened_alike a b e ends = none
    opened_alike a b e (names t h) = opened_alike a b e h
    opened_alike a b e (acts o bs h) =
        each_append (blocks_alike a b (suc a) (suc b) e (ap suc e) bs) (opened_alike _ _ (λ i. suc (e i) + inside_alike bs i) h)

    blocks_alike : {bs cs : Blocks} (o q a b : ℕ) → o ≡ q → a ≡ b → AlikeBlocks At bs cs → Each OpenedAlike (opened_in o a bs) (opened_in q b cs)
    blocks_alike o q a b d e no_more = none
    blocks_alike o q a b d e (also {p = p} h bs) =
        next (record { owner = λ i. some (record { action = d i; part = p }); first = e; items = h })
        (each_append (opened_alike a b e h) (blocks_alike o q _ _ d (λ i. e i + all_alike h i) bs))

  all-opened : {x y : Items} → AlikeItems At x y → Each OpenedAlike (opened x) (opened y)
  all-opened h = next (record { owner = refl; first = refl; items = h }) (opened_alike 0 0 refl h)

  -- ---- actions and operands

  record ActedAlike (l m : Acted) : Type 0 where
    name : l.name ≡ m.name
    level : l.level ≡ m.level
    operands : Each (Alike At) l.operands m.operands

  mutual
    acted_alike : {x y : Items} (ℓ k m n : ℕ) → ℓ ≡ k → m ≡ n → AlikeItems At x y → Each ActedAlike (acted_of ℓ m x) (acted_of k n y)
    acted_alike ℓ k m n d e ends = none
    acted_alike ℓ k m n d e (names t h) = acted_alike ℓ k m n d e h
    acted_alike ℓ k m n d e (acts o bs h) =
        next (record { name = refl; level = d; operands = o })
        (each_append (acteds_alike m n e bs) (acted_alike ℓ k _ _ d (λ i. e i + each_length (blocks_alike 0 0 0 0 refl refl bs) i) h))

    acteds_alike : {bs cs : Blocks} (m n : ℕ) → m ≡ n → AlikeBlocks At bs cs → Each ActedAlike (acted_in m bs) (acted_in n cs)
    acteds_alike m n e no_more = none
    acteds_alike m n e (also h bs) =
        each_append (acted_alike m n (suc m) (suc n) e (ap suc e) h) (acteds_alike _ _ (λ i. suc (e i) + each_length (opened_alike 0 0 refl h) i) bs)

  operands_alike : (a : ℕ) {ls ms : List Acted} → Each ActedAlike ls ms → Each (OperandAlike At) (operands_from a ls) (operands_from a ms)
  operands_alike a none = none
  operands_alike a (next l h) =
      each_append (each_map (λ (t : Lexeme). record { action = a; token = t }) (λ t u h. record { action = refl; token = h }) l.operands) (operands_alike (suc a) h)

  -- ---- labels

  raw_alike : {t u : Lexeme} → Alike At t u → raw t ≡ raw u
  raw_alike (same p) = refl
  raw_alike (quoted p) = refl

  either_alike : {a b c d : List Label} (s t : Bool) → s ≡ t → Each (LabelAlike At) a c → Each (LabelAlike At) b d → Each (LabelAlike At) (cond s a b) (cond t c d)
  either_alike {a} {b} {c} {d} s t e f g = subst (λ (z : Bool). Each (LabelAlike At) (cond s a b) (cond z c d)) e (by s)
    where
      by : (z : Bool) → Each (LabelAlike At) (cond z a b) (cond z c d)
      by true = f
      by false = g

  place_alike : {l m : Label} {ks js : List Label} → LabelAlike At l m → Each (LabelAlike At) ks js → Each (LabelAlike At) (place l ks) (place m js)
  place_alike h none = next h none
  place_alike {l = l} {m = m} h (next {a = k} {b = j} g e) =
      either_alike (same_name (raw l.name) (raw k.name)) (same_name (raw m.name) (raw j.name))
      (λ i. same_name (raw_alike h.name i) (raw_alike g.name i))
      (next (record { level = g.level; name = g.name; position = h.position }) e) (next g (place_alike h e))

  own-labels : {x y : Items} (ℓ p : ℕ) {ks js : List Label} → AlikeItems At x y → Each (LabelAlike At) ks js
      → Each (LabelAlike At) (own_labels ℓ p ks x) (own_labels ℓ p js y)
  own-labels ℓ p ends e = e
  own-labels ℓ p (names t h) e = own-labels ℓ p h (place_alike (record { level = refl; name = t; position = refl }) e)
  own-labels ℓ p (acts o bs h) e = own-labels ℓ (suc p) h e

  labels_alike : (ℓ : ℕ) {ls ms : List Opened} → Each OpenedAlike ls ms → Each (LabelAlike At) (labels_from ℓ ls) (labels_from ℓ ms)
  labels_alike ℓ none = none
  labels_alike ℓ (next o h) = each_append (own-labels ℓ 0 o.items none) (labels_alike (suc ℓ) h)

  -- ---- readings

  pub reading_alike : {x y : Items} → AlikeItems At x y → ReadingAlike At (reading_of x) (reading_of y)
  unfolding reading_of
  reading_alike h =
      let a = acted_alike 0 0 1 1 refl refl h in
      let o = all-opened h in
      record {
        actions = each_same (each_map (λ (l : Acted). record { name = l.name; level = l.level }) (λ l m e i. record { name = e.name i; level = e.level i }) a);
        operands = operands_alike 0 a;
        levels = each_map level_of (λ l m e. record { owner = e.owner; actions = own_alike e.items }) o;
        labels = labels_alike 0 o;
      }

  -- ---- nets

  name_alike : {os us : List Lexeme} → Each (Alike At) os us → name_is_empty os ≡ name_is_empty us
  name_alike none = refl
  name_alike (next (same {w = []} p) e) = refl
  name_alike (next (same {w = b ∷ w} p) e) = refl
  name_alike (next (quoted {w = []} p) e) = refl
  name_alike (next (quoted {w = b ∷ w} p) e) = refl

  net_alike : {x y : Items} (a b : ℕ) (z : ℤ) → a ≡ b → AlikeItems At x y → net_from a z x ≡ net_from b z y
  net_alike a b z e ends = refl
  net_alike a b z e (names t h) = net_alike a b z e h
  net_alike a b z e (acts {n = n} o bs h) =
      λ i. moved (delta_of n (each_length o i) (name_alike o i)) (e i) z (λ g. net_alike _ _ g (λ j. suc (e j) + inside_alike bs j) h i)

  pub tree-nets : {x y : Items} → AlikeItems At x y → nets x ≡ nets y
  unfolding nets
  tree-nets h =
      each_same (each_map (λ (l : Opened). net_from l.first (pos 0) l.items) (λ l m e. net_alike l.first m.first (pos 0) e.first e.items) (all-opened h))
