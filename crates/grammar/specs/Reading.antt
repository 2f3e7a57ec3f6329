-- A reading: document 01, 'The call' and 'Grammar', as tables of a tree.
use Rattle.std.specs.Prelude.{◌≡◌, cond, List, [], ◌∷◌, ◌++◌, map, ℕ, suc, ◌+◌, length}
use Rattle.std.proofs.Math.Option.{Option, none, some}
use Rattle.names.specs.declared.ActionName.{ActionName}
use Rattle.lexemes.specs.Lexemes.{Lexeme, raw, unclosed, same_name}
use Rattle.lexemes.specs.Events.{Part}
use Rattle.grammar.specs.Grammar.{Items, done, label, action, Blocks, no_blocks, block, Text}

pub record Action : Type 0 where
  pub name : ActionName
  pub level : ℕ

-- an operand entry, under the action of that number
pub record Operand : Type 0 where
  pub action : ℕ
  pub token : Lexeme

-- which block of which action
pub record Owner : Type 0 where
  pub action : ℕ
  pub part : Part

-- the top level has no owner; actions and unclosed strings of bodies do not count
pub record Level : Type 0 where
  pub owner : Option Owner
  pub actions : ℕ
  pub unclosed : ℕ

pub record Label : Type 0 where
  pub level : ℕ
  pub name : Lexeme
  pub position : ℕ

pub record Reading : Type 0 where
  pub actions : List Action
  pub operands : List Operand
  pub levels : List Level
  pub labels : List Label

-- ---- counts

-- the actions of a level, bodies not counted
abbrev pub own_actions : Items → ℕ
own_actions done = 0
own_actions (label t x) = own_actions x
own_actions (action n os bs x) = suc (own_actions x)

-- the strings without their closing quote among an action's operand entries
abbrev pub unclosed_in : List Lexeme → ℕ
unclosed_in [] = 0
unclosed_in (t ∷ ts) = cond (unclosed t) 1 0 + unclosed_in ts

-- 'each level counts the unclosed strings among its own actions' operands' (document 02)
abbrev pub own_unclosed : Items → ℕ
own_unclosed done = 0
own_unclosed (label t x) = own_unclosed x
own_unclosed (action n os bs x) = unclosed_in os + own_unclosed x

abbrev mutual
  -- all actions, bodies counted
  pub all_actions : Items → ℕ
  all_actions done = 0
  all_actions (label t x) = all_actions x
  all_actions (action n os bs x) = suc (actions_inside bs + all_actions x)

  pub actions_inside : Blocks → ℕ
  actions_inside no_blocks = 0
  actions_inside (block p x bs) = all_actions x + actions_inside bs

-- ---- levels, numbered as their brace opens

-- what is written in a level, with its owner and the number that its first action has or would have
pub record Opened : Type 0 where
  pub owner : Option Owner
  pub first : ℕ
  pub items : Items

abbrev mutual
  -- the blocks inside a level, the next action being a
  pub opened_of : ℕ → Items → List Opened
  opened_of a done = []
  opened_of a (label t x) = opened_of a x
  opened_of a (action n os bs x) = opened_in a (suc a) bs ++ opened_of (suc a + actions_inside bs) x

  -- the blocks of action o and those inside them
  pub opened_in : ℕ → ℕ → Blocks → List Opened
  opened_in o a no_blocks = []
  opened_in o a (block p x bs) =
      record { owner = some (record { action = o; part = p }); first = a; items = x } ∷ opened_of a x ++ opened_in o (a + all_actions x) bs

-- the top level is 0
abbrev pub opened : Items → List Opened
opened x = record { owner = none; first = 0; items = x } ∷ opened_of 0 x

abbrev pub level_of : Opened → Level
level_of l = record { owner = l.owner; actions = own_actions l.items; unclosed = own_unclosed l.items }

-- ---- actions, in written order, an outer action before its body

-- an action with its level and its operand entries
pub record Acted : Type 0 where
  pub name : ActionName
  pub level : ℕ
  pub operands : List Lexeme

abbrev mutual
  -- those of level ℓ and of its blocks, of which the next is level m (how many blocks there are does not depend on numbers)
  pub acted_of : ℕ → ℕ → Items → List Acted
  acted_of ℓ m done = []
  acted_of ℓ m (label t x) = acted_of ℓ m x
  acted_of ℓ m (action n os bs x) =
      record { name = n; level = ℓ; operands = os } ∷ acted_in m bs ++ acted_of ℓ (m + length (opened_in 0 0 bs)) x

  pub acted_in : ℕ → Blocks → List Acted
  acted_in m no_blocks = []
  acted_in m (block p x bs) = acted_of m (suc m) x ++ acted_in (suc m + length (opened_of 0 x)) bs

-- the operands of the actions from a on
abbrev pub operands_from : ℕ → List Acted → List Operand
operands_from a [] = []
operands_from a (l ∷ ls) = map (λ (t : Lexeme). record { action = a; token = t }) l.operands ++ operands_from (suc a) ls

-- ---- labels, by level and then in their order

-- written again, a label keeps its first place in the order and takes the new position
abbrev pub place : Label → List Label → List Label
place l [] = l ∷ []
place l (k ∷ ks) =
    cond (same_name (raw l.name) (raw k.name))
    (record { level = k.level; name = k.name; position = l.position } ∷ ks)
    (k ∷ place l ks)

-- the labels of level ℓ, first those placed so far: a label's position is the number p of actions before it in its level
abbrev pub own_labels : ℕ → ℕ → List Label → Items → List Label
own_labels ℓ p so_far done = so_far
own_labels ℓ p so_far (label t x) = own_labels ℓ p (place (record { level = ℓ; name = t; position = p }) so_far) x
own_labels ℓ p so_far (action n os bs x) = own_labels ℓ (suc p) so_far x

-- of the levels from ℓ on
abbrev pub labels_from : ℕ → List Opened → List Label
labels_from ℓ [] = []
labels_from ℓ (l ∷ ls) = own_labels ℓ 0 [] l.items ++ labels_from (suc ℓ) ls

unfoldable pub reading_of : Items → Reading
reading_of x =
    record {
      actions = map (λ (l : Acted). record { name = l.name; level = l.level }) (acted_of 0 1 x);
      operands = operands_from 0 (acted_of 0 1 x);
      levels = map level_of (opened x);
      labels = labels_from 0 (opened x);
    }

-- the tokens are a text, and f of its tree is r
pub record Has {R : Type 0} (f : Items → R) (ts : List Lexeme) (r : R) : Type 0 where
  pub tree : Items
  pub fits : Text ts tree
  pub told : f tree ≡ r

-- the tokens have this reading
abbrev pub Reads : List Lexeme → Reading → Type 0
Reads ts R = Has reading_of ts R

-- a list is grammatical if it has a reading
abbrev pub Grammatical : List Lexeme → Type 0
Grammatical ts = (R : Reading) × Reads ts R
