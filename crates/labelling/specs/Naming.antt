-- What each event of a log adds to its labels, in the order of the text. No public contract cites it.
use Rattle.std.specs.Prelude.{◌≡◌, List, [], ◌∷◌, ℕ, ◌+◌, ◌≤◌, ◌<◌, get_or, set}
use Rattle.events.specs.declared.Event.{Event}
use Rattle.events.specs.declared.Event.TheVariants as E
use Rattle.events.specs.Log.{event_of}
use Rattle.entries.specs.declared.Label.{Label}
use Rattle.entries.specs.Entries.{label_word, label_of}
use Rattle.labelling.specs.declared.Namer.{Namer}

-- how many actions an event is
abbrev pub acts : Event → ℕ
acts (E.Action n) = 1
acts (E.Label t) = 0
acts (E.Operand t) = 0
acts (E.Opened p) = 0
acts E.Closed = 0

-- where each level opened, the labels, and what is open
pub record Naming : Type 0 where
  pub own : List ℕ
  pub named : List ℕ
  pub at : Namer

unfoldable pub naming : List ℕ → List ℕ → Namer → Naming
naming ws ns n = record { own = ws; named = ns; at = n }

-- a place in the open level: a label's position is how many actions its level has so far
abbrev pub here : ℕ → Namer → Label
here t n = record { level = n.level; token = t; position = n.actions }

-- where level j opened
abbrev pub opening : List ℕ → ℕ → Label
opening ws j = label_of (get_or ws j 0)

unfoldable pub acted : Naming → Naming
acted T =
    record { own = T.own; named = T.named; at = record { level = T.at.level; levels = T.at.levels; labels = T.at.labels; actions = T.at.actions + 1 } }

unfoldable pub name : ℕ → Naming → Naming
name t T =
    record {
      own = T.own;
      named = set T.named T.at.labels (label_word (here t T.at));
      at = record { level = T.at.level; levels = T.at.levels; labels = T.at.labels + 1; actions = T.at.actions };
    }

unfoldable pub opened : Naming → Naming
opened T =
    record {
      own = set T.own T.at.levels (label_word (here 0 T.at));
      named = T.named;
      at = record { level = T.at.levels; levels = T.at.levels + 1; labels = T.at.labels; actions = 0 };
    }

unfoldable pub closed : Naming → Naming
closed T =
    let p = opening T.own T.at.level in
    record { own = T.own; named = T.named; at = record { level = p.level; levels = T.at.levels; labels = T.at.labels; actions = p.position } }

abbrev pub by : Event → Naming → Naming
by (E.Action n) T = acted T
by (E.Label t) T = name t T
by (E.Operand t) T = T
by (E.Opened p) T = opened T
by E.Closed T = closed T

unfoldable pub step : ℕ → Naming → Naming
step w T = by (event_of w) T

abbrev pub steps : List ℕ → Naming → Naming
steps [] T = T
steps (w ∷ l) T = steps l (step w T)

-- before the first event: the top level is open
abbrev pub start : List ℕ → List ℕ → Naming
start ws ns = naming (set ws 0 (label_word (record { level = 0; token = 0; position = 0 }))) ns (record { level = 0; levels = 1; labels = 0; actions = 0 })

-- what `collect` leaves
pub record Collects (log ws ns ws' ns' : List ℕ) : Type 0 where
  pub at : Namer
  pub all : naming ws' ns' at ≡ steps log (start ws ns)

-- where it can stand behind i events: each of its levels opened inside one of them
pub record Few (i : ℕ) (ws : List ℕ) (n : Namer) : Type 0 where
  pub level : n.level < n.levels
  pub levels : n.levels ≤ i + 1
  pub labels : n.labels ≤ i
  pub actions : n.actions ≤ i
  pub around : (j : ℕ) → j < n.levels → ((opening ws j).level < n.levels) × ((opening ws j).position ≤ i)
