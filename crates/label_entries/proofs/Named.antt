-- Whether a label has a name, and how a search goes on by one label. Assumes nothing.
use mathlib.Core.Path.{◌≡◌, sym, ◌∙◌, ap}
use mathlib.Core.Bool.{Bool, true, false, cond, ◌&&◌}
use mathlib.Core.List.{List}
use Prim.Native.Nat.{ℕ, suc, ◌≤◌, ◌<◌}
use lib.ListN.{length, drop, get_or, drop_of_length-le}
use lib.Seq.{drop-cons}
use borrow.Author.Tests.{eq-eqb, lt-ltb, le-ltb}
use Rattle.tokens.specs.declared.Token.{Token}
use Rattle.tokens.specs.Tokens.{token_of, raw_text}
use Rattle.entries.specs.declared.Label.{Label}
use Rattle.lexemes.specs.Lexemes.{same_name}
use Rattle.label_entries.specs.Labels.{is_named}

pub compared : (text tokens : List ℕ) (level : ℕ) (name : List ℕ) (l : Label) {t : Token} {raw : List ℕ} {same : Bool} → l.level ≡ level
    → t ≡ token_of (get_or tokens l.token 0) → raw ≡ raw_text text t → same ≡ same_name raw name → same ≡ is_named text tokens level name l
unfolding is_named
compared text tokens level name l {t} {raw} {same} e₁ e₂ e₃ e₄ =
    e₄ ∙ ap (λ (r : List ℕ). same_name r name) (e₃ ∙ ap (raw_text text) e₂) ∙ sym (ap (λ (b : Bool). b && same_name (raw_text text (token_of (get_or tokens l.token 0))) name) (eq-eqb _ _ e₁))
