-- `labels::rebuild` meets its contract. Assumes nothing.
use borrow.Author.Rules.{rules}
use mathlib.Core.Path.{◌≡◌, ap, subst, ◌∙◌}
use Prim.Native.Nat.{ℕ, ◌<◌}
use native.Mathlib.Omega.{arith}
use lib.ListN.{length, take, get_or}
use Rattle.entries.specs.declared.Label.{Label}
use Rattle.labels.specs.Index.{bucket_of, ChainsOf}
use Rattle.labels.proofs.Hashing.{bucket-of, bucket-inside}
use Rattle.labels.proofs.Linking.{no_chains}
use Rattle.labels.proofs.Searching.{chains-next}
use Rattle.labels.proofs.rebuild.Goals as goal
use Rattle.labels.proofs.rebuild.Goals.{After-bucket-b}

long : (c : After-bucket-b) → length c.loop-j.index ≡ length c.args.index.now
long c = c.loop-j.auto.index ∙ c.fill.ensures.len

its_bucket : (c : After-bucket-b) → c.bucket-b.result ≡ bucket_of c.args.text.now c.args.s.now c.args.seed (length c.loop-j.index) (get_or c.args.out.now c.loop-j.j 0)
its_bucket c =
    bucket-of c.args.text.now c.args.s.now c.args.seed (length c.loop-j.index) (get_or c.args.out.now c.loop-j.j 0) c.label_of.ensures c.name_of.ensures c.bucket-b.ensures

pub loop-j-init : goal.loop-j-init
loop-j-init c = no_chains c.fill.new.self (λ k h. search rules)

pub bucket-b-requires : goal.bucket-b-requires
bucket-b-requires c =
    (omega (arith, c.requires.1, c.loop-j.auto.index, c.fill.ensures.len), omega (arith, ap (λ (l : Label). l.level) c.label_of.ensures, c.type_inv.out c.loop-j.j))

pub link-requires : goal.link-requires
link-requires c =
    let q = (goal.at.link-requires c).After-bucket-b in
    let a = c.args in
    let l = c.loop-j in
    let same = long q in
    let room : 0 < length l.index = omega (arith, c.requires.1, same) in (
      rw (its_bucket q) (bucket-inside a.text.now a.s.now a.seed (length l.index) (get_or a.out.now l.j 0) room),
      (omega (arith, c.requires.1, same, c.loop-j-test.true), omega (arith, c.requires.1, same)),
    )

pub loop-j-preserved : goal.loop-j-preserved
loop-j-preserved c =
    let q = (goal.at.loop-j-preserved c).After-bucket-b in
    let a = c.args in
    let l = c.loop-j in
    let t = c.loop-j-test.true in
    let same = long q in
    chains-next a.text.now a.s.now a.seed a.out.now l.j l.index (omega (arith, t, c.requires.0)) (omega (arith, c.requires.1, same))
    (omega (arith, c.requires.1, same, t)) l.invariant c.bucket-b.result c.link.new.index c.link.ensures (its_bucket q)

pub returns : goal.returns
returns c =
    let a = c.args in
    let l = c.loop-j in
    let e : l.j ≡ a.m = omega arith in
    subst (λ (k : ℕ). ChainsOf a.text.now a.s.now a.seed (take k a.out.now) l.index) e l.invariant
