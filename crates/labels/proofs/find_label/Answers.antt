-- `labels::find_label` meets its contract. The invariant: the labels behind are passed. Assumes nothing.
use mathlib.Core.Path.{◌≡◌, sym, ap, ◌∙◌}
use Prim.Native.Nat.{◌-◌, ◌<◌}
use native.Mathlib.Omega.{arith}
use lib.ListN.{length, get_or}
use Rattle.entries.specs.declared.Label.{Label}
use Rattle.labels.specs.Index.{bucket_of}
use Rattle.labels.proofs.Placing.{named-same}
use Rattle.labels.proofs.Hashing.{bucket-of}
use Rattle.labels.proofs.Searching.{bucket-listed, walk_begins, walk_on, walk_found, walk_ends, next_less}
use Rattle.labels.proofs.find_label.Goals as goal

pub bucket-b-requires : goal.bucket-b-requires
bucket-b-requires c =
    let p = c in
    (p.requires.few, omega (arith, ap (λ (l : Label). l.level) c.label_of-level.ensures))

pub offset_bounds-index-b : goal.offset_bounds-index-b
offset_bounds-index-b c =
    let its_bucket : let a = c.args in c.bucket-b.result ≡ bucket_of a.text.now a.s.now a.seed (length a.index.now) a.w = let a = c.args in
    bucket-of a.text.now a.s.now a.seed (length a.index.now) a.w c.label_of-level.ensures c.name_of-name.ensures c.bucket-b.ensures in
    let listed : c.bucket-b.result < length c.args.index.now = let p = c in
    let a = p.args in
    bucket-listed a.text.now a.s.now a.seed a.m a.out.now a.index.now p.requires a.w c.bucket-b.result (its_bucket) in
    omega (arith, listed, c.requires.few)

pub bounds-index-b : goal.bounds-index-b
bounds-index-b c =
    let its_bucket : let a = c.args in c.bucket-b.result ≡ bucket_of a.text.now a.s.now a.seed (length a.index.now) a.w = let a = c.args in
    bucket-of a.text.now a.s.now a.seed (length a.index.now) a.w c.label_of-level.ensures c.name_of-name.ensures c.bucket-b.ensures in
    let listed : c.bucket-b.result < length c.args.index.now = let p = c in
    let a = p.args in
    bucket-listed a.text.now a.s.now a.seed a.m a.out.now a.index.now p.requires a.w c.bucket-b.result (its_bucket) in
    listed

pub loop-next-init : goal.loop-next-init
loop-next-init c =
    let its_bucket : let a = c.args in c.bucket-b.result ≡ bucket_of a.text.now a.s.now a.seed (length a.index.now) a.w = let a = c.args in
    bucket-of a.text.now a.s.now a.seed (length a.index.now) a.w c.label_of-level.ensures c.name_of-name.ensures c.bucket-b.ensures in
    let p = c in
    let a = p.args in
    let e = its_bucket in
    let w = walk_begins a.text.now a.s.now a.seed a.m a.out.now a.index.now p.requires a.w c.bucket-b.result e in
    (e, (omega (arith, w.inside), w))

pub bounds-out-j : goal.bounds-out-j
bounds-out-j c =
    omega (arith, c.loop-next.invariant.1.1.inside, c.requires.inside)

pub returns-then-is_named : goal.returns-then-is_named
returns-then-is_named c =
    let p = c in
    let a = p.args in
    let l = c.loop-next in
    record {
      place =
          walk_found a.text.now a.s.now a.seed a.m a.out.now a.index.now p.requires a.w l.next l.invariant.1.1 (l.next - 1) (omega arith)
          (sym c.if-is_named.true ∙ named-same a.text.now a.s.now a.w (get_or a.out.now (l.next - 1) 0) c.label_of-level.ensures c.name_of-name.ensures c.is_named.ensures);
      bucket = l.invariant.0;
    }

pub bounds-index-j : goal.bounds-index-j
bounds-index-j c =
    omega (arith, c.loop-next.invariant.1.1.inside, c.requires.room)

pub loop-next-smaller : goal.loop-next-smaller
loop-next-smaller c =
    let p = c in
    let a = p.args in
    let l = c.loop-next in
    next_less a.text.now a.s.now a.seed a.m a.out.now a.index.now p.requires a.w l.next l.invariant.1.1 (l.next - 1) (omega arith)

pub loop-next-preserved : goal.loop-next-preserved
loop-next-preserved c =
    let p = c in
    let a = p.args in
    let l = c.loop-next in
    let less = next_less a.text.now a.s.now a.seed a.m a.out.now a.index.now p.requires a.w l.next l.invariant.1.1 (l.next - 1) (omega arith) in (
      l.invariant.0,
      (
        omega (arith, less),
        walk_on a.text.now a.s.now a.seed a.m a.out.now a.index.now p.requires a.w l.next l.invariant.1.1 (l.next - 1) (omega arith)
            (sym c.if-is_named.false ∙ named-same a.text.now a.s.now a.w (get_or a.out.now (l.next - 1) 0) c.label_of-level.ensures c.name_of-name.ensures c.is_named.ensures),
      ),
    )

pub returns : goal.returns
returns c =
    let p = c in
    let a = p.args in
    let l = c.loop-next in
    record {
      place = walk_ends a.text.now a.s.now a.seed a.m a.out.now a.index.now p.requires a.w l.next l.invariant.1.1 c.loop-next-test.false;
      bucket = l.invariant.0;
    }
