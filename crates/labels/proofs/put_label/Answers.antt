-- `labels::put_label` meets its contract. Assumes nothing.
use Rattle.labels.proofs.Turns.{replaced, added}
use Rattle.labels.proofs.Searching.{bucket-listed, chains_kept, chains_added}
use Rattle.labels.proofs.put_label.Goals as goal

pub returns-then-k-m : goal.returns-then-k-m
returns-then-k-m c =
    let p = c in
    let a = p.args in
    let f = c.find_label-found in record {
      placed = replaced a.text.now a.s.now a.w a.t.labels a.out.now p.requires.0 f.result.place f.ensures.place
          c.move_label.result c.if-k-m.true c.move_label.ensures;
      chained = chains_kept a.text.now a.s.now a.t.seed a.t.labels a.out.now a.index.now p.requires.1 a.w
          f.result.place c.move_label.result c.if-k-m.true c.move_label.ensures;
    }

pub link-requires : goal.link-requires
link-requires c =
    let p = c in
    let a = p.args in
    let f = c.find_label-found in (
      bucket-listed a.text.now a.s.now a.t.seed a.t.labels a.out.now a.index.now p.requires.1 a.w f.result.bucket f.ensures.bucket,
      (p.requires.1.room, p.requires.1.few),
    )

pub returns : goal.returns
returns c =
    let p = c in
    let a = p.args in
    let f = c.find_label-found in
    let q = c.link in record {
      placed = added a.text.now a.s.now a.w a.t.labels a.out.now p.requires.0 f.result.place f.ensures.place c.if-k-m.false;
      chained = chains_added a.text.now a.s.now a.t.seed a.out.now a.t.labels a.index.now p.requires.0 p.requires.1.few p.requires.1.room p.requires.1.chains
          f.result.bucket q.new.index q.ensures a.w f.ensures.bucket;
    }
