use Rattle.std.proofs.Common.{◌≡◌, ◌<◌, ◌^◌, ℕ, List, arith, ap, ◌∙◌, length}
use Rattle.std.proofs.Math.Logic.{∥∥₁_elim}
use Rattle.std.proofs.Props.{props}
use Rattle.inner_pack.specs.Bodies.{pages_of}
use Rattle.segment_file.specs.Heads.{Fields, fields_of}
use Rattle.segment_file.specs.Written.{head_of}
use Rattle.segment_file.proofs.WrittenTree.{short_leaves, few_leaves, written, head_ranges}
use Rattle.segment_file.proofs.write.write_segment.Goals as goal

pub put_segment-requires-clause-leaves : goal.put_segment-requires-clause-leaves
put_segment-requires-clause-leaves g c =
    ∥∥₁_elim c.requires (hlevel props) (λ w. short_leaves g.row.D c.args.id c.args.leaf_size c.args.entries c.args.index c.args.leaves.now w.items w.fits)

pub put_segment-requires-clause-few : goal.put_segment-requires-clause-few
put_segment-requires-clause-few g c =
    ∥∥₁_elim c.requires (hlevel props) (λ w. few_leaves g.row.D c.args.id c.args.leaf_size c.args.entries c.args.index c.args.leaves.now w.items w.fits)

pub invariant_of-result : goal.invariant_of-result
invariant_of-result g c =
    let got = c.in-Ok.ensures in
    let long : c.in-Ok.index_length ≡ length c.args.index.bytes = got.1 ∙ ap (λ (l : List ℕ). length l) c.body.ensures in
    let short : length c.args.index.bytes < 2 ^ 32 = omega arith in
    let small : c.args.id < 2 ^ 64 = omega arith in
    ∥∥₁_elim c.requires (hlevel props)
    (λ w. head_ranges g.row.D c.args.id c.args.leaf_size c.args.entries c.args.index c.args.leaves.now w.items small short w.fits)

pub returns-clause-written : goal.returns-clause-written
returns-clause-written g c = λ told items fits.
    let put = c.in_ok-put_segment.ensures.written told in
    let head = head_of c.args.id c.args.entries c.args.leaf_size c.args.index in
    let said : Fields = record {
      dims = g.row.D;
      form = c.form.result;
      leaf_size = c.args.leaf_size;
      entries = c.args.entries;
      leaves = c.leaves.result;
      index_length = c.in-Ok.index_length;
      leaf_pages = c.leaf_pages.result;
    } in
    let pages : c.leaf_pages.result ≡ pages_of fits.tree = c.leaf_pages.ensures fits.root fits.tree fits.has in
    let got = c.in-Ok.ensures in
    let long : c.in-Ok.index_length ≡ length c.args.index.bytes = got.1 ∙ ap (λ (l : List ℕ). length l) c.body.ensures in
    let same : said ≡ fields_of g.row.D head (pages_of fits.tree) = λ i. record {
      dims = g.row.D;
      form = c.form.ensures i;
      leaf_size = c.args.leaf_size;
      entries = c.args.entries;
      leaves = c.leaves.ensures i;
      index_length = long i;
      leaf_pages = pages i;
    } in
    let short : length c.args.index.bytes < 2 ^ 32 = omega arith in
    let ranges = head_ranges g.row.D c.args.id c.args.leaf_size c.args.entries c.args.index c.args.leaves.now items (omega arith) short fits in
    written g.row.D c.args.id c.args.leaf_size c.args.entries c.args.index c.args.leaves.now items _ put.0 said fits ranges same (omega arith)
    (rw (← c.body-2.ensures) put.1)
