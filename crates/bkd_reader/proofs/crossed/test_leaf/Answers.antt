use Rattle.std.proofs.Common.{refl, arith}
use Rattle.std.proofs.lemmas.Result.{err_from_is_err_and}
use Rattle.outer_io.specs.Files.{bytes_of}
use Rattle.outer_io.specs.declared.file_name.FileName.TheVariants.{Segment}
use Rattle.segment_file.specs.Heads.{count_of}
use Rattle.segment_file.specs.Damages.{IsLeafDamage}
use Rattle.page_cache.proofs.Unread.{reads_failed}
use Rattle.bkd_reader.proofs.Trees.{handed_on, first_page, never_bad, tested_hits, tested_leaf}
use Rattle.bkd_reader.proofs.crossed.test_leaf.Goals as goal

pub returns-in_err-place-clause-shown : goal.returns-in_err-place-clause-shown
returns-in_err-place-clause-shown g c = λ first s path t is.
    handed_on c.from_residual.result c.in_err-place.field-0.0 (IsLeafDamage g.row.D c.args.head.now first s t) c.from_residual.ensures.1
    (c.in_err-place.ensures.shown first s path t is)

pub returns-in_err-place-clause-whole : goal.returns-in_err-place-clause-whole
returns-in_err-place-clause-whole g c = λ told agrees first s path t items is holds.
    handed_on c.from_residual.result c.in_err-place.field-0.0 (λ _. ⊥) c.from_residual.ensures.1
    (c.in_err-place.ensures.whole told first s path t is (first_page _ _ _ first s t items holds))

pub returns-in_default-clause-shown : goal.returns-in_default-clause-shown
returns-in_default-clause-shown g c = λ first s path t is. c.bad_leaf.ensures.shown first s path t is (c.in_ok-place.ensures.place first s path t is)

pub returns-in_default-clause-whole : goal.returns-in_default-clause-whole
returns-in_default-clause-whole g c = λ told agrees first s path t items is holds.
    absurd (never_bad (bytes_of (g.F.Pages.files c.args.folder.now (Segment c.args.head.now.id))) c.args.head.now c.args.node.now c.in_ok-place.place first s
    path t items is (c.in_ok-place.ensures.place first s path t is) holds
    (λ len own at place here.
    c.in_default.ensures.none (g.F.Pages.files c.args.folder.now) first s path len own (c.in_ok-place.ensures.reading.agrees told agrees) at place items here))

pub returns-in_err-push_tested-clause-tests : goal.returns-in_err-push_tested-clause-tests
returns-in_err-push_tested-clause-tests g c = λ first s path t is crossed.
    let all = tested_leaf (g.S.Shape.crosses c.args.shape.now) (count_of c.args.head.now) c.in_ok-place.place first s path t
    (c.in_ok-place.ensures.place first s path t is) crossed in
    let long = c.in-Some.ensures.count first s path t is in
    let few = c.push_tested.ensures.tests in
    omega (arith, all, long, few)

pub returns-clause-tests : goal.returns-clause-tests
returns-clause-tests g c = λ first s path t is crossed.
    let all = tested_leaf (g.S.Shape.crosses c.args.shape.now) (count_of c.args.head.now) c.in_ok-place.place first s path t
    (c.in_ok-place.ensures.place first s path t is) crossed in
    let long = c.in-Some.ensures.count first s path t is in
    let few = c.push_tested.ensures.tests in
    omega (arith, all, long, few)

pub returns-clause-hits : goal.returns-clause-hits
returns-clause-hits g c = λ told agrees first s path t is.
    tested_hits (bytes_of (g.F.Pages.files c.args.folder.now (Segment c.args.head.now.id))) c.args.head.now (g.S.Shape.has c.args.shape.now) c.args.live.now
    c.args.node.now c.in_ok-place.place first s path t c.in-Some.leaf c.args.hits.now.items c.push_tested.new.hits.items
    is (c.in_ok-place.ensures.place first s path t is)
    (λ len own at place.
    c.in-Some.ensures.some (g.F.Pages.files c.args.folder.now) first s path len own (c.in_ok-place.ensures.reading.agrees told agrees) at place)
    c.in_ok-push_tested.ensures.hits

-- ---- what is read

pub returns-in_err-place-clause-reads : goal.returns-in_err-place-clause-reads
returns-in_err-place-clause-reads g c = record {
  most = c.in_err-place.ensures.reads;
  none = λ first s path t is kept.
      let hit = c.in_err-place.ensures.hit first s path t is kept in
      absurd (let no_ok = hit.0 in cc);
}

pub returns-in_default-clause-reads : goal.returns-in_default-clause-reads
returns-in_default-clause-reads g c = record {
  most = c.in_ok-place.ensures.reads;
  none = λ first s path t is kept.
      let hit = c.in_ok-place.ensures.hit first s path t is kept in
      record { reads = hit.1; kept = tt };
}

pub returns-in_err-push_tested-clause-reads : goal.returns-in_err-push_tested-clause-reads
returns-in_err-push_tested-clause-reads g c = record {
  most = c.in_ok-place.ensures.reads;
  none = λ first s path t is kept.
      let hit = c.in_ok-place.ensures.hit first s path t is kept in
      let p = err_from_is_err_and c.from_residual-in_err-push_tested.result c.from_residual-in_err-push_tested.ensures.1 in
      reads_failed _ _ _ _ _ _ p.1 hit.1;
}

pub returns-clause-reads : goal.returns-clause-reads
returns-clause-reads g c = record {
  most = c.in_ok-place.ensures.reads;
  none = λ first s path t is kept.
      let hit = c.in_ok-place.ensures.hit first s path t is kept in
      record { reads = hit.1; kept = hit.2 };
}

-- ---- what is counted

pub returns-clause-counts : goal.returns-clause-counts
returns-clause-counts g c =
    let one = c.requires.leaf in
    let few = c.entries_of.ensures.few in
    record {
      tested = c.entries_of.ensures.count;
      touched = refl;
      few = (omega (arith, one, few), omega (arith, one));
    }
