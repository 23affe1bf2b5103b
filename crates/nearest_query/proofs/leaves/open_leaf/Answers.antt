use Rattle.std.proofs.lemmas.Result.{err_from_is_err_and}
use Rattle.std.proofs.Common.{subst, refl, inl, inr, rules}
use Rattle.segment_file.specs.Heads.{page_of}
use Rattle.inner_pack.specs.Trees.{Leaf}
use Rattle.documents.specs.NearestEntries.{nears_of}
use Rattle.nearest_query.specs.Best.{AreAdded}
use Rattle.nearest_query.specs.Segments.{live_items}
use Rattle.nearest_query.proofs.Placed.{one_holding, holding_page}
use Rattle.page_cache.proofs.Unread.{reads_failed}
use Rattle.page_cache.proofs.Agreement.{pages_alike, file_alike, agrees_alike}
use Rattle.nearest_query.proofs.Passed.{dead_added, passed_dead, seen_dead}
use Rattle.nearest_query.proofs.leaves.open_leaf.Goals as goal

-- ---- it is known to be dead

pub returns-then-is_known_dead-clause-found : goal.returns-then-is_known_dead-clause-found
returns-then-is_known_dead-clause-found g c = λ told agrees first s path len own items seen is holds best.
    let known = c.is_known_dead.ensures c.if-is_known_dead.true in
    let dead = known.1 in
    dead_added c.args.at.now.c c.args.live.now items seen c.args.found.now
    (passed_dead g.row.D (g.F.Pages.files c.args.folder.now) c.args.cache.now c.args.head.now first s len own items c.args.live.now dead.place dead.page agrees
    (c.requires.hides (c.may_be_dead-watch.ensures known.0)) (dead.stands first s path (Leaf len own) is) dead.known holds) best

pub returns-then-is_known_dead-clause-kept : goal.returns-then-is_known_dead-clause-kept
returns-then-is_known_dead-clause-kept g c = λ first s path t is kept. record { reads = refl; kept = λ i n k. k }

-- ---- what is known to be dead afterwards

pub returns-clause-marks : goal.returns-clause-marks
returns-clause-marks g c = λ i number offset len page known. elim (c.remember.ensures.marks i number offset len page known) [
  | inl was ↦ inl (c.in_ok-place.ensures.reading.marks i number offset len page was)
  | inr this ↦
      let dead = c.has_none_live-dead.ensures this.0 in
      inr (
        c.may_be_dead-watch.ensures dead.0,
        this.2,
        seen_dead g.row.D c.load_leaf.new.cache c.args.head.now.id (page_of c.args.head.now c.in_ok-place.place.page) c.in_ok-place.place.offset
            c.in_ok-place.place.length c.in-Some.view c.args.live.now c.in-Some.ensures.spelled dead.1 i number offset len page this.1 this.2 this.3 this.4
            this.5,
      )
]

pub returns-clause-reading : goal.returns-clause-reading
returns-clause-reading g c =
    let h = c.in_ok-place.ensures.reading in
    record {
      files = h.files;
      others = λ i kept. h.others i (file_alike c.load_leaf.new.cache c.remember.new.cache c.remember.ensures.keeps i kept);
      agrees = λ told agrees.
          agrees_alike c.load_leaf.new.cache c.remember.new.cache c.remember.ensures.keeps (g.F.Pages.files c.args.folder.now) (h.agrees told agrees);
      cause = search rules;
    }

-- ---- the entries

pub returns-clause-found : goal.returns-clause-found
returns-clause-found g c = λ told agrees first s path len own items seen is holds best.
    let place = c.in_ok-place.ensures.place first s path (Leaf len own) is in
    let here = c.in-Some.ensures.some (g.F.Pages.files c.args.folder.now) first s path len own (c.in_ok-place.ensures.reading.agrees told agrees) is place in
    let same = one_holding _ _ _ _ _ _ _ c.in-Some.view items here holds in
    subst (λ xs. AreAdded seen (nears_of c.args.at.now.c (live_items c.args.live.now xs)) c.offer_leaf.new.found) same
    (c.in_ok-offer_leaf.ensures.found seen best)

pub returns-in_err-place-clause-whole : goal.returns-in_err-place-clause-whole
returns-in_err-place-clause-whole g c = λ told agrees first s path len own items is holds.
    let h = c.in_err-place.ensures.whole told first s path (Leaf len own) is (holding_page _ _ _ _ _ _ _ items holds) in
    let p = err_from_is_err_and c.from_residual.result c.from_residual.ensures.1 in
    rw (p.1, p.2) h

pub returns-in_default-clause-whole : goal.returns-in_default-clause-whole
returns-in_default-clause-whole g c = λ told agrees first s path len own items is holds.
    absurd (c.in_default.ensures.none (g.F.Pages.files c.args.folder.now) first s path len own (c.in_ok-place.ensures.reading.agrees told agrees) is
    (c.in_ok-place.ensures.place first s path (Leaf len own) is) items holds)

pub returns-in_err-place-clause-shown : goal.returns-in_err-place-clause-shown
returns-in_err-place-clause-shown g c = λ first s path t is.
    let h = c.in_err-place.ensures.shown first s path t is in
    let p = err_from_is_err_and c.from_residual.result c.from_residual.ensures.1 in
    rw (p.1, p.2) h

pub returns-in_default-clause-shown : goal.returns-in_default-clause-shown
returns-in_default-clause-shown g c = λ first s path t is. c.bad_leaf.ensures.shown first s path t is (c.in_ok-place.ensures.place first s path t is)

-- ---- its page is kept

pub returns-in_err-place-clause-kept : goal.returns-in_err-place-clause-kept
returns-in_err-place-clause-kept g c = λ first s path t is kept.
    let hit = c.in_err-place.ensures.hit first s path t is kept in
    absurd (let no_ok = hit.0 in cc)

pub returns-in_default-clause-kept : goal.returns-in_default-clause-kept
returns-in_default-clause-kept g c = λ first s path t is kept.
    let hit = c.in_ok-place.ensures.hit first s path t is kept in
    record { reads = hit.1; kept = tt }

pub returns-in_err-offer_leaf-clause-kept : goal.returns-in_err-offer_leaf-clause-kept
returns-in_err-offer_leaf-clause-kept g c = λ first s path t is kept.
    let hit = c.in_ok-place.ensures.hit first s path t is kept in
    let p = err_from_is_err_and c.from_residual-in_err-offer_leaf.result c.from_residual-in_err-offer_leaf.ensures.1 in
    reads_failed _ _ _ _ _ _ p.1 hit.1

pub returns-clause-kept : goal.returns-clause-kept
returns-clause-kept g c = λ first s path t is kept.
    let hit = c.in_ok-place.ensures.hit first s path t is kept in
    let alike = pages_alike c.load_leaf.new.cache c.remember.new.cache c.remember.ensures.keeps in
    record { reads = hit.1; kept = λ i n k. alike i n (hit.2 i n k) }
