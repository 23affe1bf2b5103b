-- The segment is listed as the last commit does, or its live bits are written.
use Rattle.std.proofs.Common.{◌≢◌, ◌≡◌, ◌∙◌, ◌++◌, ◌∷◌, ℕ, List, [], refl, ap, inl, inr, arith}
use Rattle.std.specs.Prelude.{IsTrue}
use Rattle.outer_io.specs.declared.file_name.FileName.{FileName}
use Rattle.outer_io.specs.declared.file_name.FileName.TheVariants.{Live}
use Rattle.commit_list.specs.declared.listed.Listed.{Listed}
use Rattle.commit_list.specs.Commits.{IsListed}
use Rattle.segment_view.specs.LiveSegments.{live_segment}
use Rattle.file_names.specs.Names.{is_named}
use Rattle.segment_set.specs.Saved.{IsAnew, IsLineOf, IsSaved}
use Rattle.segment_set.proofs.Carried.{keeps_none}
use Rattle.segment_set.proofs.Chosen.{if_ok}
use Rattle.segment_set.proofs.Saving.{done_cause, if_ok_both}
use Rattle.segment_set.proofs.SavedSegments.{other_live}
use Rattle.segment_set.proofs.save.list_one.Goals as goal

-- ---- as in the last commit

pub returns-in-Some-clause-kept : goal.returns-in-Some-clause-kept
returns-in-Some-clause-kept g c = keeps_none (IsTrue g.F.Pages.told) c.args.names.now (g.F.Pages.files c.args.folder.now)

pub returns-in-Some-clause-listed : goal.returns-in-Some-clause-listed
returns-in-Some-clause-listed g c =
    let below = c.next_segment.ensures.below.below c.args.head.now.id c.requires.named in
    let line = c.in-Some.ensures.some.1 in
    record {
      line = line;
      may = record {
        id = omega (arith, below, line.segment);
        some = omega (arith, c.index.ensures.ranges.some, line.entries);
        most = omega (arith, c.index.ensures.ranges.few, line.entries);
        live = omega (arith, c.requires.fits, line.entries, line.live);
      };
      set = c.live_count.ensures.set;
      how = inl c.in-Some.ensures.some;
    }

pub returns-in-Some-clause-apart : goal.returns-in-Some-clause-apart
returns-in-Some-clause-apart g c = λ id n other. refl

pub returns-in-Some-clause-cause : goal.returns-in-Some-clause-cause
returns-in-Some-clause-cause g c = done_cause (g.F.Pages.faults c.args.folder.now) (g.F.Pages.faults c.args.folder.now) _ refl

-- ---- anew

pub returns-in-None-clause-kept : goal.returns-in-None-clause-kept
returns-in-None-clause-kept g c = c.write_one.ensures.kept

pub returns-in-None-clause-next : goal.returns-in-None-clause-next
returns-in-None-clause-next g c = c.write_one.ensures.next

pub returns-in-None-clause-listed : goal.returns-in-None-clause-listed
returns-in-None-clause-listed g c =
    let p = live_segment c.args.head.now c.args.live.now in
    let names = c.write_one.new.names in
    let files = g.F.Pages.files c.write_one.new.folder in
    if_ok_both c.write_one.result (λ (l : Listed). IsLineOf names l p × IsListed names.next_segment l)
    (λ (l : Listed). IsAnew (IsTrue g.F.Pages.told) c.args.names.now files l c.args.live.now)
    (λ (l : Listed). IsSaved (IsTrue g.F.Pages.told) c.args.last.now c.args.names.now names files l p)
    (λ l is anew. record { line = is.0; may = is.1; set = c.live_count.ensures.set; how = inr (c.in-None.ensures.none, anew) })
    c.write_one.ensures.line c.write_one.ensures.anew

pub returns-in-None-clause-apart : goal.returns-in-None-clause-apart
returns-in-None-clause-apart g c =
    let old = c.args.names.now.names in
    let new = c.write_one.new.names.names in
    if_ok c.write_one.result (λ (l : Listed). new ≡ old ++ Live l.segment l.generation ∷ [])
    (λ (l : Listed). (id n : ℕ) → id ≢ l.segment → is_named new (Live id n) ≡ is_named old (Live id n))
    (λ l joined id n other. ap (λ (ns : List FileName). is_named ns (Live id n)) joined ∙ other_live old l.segment l.generation id n other)
    c.write_one.ensures.joined

pub returns-in-None-clause-reads : goal.returns-in-None-clause-reads
returns-in-None-clause-reads g c = c.write_one.ensures.reads

pub returns-in-None-clause-cause : goal.returns-in-None-clause-cause
returns-in-None-clause-cause g c = c.write_one.ensures.cause

pub returns-in-None-clause-whole : goal.returns-in-None-clause-whole
returns-in-None-clause-whole g c = c.write_one.ensures.whole
