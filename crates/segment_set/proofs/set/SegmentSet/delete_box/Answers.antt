-- The hits of a visit are taken out.
use Rattle.std.proofs.Common.{◌≡◌, ℕ, List, length, refl, sym, ap, subst, ◌∙◌}
use Rattle.std.specs.Prelude.{IsTrue}
use Rattle.std.proofs.lemmas.Result.{err_from_is_err_and}
use Rattle.point_codec.specs.Points.{Region, in_box}
use Rattle.cell_relate.specs.Boxes.{CountedBox, crosses}
use Rattle.documents.specs.Documents.{Document, hits}
use Rattle.segment_view.specs.LiveSegments.{heads_of}
use Rattle.segment_view.specs.Costs.{AreTouched}
use Rattle.segment_set.specs.Seen.{Sees}
use Rattle.segment_set.proofs.Changed.{docs_but, docs_hit}
use Rattle.segment_set.proofs.Refused.{at_error, never_ok, never_value, same_cause, same_damage}
use Rattle.segment_set.proofs.Carried.{follows_cached, follows_then, stays_cached, stays_then}
use Rattle.segment_set.proofs.Causes.{memory_cause}
use Rattle.segment_set.proofs.Counts.{counts_cached, counts_then}
use Rattle.segment_set.proofs.Saving.{done_cause}
use Rattle.segment_set.specs.Sets.{SetData}
use Rattle.file_names.specs.Names.{is_named}
use Rattle.segment_file.specs.Damages.{IsLeafDamageOf}
use Rattle.segment_view.specs.Damages.{IsPartDamage}
use Rattle.segment_set.specs.Faithful.{IsFaithful}
use Rattle.index_opening.specs.Evidence.{IsEvidentOf}
use Rattle.segment_set.proofs.set.SegmentSet.delete_box.Goals as goal

pub returns-in_err-hits-clause-reads : goal.returns-in_err-hits-clause-reads
returns-in_err-hits-clause-reads g c = λ n are.
    c.in_err-hits.ensures.reads n
    (subst (λ (b : CountedBox). AreTouched g.row.D (in_box b.bounds) (crosses b.bounds) (heads_of c.args.self.now.parts) n) (sym c.new-shape.ensures) are)

pub returns-in_default-clause-reads : goal.returns-in_default-clause-reads
returns-in_default-clause-reads g c = λ n are.
    c.in_ok-hits.ensures.reads n
    (subst (λ (b : CountedBox). AreTouched g.row.D (in_box b.bounds) (crosses b.bounds) (heads_of c.args.self.now.parts) n) (sym c.new-shape.ensures) are)

pub returns-clause-seen : goal.returns-clause-seen
returns-clause-seen g c = λ told i seen.
    let bounds : Region = record { lo = c.args.lo.now.c; hi = c.args.hi.now.c } in
    let found : c.as_slice.result.now ≡ hits (in_box bounds) i.docs =
    c.as_slice.ensures.value ∙ c.in_ok-hits.ensures.found told i seen i.docs refl
    ∙ ap (λ (b : CountedBox). hits (in_box b.bounds) i.docs) c.new-shape.ensures in
    subst (λ (ds : List Document). Sees g.row.D (g.F.Pages.files c.visit.new.folder) c.delete_all.new.self (record i { docs = ds }))
    (ap (λ (ns : List ℕ). docs_but ns i.docs) found ∙ docs_hit (in_box bounds) i.docs seen.docs.ascend)
    (c.delete_all.ensures.seen (g.F.Pages.files c.visit.new.folder) i (c.in_ok-hits.ensures.seen told i seen))

pub returns-clause-count : goal.returns-clause-count
returns-clause-count g c = λ told i seen.
    c.in-Ok.ensures.1 ∙ c.len.ensures ∙ sym c.as_slice.ensures.len
    ∙ ap length (c.as_slice.ensures.value ∙ c.in_ok-hits.ensures.found told i seen i.docs refl
    ∙ ap (λ (b : CountedBox). hits (in_box b.bounds) i.docs) c.new-shape.ensures)

pub returns-clause-reads : goal.returns-clause-reads
returns-clause-reads g c = λ n are.
    c.in_ok-hits.ensures.reads n
    (subst (λ (b : CountedBox). AreTouched g.row.D (in_box b.bounds) (crosses b.bounds) (heads_of c.args.self.now.parts) n) (sym c.new-shape.ensures) are)

pub returns-in_err-hits-clause-seen : goal.returns-in_err-hits-clause-seen
returns-in_err-hits-clause-seen g c = λ told i seen. never_ok _ c.from_residual.result c.from_residual.ensures.1 _

pub returns-in_err-hits-clause-count : goal.returns-in_err-hits-clause-count
returns-in_err-hits-clause-count g c = λ told i seen. never_value _ c.from_residual.result c.from_residual.ensures.1 _

pub returns-in_err-hits-clause-refused : goal.returns-in_err-hits-clause-refused
returns-in_err-hits-clause-refused g c = λ told i seen.
    at_error _ c.from_residual.result c.from_residual.ensures.1 _ (c.visit.ensures.seen told i seen)

pub returns-in_err-hits-clause-files : goal.returns-in_err-hits-clause-files
returns-in_err-hits-clause-files g c = c.visit.ensures.files

pub returns-in_err-hits-clause-deletes : goal.returns-in_err-hits-clause-deletes
returns-in_err-hits-clause-deletes g c = record {
  stays = stays_cached c.args.self.now c.visit.new.self c.visit.ensures.rest;
  follows = follows_cached c.args.self.now c.visit.new.self c.visit.ensures.rest;
  counts = λ E files. counts_cached E files c.args.self.now c.visit.new.self c.visit.ensures.rest;
  names = ap (λ (s : SetData). s.names) c.visit.ensures.rest.is;
  saved = ap (λ (s : SetData). s.saved) c.visit.ensures.rest.is;
}

pub returns-in_default-clause-files : goal.returns-in_default-clause-files
returns-in_default-clause-files g c = c.visit.ensures.files

pub returns-in_default-clause-deletes : goal.returns-in_default-clause-deletes
returns-in_default-clause-deletes g c = record {
  stays = stays_cached c.args.self.now c.visit.new.self c.visit.ensures.rest;
  follows = follows_cached c.args.self.now c.visit.new.self c.visit.ensures.rest;
  counts = λ E files. counts_cached E files c.args.self.now c.visit.new.self c.visit.ensures.rest;
  names = ap (λ (s : SetData). s.names) c.visit.ensures.rest.is;
  saved = ap (λ (s : SetData). s.saved) c.visit.ensures.rest.is;
}

pub returns-in_err-hits-clause-cause : goal.returns-in_err-hits-clause-cause
returns-in_err-hits-clause-cause g c =
    same_cause (g.F.Pages.faults c.args.folder.now) (g.F.Pages.faults c.visit.new.folder) c.in_err-hits.field-0.0 c.from_residual.result
    c.from_residual.ensures.1 c.in_err-hits.ensures.cause

pub returns-in_err-hits-clause-faithful : goal.returns-in_err-hits-clause-faithful
returns-in_err-hits-clause-faithful g c = λ told keeps. c.visit.ensures.faithful told keeps

pub returns-in_err-hits-clause-damaged : goal.returns-in_err-hits-clause-damaged
returns-in_err-hits-clause-damaged g c = record {
  whole = λ told i seen.
      let p = err_from_is_err_and c.from_residual.result c.from_residual.ensures.1 in
      rw (p.1, p.2) (c.in_err-hits.ensures.damaged.whole told i seen);
  shown = same_damage (IsPartDamage g.row.D c.args.self.now.parts) c.in_err-hits.field-0.0 c.from_residual.result c.from_residual.ensures.1
      c.in_err-hits.ensures.damaged.shown;
  damage = λ told agrees. same_damage (IsLeafDamageOf (g.F.Pages.files c.args.folder.now)) c.in_err-hits.field-0.0 c.from_residual.result
      c.from_residual.ensures.1 (c.in_err-hits.ensures.damaged.damage told agrees);
  evident = same_damage
      (IsEvidentOf c.args.self.now.parts (IsTrue g.F.Pages.told × IsFaithful g.row.D (g.F.Pages.files c.args.folder.now) c.args.self.now)
      (g.F.Pages.files c.visit.new.folder))
      c.in_err-hits.field-0.0 c.from_residual.result c.from_residual.ensures.1 c.in_err-hits.ensures.damaged.evident;
}

pub returns-in_default-clause-faithful : goal.returns-in_default-clause-faithful
returns-in_default-clause-faithful g c = λ told keeps. c.visit.ensures.faithful told keeps

pub returns-in_default-clause-seen : goal.returns-in_default-clause-seen
returns-in_default-clause-seen g c = λ told i seen. tt

pub returns-in_default-clause-count : goal.returns-in_default-clause-count
returns-in_default-clause-count g c = λ told i seen. tt

pub returns-in_default-clause-refused : goal.returns-in_default-clause-refused
returns-in_default-clause-refused g c = λ told i seen. c.visit.ensures.seen told i seen

pub returns-in_default-clause-cause : goal.returns-in_default-clause-cause
returns-in_default-clause-cause g c =
    memory_cause (g.F.Pages.faults c.args.folder.now) (g.F.Pages.faults c.visit.new.folder) c.in_ok-hits.ensures.cause.on_ok

pub returns-in_default-clause-damaged : goal.returns-in_default-clause-damaged
returns-in_default-clause-damaged g c = record {
  whole = λ told i seen. tt;
  shown = tt;
  damage = λ told agrees. tt;
  evident = tt;
}

pub returns-clause-refused : goal.returns-clause-refused
returns-clause-refused g c = λ told i seen. tt

pub returns-clause-files : goal.returns-clause-files
returns-clause-files g c = c.visit.ensures.files

pub returns-clause-deletes : goal.returns-clause-deletes
returns-clause-deletes g c = record {
  stays = stays_then c.args.self.now c.visit.new.self c.delete_all.new.self (stays_cached c.args.self.now c.visit.new.self c.visit.ensures.rest)
      c.delete_all.ensures.stays;
  follows = follows_then c.args.self.now.names c.visit.new.self.names c.args.self.now.parts c.visit.new.self.parts c.delete_all.new.self.parts
      (λ m named. ap (λ (s : SetData). is_named s.names.names m) c.visit.ensures.rest.is ∙ named)
      (follows_cached c.args.self.now c.visit.new.self c.visit.ensures.rest) c.delete_all.ensures.follows;
  counts = λ E files. counts_then E files files files c.args.self.now c.visit.new.self c.delete_all.new.self
      (counts_cached E files c.args.self.now c.visit.new.self c.visit.ensures.rest) (c.delete_all.ensures.counts E files);
  names = c.delete_all.ensures.names ∙ ap (λ (s : SetData). s.names) c.visit.ensures.rest.is;
  saved = c.delete_all.ensures.saved ∙ ap (λ (s : SetData). s.saved) c.visit.ensures.rest.is;
}

pub returns-clause-cause : goal.returns-clause-cause
returns-clause-cause g c =
    done_cause (g.F.Pages.faults c.args.folder.now) (g.F.Pages.faults c.visit.new.folder) _ c.in_ok-hits.ensures.cause.on_ok

pub returns-clause-faithful : goal.returns-clause-faithful
returns-clause-faithful g c = λ told keeps. c.delete_all.ensures.faithful (g.F.Pages.files c.visit.new.folder) (c.visit.ensures.faithful told keeps)

pub returns-clause-damaged : goal.returns-clause-damaged
returns-clause-damaged g c = record {
  whole = λ told i seen. tt;
  shown = tt;
  damage = λ told agrees. tt;
  evident = tt;
}

pub returns-in_err-hits-clause-rest : goal.returns-in_err-hits-clause-rest
returns-in_err-hits-clause-rest g c = at_error _ c.from_residual.result c.from_residual.ensures.1 _ c.visit.ensures.rest

pub returns-clause-rest : goal.returns-clause-rest
returns-clause-rest g c = tt
