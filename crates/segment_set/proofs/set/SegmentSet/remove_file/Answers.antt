use Rattle.std.proofs.Common.{◌≡◌, ◌∙◌, not, sym, ap, subst, refl}
use Rattle.std.specs.Prelude.{IsTrue}
use Rattle.std.specs.List.{filter}
use Rattle.outer_io.specs.declared.file_name.FileName.{FileName}
use Rattle.outer_io.specs.Names.{same_name}
use Rattle.page_cache.specs.Cache.{Agrees, KeepsFile, MarksGo}
use Rattle.file_names.specs.Names.{NameList}
use Rattle.segment_set.specs.Sets.{IsWell, SetData}
use Rattle.segment_set.proofs.Well.{well_cache}
use Rattle.segment_set.proofs.Sweeping.{names_but, sees_swept, swept_removed, swept_torn, well_swept}
use Rattle.segment_set.proofs.Viewing.{faithful_swept}
use Rattle.segment_set.proofs.set.SegmentSet.remove_file.Goals as goal
use Rattle.segment_set.proofs.Unhidden.{unhidden_still}
use Rattle.segment_set.proofs.Refused.{never_ok}
use Rattle.segment_set.proofs.Exits.{same_fault}

pub invariant_of-self : goal.invariant_of-self
invariant_of-self g c = well_cache g.row.D _ c.forget.new.cache c.self.invariant (λ id keeps. c.self.invariant.cached id (c.forget.ensures.fewer id keeps))
    (unhidden_still g.row.D c.self.inside.cache c.forget.new.cache c.self.inside.segments c.forget.ensures.marks c.self.invariant.unhidden)

pub invariant_of-self-2 : goal.invariant_of-self-2
invariant_of-self-2 g c =
    let s = c.args.self.now in
    let same : c.remove-2.new.self ≡ names_but c.args.name.now s.names =
    (λ i. record { names = c.remove-2.ensures.names i; next_segment = c.remove-2.ensures.next i })
    ∙ ap (λ (u : SetData). names_but c.args.name.now u.names) c.self.view_is in
    subst (λ (u : SetData). IsWell g.row.D (record u { names = c.remove-2.new.self; cache = c.forget.new.cache })) (sym c.self.view_is)
    (subst (λ (n : NameList). IsWell g.row.D (record s { names = n; cache = c.forget.new.cache })) (sym same)
    (well_swept g.row.D s c.args.c.now c.args.name.now c.forget.new.cache (subst (IsWell g.row.D) c.self.view_is c.self.invariant) c.requires.named
    c.requires.unneeded (subst (λ (u : SetData). MarksGo u.cache c.forget.new.cache) c.self.view_is c.forget.ensures.marks)
    (λ id keeps. subst (λ (u : SetData). KeepsFile u.cache id) c.self.view_is (c.forget.ensures.fewer id keeps)) c.forget.ensures.gone))

pub returns-in_err-remove-clause-seen : goal.returns-in_err-remove-clause-seen
returns-in_err-remove-clause-seen g c = λ told i seen.
    let s = c.args.self.now in
    let files = g.F.Pages.files c.args.folder.now in
    sees_swept g.row.D s c.args.c.now c.args.name.now c.forget.new.cache (subst (IsWell g.row.D) c.self.view_is c.self.invariant) c.requires.named
    c.requires.unneeded (subst (λ (u : SetData). MarksGo u.cache c.forget.new.cache) c.self.view_is c.forget.ensures.marks)
    (λ id keeps. subst (λ (u : SetData). KeepsFile u.cache id) c.self.view_is (c.forget.ensures.fewer id keeps)) c.forget.ensures.gone
    files (g.F.Pages.files c.remove.new.self) _ i (c.in_err-remove.ensures.others told)
    (c.forget.ensures.agrees files (subst (λ (u : SetData). Agrees files u.cache) (sym c.self.view_is) seen.stands.agrees))
    (record {
      leaf_size = ap (λ (u : SetData). u.leaf_size) c.self.view_is;
      next = ap (λ (u : SetData). u.next) c.self.view_is;
      points_given = ap (λ (u : SetData). u.points_given) c.self.view_is;
      snapshots = ap (λ (u : SetData). u.snapshots) c.self.view_is;
    })
    (ap (λ (u : SetData). u.parts) c.self.view_is) (ap (λ (u : SetData). u.buffer) c.self.view_is) (ap (λ (u : SetData). u.begun) c.self.view_is) refl seen

pub returns-clause-seen : goal.returns-clause-seen
returns-clause-seen g c = λ told i seen.
    let s = c.args.self.now in
    let files = g.F.Pages.files c.args.folder.now in
    sees_swept g.row.D s c.args.c.now c.args.name.now c.forget.new.cache (subst (IsWell g.row.D) c.self.view_is c.self.invariant) c.requires.named
    c.requires.unneeded (subst (λ (u : SetData). MarksGo u.cache c.forget.new.cache) c.self.view_is c.forget.ensures.marks)
    (λ id keeps. subst (λ (u : SetData). KeepsFile u.cache id) c.self.view_is (c.forget.ensures.fewer id keeps)) c.forget.ensures.gone
    files (g.F.Pages.files c.remove.new.self) _ i (c.in_ok-remove.ensures.others told)
    (c.forget.ensures.agrees files (subst (λ (u : SetData). Agrees files u.cache) (sym c.self.view_is) seen.stands.agrees))
    (record {
      leaf_size = ap (λ (u : SetData). u.leaf_size) c.self.view_is;
      next = ap (λ (u : SetData). u.next) c.self.view_is;
      points_given = ap (λ (u : SetData). u.points_given) c.self.view_is;
      snapshots = ap (λ (u : SetData). u.snapshots) c.self.view_is;
    })
    (ap (λ (u : SetData). u.parts) c.self.view_is) (ap (λ (u : SetData). u.buffer) c.self.view_is) (ap (λ (u : SetData). u.begun) c.self.view_is) refl seen

pub returns-in_err-remove-clause-swept : goal.returns-in_err-remove-clause-swept
returns-in_err-remove-clause-swept g c =
    swept_torn (IsTrue g.F.Pages.told) c.args.c.now c.args.self.now _ (g.F.Pages.files c.args.folder.now) (g.F.Pages.files c.remove.new.self) c.args.name.now
    c.requires.named
    (subst (IsWell g.row.D) c.self.view_is c.self.invariant).own c.requires.unneeded
    (ap (λ (u : SetData). record u { cache = c.forget.new.cache }) c.self.view_is) c.in_err-remove.ensures.others

pub returns-clause-swept : goal.returns-clause-swept
returns-clause-swept g c =
    let s = c.args.self.now in
    let same : c.remove-2.new.self ≡ names_but c.args.name.now s.names =
    (λ i. record { names = c.remove-2.ensures.names i; next_segment = c.remove-2.ensures.next i })
    ∙ ap (λ (u : SetData). names_but c.args.name.now u.names) c.self.view_is in
    swept_removed (IsTrue g.F.Pages.told) c.args.c.now s _ (g.F.Pages.files c.args.folder.now) (g.F.Pages.files c.remove.new.self) c.args.name.now
    c.requires.named
    (subst (IsWell g.row.D) c.self.view_is c.self.invariant).own c.requires.unneeded
    (ap (λ (u : SetData). record u { names = c.remove-2.new.self; cache = c.forget.new.cache }) c.self.view_is
    ∙ ap (λ (n : NameList). record s { names = n; cache = c.forget.new.cache }) same)
    c.in_ok-remove.ensures.others c.in_ok-remove.ensures.gone

pub returns-clause-names : goal.returns-clause-names
returns-clause-names g c =
    c.remove-2.ensures.names ∙ ap (λ (u : SetData). filter (λ (n : FileName). not (same_name n c.args.name.now)) u.names.names) c.self.view_is

pub returns-in_err-remove-clause-faithful : goal.returns-in_err-remove-clause-faithful
returns-in_err-remove-clause-faithful g c = λ told keeps.
    let files = g.F.Pages.files c.args.folder.now in
    faithful_swept g.row.D c.args.self.now _ c.args.c.now c.args.name.now files (g.F.Pages.files c.remove.new.self) c.requires.unneeded c.forget.ensures.gone
    (c.in_err-remove.ensures.others told)
    (c.forget.ensures.agrees files (subst (λ (u : SetData). Agrees files u.cache) (sym c.self.view_is) keeps.pages))
    (ap (λ (u : SetData). u.parts) c.self.view_is) (ap (λ (u : SetData). u.snapshots) c.self.view_is)
    (ap (λ (u : SetData). u.begun) c.self.view_is) keeps

pub returns-clause-faithful : goal.returns-clause-faithful
returns-clause-faithful g c = λ told keeps.
    let files = g.F.Pages.files c.args.folder.now in
    faithful_swept g.row.D c.args.self.now _ c.args.c.now c.args.name.now files (g.F.Pages.files c.remove.new.self) c.requires.unneeded c.forget.ensures.gone
    (c.in_ok-remove.ensures.others told)
    (c.forget.ensures.agrees files (subst (λ (u : SetData). Agrees files u.cache) (sym c.self.view_is) keeps.pages))
    (ap (λ (u : SetData). u.parts) c.self.view_is) (ap (λ (u : SetData). u.snapshots) c.self.view_is)
    (ap (λ (u : SetData). u.begun) c.self.view_is) keeps

pub returns-in_err-remove-clause-names : goal.returns-in_err-remove-clause-names
returns-in_err-remove-clause-names g c = never_ok _ c.from_residual.result c.from_residual.ensures.1 _

pub returns-in_err-remove-clause-unread : goal.returns-in_err-remove-clause-unread
returns-in_err-remove-clause-unread g c = c.remove.ensures.reads

pub returns-in_err-remove-clause-cause : goal.returns-in_err-remove-clause-cause
returns-in_err-remove-clause-cause g c =
    same_fault _ (g.F.Pages.faults c.args.folder.now) (g.F.Pages.faults c.remove.new.self) _ c.from_residual.result c.from_residual.ensures.1
    c.in_err-remove.ensures.cause

pub returns-clause-unread : goal.returns-clause-unread
returns-clause-unread g c = c.remove.ensures.reads

pub returns-clause-cause : goal.returns-clause-cause
returns-clause-cause g c = record { later = c.in_ok-remove.ensures.cause.later; on_ok = c.in_ok-remove.ensures.cause.on_ok; failed = tt }
