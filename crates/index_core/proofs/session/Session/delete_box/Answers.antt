-- The documents in the box are found, and go.
use Rattle.std.proofs.Common.{◌++◌, None, Err, refl, sym, ap, subst, ◌∙◌}
use Rattle.std.proofs.lemmas.Result.{err_from_is_err_and}
use Rattle.page_cache.specs.declared.faults.PageFault.{PageFault}
use Rattle.point_codec.specs.Points.{in_box}
use Rattle.cell_relate.specs.Boxes.{CountedBox, crosses}
use Rattle.documents.specs.Documents.{hits}
use Rattle.script_lang.specs.Replies.{deleted_text}
use Rattle.segment_set.specs.Sets.{SetData}
use Rattle.segment_set.specs.Kept.{Follows, StaysButCache}
use Rattle.index_core.proofs.Answering.{applies_done, applies_fault, applies_seen, applies_unsaid, begins_itself}
use Rattle.index_core.proofs.CalmCalls.{calm_cache, calm_like}
use Rattle.index_core.proofs.Changing.{does_delete_box}
use Rattle.segment_set.proofs.Counts.{counts_read, counts_then}
use Rattle.segment_set.proofs.Sizes.{set_fits}
use Rattle.index_core.proofs.Sizes.{box_fits}
use Rattle.index_core.proofs.Bringing.{brings_named, brings_same, brings_then}
use Rattle.std.proofs.Common.{IsTrue, List, ℤ}
use Rattle.point_codec.specs.Points.{Region}
use Rattle.page_cache.specs.declared.faults.PageFault.TheVariants as page
use Rattle.index_core.specs.Sessions.{SessionData}
use Rattle.index_core.specs.Costs.{ReadsTouched}
use Rattle.index_core.specs.Damages.{ShowsLeaf}
use Rattle.index_core.proofs.Showing.{damage_to, leaf_none, leaf_to}
use Rattle.index_core.proofs.Keeping.{fault_keeps}
use Rattle.index_core.proofs.Guarding.{grows_same}
use Rattle.index_core.proofs.Arranging.{on_err_any}
use Rattle.index_core.specs.Lasting.{Lasts}
use Rattle.index_core.proofs.Lasting.{lasts_cache}
use Rattle.index_core.proofs.Thinned.{AnyGoes, thinned_last}
use Rattle.index_core.proofs.Carrying.{view_shows, views_same}
use Rattle.index_core.proofs.session.Session.delete_box.Goals as goal

pub returns-in_err-hits-clause-applies : goal.returns-in_err-hits-clause-applies
returns-in_err-hits-clause-applies g c =
    let p = err_from_is_err_and c.from_residual.result c.from_residual.ensures.1 in
    applies_seen _ _ _ _ _ _ _ _ _ _ _ c.self.view_is
    (applies_fault _ _ _ _ _ _ c.in_err-hits.field-0.0 (calm_cache _ _ _ _ _ _ _ _ _ _ _ _ c.visit.ensures.rest c.visit.ensures.files c.visit.ensures.faithful)
    (p.1 ∙ ap (λ (e : PageFault). Err e) p.2) c.visit.ensures.seen (begins_itself _) c.in_err-hits.ensures.cause c.in_err-hits.ensures.damaged.whole
    (view_shows {X = Unit {0}} _ _ _ _ None c.self.inside.set (Err c.in_err-hits.field-0.0) (λ t. t) (λ t. c.visit.ensures.files t.0)
    c.in_err-hits.ensures.damaged.evident))

pub returns-in_err-put_deleted-clause-applies : goal.returns-in_err-put_deleted-clause-applies
returns-in_err-put_deleted-clause-applies g c =
    let p = err_from_is_err_and c.from_residual-in_err-put_deleted.result c.from_residual-in_err-put_deleted.ensures.1 in
    applies_seen _ _ _ _ _ _ _ _ _ _ _ c.self.view_is
    (applies_unsaid _ _ _ _ _ _ c.in_ok-hits.hits (calm_cache _ _ _ _ _ _ _ _ _ _ _ _ c.visit.ensures.rest c.visit.ensures.files c.visit.ensures.faithful)
    (p.1 ∙ ap (λ (e : PageFault). Err e) p.2) c.visit.ensures.seen c.in_err-put_deleted.ensures.memory c.in_ok-hits.ensures.cause)

pub returns-clause-applies : goal.returns-clause-applies
returns-clause-applies g c =
    let long = c.in-Ok.ensures.1 ∙ c.len.ensures ∙ sym c.as_slice.ensures.len in
    applies_seen _ _ _ _ _ _ _ _ _ _ _ c.self.view_is
    (applies_done _ _ _ _ _ c.in_ok-hits.hits _
    (calm_like _ _ _ _ _ _ _ _ _ _ _ _ (c.delete_all.ensures.names ∙ ap (λ (u : SetData). u.names) c.visit.ensures.rest.is)
    (grows_same _ _ (c.delete_all.ensures.stays.leaf_size ∙ ap (λ (u : SetData). u.leaf_size) c.visit.ensures.rest.is)
    (c.delete_all.ensures.stays.next ∙ ap (λ (u : SetData). u.next) c.visit.ensures.rest.is)
    (c.delete_all.ensures.stays.points_given ∙ ap (λ (u : SetData). u.points_given) c.visit.ensures.rest.is))
    (subst (λ (u : SetData). Follows u.names u.parts c.delete_all.new.self.parts) c.visit.ensures.rest.is c.delete_all.ensures.follows) c.visit.ensures.files
    (λ told. brings_then _ _ _ _ _ c.visit.new.self.parts
    _ (brings_same _ _ _ _ _ (c.visit.ensures.files told) (ap (λ (u : SetData). u.parts) c.visit.ensures.rest.is))
    (brings_named _ _ _ _ _ _ _ _ told (λ t. refl) c.delete_all.ensures.names c.delete_all.ensures.follows c.leaf_size-leaf_size.ensures.well.named))
    (λ told. views_same _ _ c.self.inside.set c.delete_all.new.self (c.visit.ensures.files told)
    (c.delete_all.ensures.stays.snapshots ∙ ap (λ (u : SetData). u.snapshots) c.visit.ensures.rest.is))
    (λ told. counts_then _ _ (g.F.Pages.files c.visit.new.folder) _ c.self.inside.set c.visit.new.self c.delete_all.new.self
    (counts_read _ _ _ _ _ c.visit.ensures.rest (c.visit.ensures.files told)) (c.delete_all.ensures.counts _ _))
    (λ told faithful. c.delete_all.ensures.faithful _ (c.visit.ensures.faithful told faithful)))
    (λ told i seen. does_delete_box _ _ _ _ _ i _ _ c.as_slice.result.now _ _ seen
    (c.as_slice.ensures.value ∙ c.in_ok-hits.ensures.found told i seen i.docs refl ∙ ap (λ (s : CountedBox). hits (in_box s.bounds) i.docs) c.new-shape.ensures)
    (c.delete_all.ensures.seen _ i (c.visit.ensures.seen told i seen))
    (c.in_ok-put_deleted.ensures.ok ∙ ap (λ n. c.args.out.now.items ++ deleted_text n) long))
    c.in_ok-put_deleted.ensures.ok c.in_ok-hits.ensures.cause)

pub returns-in_default-clause-applies : goal.returns-in_default-clause-applies
returns-in_default-clause-applies g c =
    applies_seen _ _ _ _ _ _ _ _ _ _ _ c.self.view_is
    (applies_unsaid _ _ _ _ _ _ c.in_ok-hits.hits (calm_cache _ _ _ _ _ _ _ _ _ _ _ _ c.visit.ensures.rest c.visit.ensures.files c.visit.ensures.faithful)
    refl c.visit.ensures.seen refl c.in_ok-hits.ensures.cause)

pub leaf_size-leaf_size-requires : goal.leaf_size-leaf_size-requires
leaf_size-leaf_size-requires g c = set_fits g.row.D c.self.invariant.few

pub delete_all-requires : goal.delete_all-requires
delete_all-requires g c = set_fits g.row.D c.self.invariant.few

pub visit-requires : goal.visit-requires
visit-requires g c = (set_fits g.row.D c.self.invariant.few, tt)

pub visit-requires-room-S-Shape : goal.visit-requires-room-S-Shape
visit-requires-room-S-Shape g c κs within = box_fits g.row.D c.self.invariant.few

abbrev bounds_of : List ℤ → List ℤ → Region
bounds_of lo hi = record { lo = lo; hi = hi }

pub returns-in_err-hits-clause-reads : goal.returns-in_err-hits-clause-reads
returns-in_err-hits-clause-reads g c =
    subst (λ (u : SessionData).
    ReadsTouched g.row.D (in_box (bounds_of c.args.lo.now.c c.args.hi.now.c)) (crosses (bounds_of c.args.lo.now.c c.args.hi.now.c)) u.set.parts
    (g.F.Pages.reads c.args.folder.now) (g.F.Pages.reads c.visit.new.folder)) c.self.view_is
    (subst (λ (s : CountedBox). ReadsTouched g.row.D (in_box s.bounds) (crosses s.bounds) c.self.inside.set.parts (g.F.Pages.reads c.args.folder.now)
    (g.F.Pages.reads c.visit.new.folder)) c.new-shape.ensures c.visit.ensures.reads)

pub returns-in_err-put_deleted-clause-reads : goal.returns-in_err-put_deleted-clause-reads
returns-in_err-put_deleted-clause-reads g c =
    subst (λ (u : SessionData).
    ReadsTouched g.row.D (in_box (bounds_of c.args.lo.now.c c.args.hi.now.c)) (crosses (bounds_of c.args.lo.now.c c.args.hi.now.c)) u.set.parts
    (g.F.Pages.reads c.args.folder.now) (g.F.Pages.reads c.visit.new.folder)) c.self.view_is
    (subst (λ (s : CountedBox). ReadsTouched g.row.D (in_box s.bounds) (crosses s.bounds) c.self.inside.set.parts (g.F.Pages.reads c.args.folder.now)
    (g.F.Pages.reads c.visit.new.folder)) c.new-shape.ensures c.visit.ensures.reads)

pub returns-clause-reads : goal.returns-clause-reads
returns-clause-reads g c =
    subst (λ (u : SessionData).
    ReadsTouched g.row.D (in_box (bounds_of c.args.lo.now.c c.args.hi.now.c)) (crosses (bounds_of c.args.lo.now.c c.args.hi.now.c)) u.set.parts
    (g.F.Pages.reads c.args.folder.now) (g.F.Pages.reads c.visit.new.folder)) c.self.view_is
    (subst (λ (s : CountedBox). ReadsTouched g.row.D (in_box s.bounds) (crosses s.bounds) c.self.inside.set.parts (g.F.Pages.reads c.args.folder.now)
    (g.F.Pages.reads c.visit.new.folder)) c.new-shape.ensures c.visit.ensures.reads)

pub returns-in_default-clause-reads : goal.returns-in_default-clause-reads
returns-in_default-clause-reads g c =
    subst (λ (u : SessionData).
    ReadsTouched g.row.D (in_box (bounds_of c.args.lo.now.c c.args.hi.now.c)) (crosses (bounds_of c.args.lo.now.c c.args.hi.now.c)) u.set.parts
    (g.F.Pages.reads c.args.folder.now) (g.F.Pages.reads c.visit.new.folder)) c.self.view_is
    (subst (λ (s : CountedBox). ReadsTouched g.row.D (in_box s.bounds) (crosses s.bounds) c.self.inside.set.parts (g.F.Pages.reads c.args.folder.now)
    (g.F.Pages.reads c.visit.new.folder)) c.new-shape.ensures c.visit.ensures.reads)

pub returns-in_err-hits-clause-damage : goal.returns-in_err-hits-clause-damage
returns-in_err-hits-clause-damage g c =
    let p = err_from_is_err_and c.from_residual.result c.from_residual.ensures.1 in
    subst (λ (u : SessionData). ShowsLeaf g.row.D (IsTrue g.F.Pages.told) (g.F.Pages.files c.args.folder.now) u.set u.set.parts c.from_residual.result)
    c.self.view_is
    (leaf_to {T = Unit {0}} _ _ _ _ _ _ c.in_err-hits.field-0.0 (p.1 ∙ ap (λ (e : PageFault). Err e) p.2)
    (record { shown = c.in_err-hits.ensures.damaged.shown; damage = c.in_err-hits.ensures.damaged.damage }))

pub returns-in_err-put_deleted-clause-damage : goal.returns-in_err-put_deleted-clause-damage
returns-in_err-put_deleted-clause-damage g c =
    let p = err_from_is_err_and c.from_residual-in_err-put_deleted.result c.from_residual-in_err-put_deleted.ensures.1 in
    leaf_none _ _ _ _ _ _ (damage_to _ _ page.Memory (p.1 ∙ ap (λ (e : PageFault). Err e) p.2) tt)

pub returns-clause-damage : goal.returns-clause-damage
returns-clause-damage g c = leaf_none _ _ _ _ _ _ tt

pub returns-in_default-clause-damage : goal.returns-in_default-clause-damage
returns-in_default-clause-damage g c = leaf_none _ _ _ _ _ _ tt

pub returns-in_err-hits-clause-unread : goal.returns-in_err-hits-clause-unread
returns-in_err-hits-clause-unread g c =
    let p = err_from_is_err_and c.from_residual.result c.from_residual.ensures.1 in
    fault_keeps _ _ _ (p.1 ∙ ap (λ (e : PageFault). Err e) p.2)

pub returns-in_err-put_deleted-clause-unread : goal.returns-in_err-put_deleted-clause-unread
returns-in_err-put_deleted-clause-unread g c =
    let p = err_from_is_err_and c.from_residual-in_err-put_deleted.result c.from_residual-in_err-put_deleted.ensures.1 in
    fault_keeps _ _ _ (p.1 ∙ ap (λ (e : PageFault). Err e) p.2)

pub returns-clause-unread : goal.returns-clause-unread
returns-clause-unread g c = tt

pub returns-in_default-clause-unread : goal.returns-in_default-clause-unread
returns-in_default-clause-unread g c = tt

pub returns-in_err-hits-clause-left : goal.returns-in_err-hits-clause-left
returns-in_err-hits-clause-left g c = on_err_any _ c.from_residual.result
    (subst (λ (u : SessionData). StaysButCache u.set c.visit.new.self) c.self.view_is c.visit.ensures.rest)

pub returns-in_err-put_deleted-clause-left : goal.returns-in_err-put_deleted-clause-left
returns-in_err-put_deleted-clause-left g c = on_err_any _ c.from_residual-in_err-put_deleted.result
    (subst (λ (u : SessionData). StaysButCache u.set c.visit.new.self) c.self.view_is c.visit.ensures.rest)

pub returns-in_default-clause-left : goal.returns-in_default-clause-left
returns-in_default-clause-left g c = subst (λ (u : SessionData). StaysButCache u.set c.visit.new.self) c.self.view_is c.visit.ensures.rest

pub returns-in_err-hits-clause-lasts : goal.returns-in_err-hits-clause-lasts
returns-in_err-hits-clause-lasts g c told faithful =
    subst (λ (u : SessionData). Lasts g.row.D AnyGoes (g.F.Pages.files c.args.folder.now) (g.F.Pages.files c.visit.new.folder) u.set c.visit.new.self)
    c.self.view_is (lasts_cache _ _ _ _ _ _ c.visit.ensures.rest (c.visit.ensures.files told))

pub returns-in_err-put_deleted-clause-lasts : goal.returns-in_err-put_deleted-clause-lasts
returns-in_err-put_deleted-clause-lasts g c told faithful =
    subst (λ (u : SessionData). Lasts g.row.D AnyGoes (g.F.Pages.files c.args.folder.now) (g.F.Pages.files c.visit.new.folder) u.set c.visit.new.self)
    c.self.view_is (lasts_cache _ _ _ _ _ _ c.visit.ensures.rest (c.visit.ensures.files told))

pub returns-in_default-clause-lasts : goal.returns-in_default-clause-lasts
returns-in_default-clause-lasts g c told faithful =
    subst (λ (u : SessionData). Lasts g.row.D AnyGoes (g.F.Pages.files c.args.folder.now) (g.F.Pages.files c.visit.new.folder) u.set c.visit.new.self)
    c.self.view_is (lasts_cache _ _ _ _ _ _ c.visit.ensures.rest (c.visit.ensures.files told))

pub returns-clause-lasts : goal.returns-clause-lasts
returns-clause-lasts g c told faithful =
    subst (λ (u : SessionData). Lasts g.row.D AnyGoes (g.F.Pages.files c.args.folder.now) (g.F.Pages.files c.visit.new.folder) u.set c.delete_all.new.self)
    c.self.view_is
    (thinned_last _ _ _ _ c.visit.new.self c.delete_all.new.self c.visit.ensures.rest c.delete_all.ensures.names c.delete_all.ensures.follows
    c.leaf_size-leaf_size.ensures.well.named (c.visit.ensures.files told))
