-- The index is opened, and the file loaded into it.
use Rattle.std.proofs.Common.{Some, refl, inl}
use Rattle.std.proofs.lemmas.Bool.{false≢true}
use Rattle.index_core.proofs.Brought.{commit_equal}
use Rattle.index_core.proofs.Lasting.{NoneGoes}
use Rattle.index_core.proofs.LosingNone.{keeps_same}
use Rattle.index_core.proofs.Sizes.{session_fits}
use Rattle.index_core.proofs.Undone.{fault_kept, kept_equal}
use Rattle.load_points.proofs.Loading.{loads_after, loads_fault}
use Rattle.load_points.proofs.Opening.{attached_loading, attached_opens, trusts_still}
use Rattle.load_points.proofs.LoadAnswers.{evident_still, has_dims, starts_keeps, starts_still}
use Rattle.load_points.proofs.loader.load_over.Goals as goal

pub attach-requires : goal.attach-requires
attach-requires g c = (session_fits g.row.D c.requires.most_dims, c.requires.dims)

pub load_open-requires-after_bounds : goal.load_open-requires-after_bounds
load_open-requires-after_bounds g c κs = λ _.
    (session_fits g.row.D c.requires.most_dims, (c.requires.least_dims, (c.requires.most_dims, (c.requires.some, c.requires.few))))

pub returns-in-Ok-clause-loads : goal.returns-in-Ok-clause-loads
returns-in-Ok-clause-loads g c =
    loads_after _ _ _ _ _ _ _ _ _ _ c.load_open.result c.in-Ok.ensures.files refl c.in-Ok.ensures.cause
    (λ told says. trusts_still g.row.D _ _ _ (c.in-Ok.ensures.files told) (c.in-Ok.ensures.attaches.guards told says) (c.in-Ok.ensures.attaches.faithful told)
    (c.in-Ok.ensures.attaches.traced told says) (c.in-Ok.ensures.attaches.finds told says))
    (λ told stored h. starts_still g.row.D _ _ c.args.commit _ stored (c.in-Ok.ensures.files told)
    (attached_loading g.row.D _ c.args.commit _ stored (c.in-Ok.ensures.attaches.seen told h.0) (c.in-Ok.ensures.attaches.guards told h.0)
    c.in-Ok.ensures.attaches.unchanged h)
    (has_dims g.row.D _ c.args.commit stored c.requires.dims h))
    c.load_open.ensures

pub returns-in-Err-clause-loads : goal.returns-in-Err-clause-loads
returns-in-Err-clause-loads g c =
    loads_fault _ _ _ _ _ _ c.in-Err.fault _ refl (λ told stored h. inl (starts_keeps _ _ _ stored (c.in-Err.ensures.files told) h))
    (λ told stored h. c.in-Err.ensures.damaged.whole told h.0 (Some h.1.0) h.1.2) c.in-Err.ensures.cause
    (evident_still _ _ (g.F.Pages.files c.args.folder.now) (g.F.Pages.files c.attach.new.folder) c.in-Err.fault c.in-Err.ensures.files
    c.in-Err.ensures.damaged.evident)
    (λ told says.
    fault_kept (g.F.Pages.files c.args.folder.now) (g.F.Pages.files c.attach.new.folder) (kept_equal _ _ (c.in-Err.ensures.files told)) c.in-Err.fault)
    (λ told says. commit_equal _ _ (c.in-Err.ensures.files told))
    (λ told says. keeps_same NoneGoes (g.F.Pages.files c.args.folder.now) (g.F.Pages.files c.attach.new.folder) (kept_equal _ _ (c.in-Err.ensures.files told)))

pub returns-in-Ok-clause-opened : goal.returns-in-Ok-clause-opened
returns-in-Ok-clause-opened g c = λ told says ok.
    attached_opens g.row.D _ c.args.commit c.in-Ok.session c.requires.dims says (c.in-Ok.ensures.attaches.guards told says)
    (c.in-Ok.ensures.attaches.faithful told) c.in-Ok.ensures.attaches.unchanged

pub returns-in-Err-clause-opened : goal.returns-in-Err-clause-opened
returns-in-Err-clause-opened g c = λ told says ok. absurd (false≢true ok)
