-- A new session, or one that is attached, stands over the files.
use Rattle.std.proofs.Common.{ℕ, ◌≤◌, Some, inl, subst}
use Rattle.std.proofs.lemmas.Result.{err_from_is_err_and}
use Rattle.script_lang.specs.Reading.{greatest_leaf}
use Rattle.index_core.proofs.Sizes.{session_fits}
use Rattle.script_run.proofs.Opened.{made_stands, attached_opens, attached_stands}
use Rattle.script_run.proofs.Starting.{opens_new, opens_none, opens_stored}
use Rattle.index_opening.proofs.Evident.{on_evident_files}
use Rattle.script_run.proofs.Shown.{attached_knows}
use Rattle.script_run.proofs.Taken.{bare_finds}
use Rattle.script_run.proofs.origin.open.Goals as goal
use Rattle.run_status.proofs.Ending.{page_memory, page_none}

pub create-requires : goal.create-requires
create-requires g c =
    let made = rw c.in-New.is at c.requires.made in (
      session_fits g.row.D c.requires.few,
      ((c.requires.some, c.requires.few), (made.2, subst (λ (n : ℕ). c.in-New.leaf_size ≤ greatest_leaf n) (rw c.in-New.is at c.requires.dims) made.3)),
    )

pub attach-requires : goal.attach-requires
attach-requires g c = (session_fits g.row.D c.requires.few, rw c.in-Stored.is at c.requires.dims)

pub returns-in_ok-create-in-New-clause-stands : goal.returns-in_ok-create-in-New-clause-stands
returns-in_ok-create-in-New-clause-stands g c = λ told i stored h.
    made_stands g.row.D _ _ _ _ i stored (rw c.in-New.is at c.requires.dims) (c.in_ok-create-in-New.ensures.seen _) (c.in_ok-create-in-New.ensures.guards _)
    (rw c.in-New.is at h)

pub returns-in_ok-create-in-New-clause-cause : goal.returns-in_ok-create-in-New-clause-cause
returns-in_ok-create-in-New-clause-cause g c = page_none _ _

pub returns-in_err-create-in-New-clause-cause : goal.returns-in_err-create-in-New-clause-cause
returns-in_err-create-in-New-clause-cause g c =
    let p = err_from_is_err_and c.from_residual.result c.from_residual.ensures.1 in
    rw (p.1, p.2) (page_memory _)

pub returns-in_err-create-in-New-clause-whole : goal.returns-in_err-create-in-New-clause-whole
returns-in_err-create-in-New-clause-whole g c = λ told i stored h.
    let p = err_from_is_err_and c.from_residual.result c.from_residual.ensures.1 in
    rw (p.1, p.2) tt

pub returns-in-Stored-clause-stands : goal.returns-in-Stored-clause-stands
returns-in-Stored-clause-stands g c = λ told i stored h.
    let from = rw c.in-Stored.is at h in
    attached_stands g.row.D _ _ i stored c.attach.result (c.attach.ensures.attaches.seen told from.0 i from.1) (c.attach.ensures.attaches.guards told from.0)
    (c.attach.ensures.files told) from.1 from.2

pub returns-in-Stored-clause-whole : goal.returns-in-Stored-clause-whole
returns-in-Stored-clause-whole g c = λ told i stored h.
    let from = rw c.in-Stored.is at h in
    c.attach.ensures.damaged.whole told from.0 (Some i) from.1

pub returns-in_ok-create-in-New-clause-opens : goal.returns-in_ok-create-in-New-clause-opens
returns-in_ok-create-in-New-clause-opens g c = λ told i stored h.
    rw c.in-New.is
    (opens_new g.row.D _ _ _ _ _ i stored (rw c.in-New.is at c.requires.dims) c.in_ok-create-in-New.ensures.seen c.in_ok-create-in-New.ensures.bare
    (rw c.in-New.is at h))

pub returns-in_err-create-in-New-clause-opens : goal.returns-in_err-create-in-New-clause-opens
returns-in_err-create-in-New-clause-opens g c = λ told i stored h.
    let p = err_from_is_err_and c.from_residual.result c.from_residual.ensures.1 in
    rw (p.1, c.in-New.is) (opens_none _ _ _ _ i stored _ (rw c.in-New.is at h))

pub returns-in-Stored-clause-opens : goal.returns-in-Stored-clause-opens
returns-in-Stored-clause-opens g c = λ told i stored h.
    let from = rw c.in-Stored.is at h in
    rw c.in-Stored.is
    (opens_stored g.row.D _ _ _ _ c.in-Stored.commit i stored (rw c.in-Stored.is at c.requires.dims) (c.attach.ensures.files told) from
    (c.attach.ensures.reads told) c.attach.result
    (c.attach.ensures.attaches.seen told from.0 i from.1) (c.attach.ensures.attaches.guards told from.0) c.attach.ensures.attaches.unchanged
    c.attach.ensures.attaches.listed)

pub returns-in_ok-create-in-New-clause-knows : goal.returns-in_ok-create-in-New-clause-knows
returns-in_ok-create-in-New-clause-knows g c = λ told there.
    let made = c.in_ok-create-in-New.ensures in
    let none = rw c.in-New.is at there in
    record {
      trusts = record { guards = made.guards _ none; faithful = made.faithful _; traced = made.traced _ };
      finds = bare_finds g.row.D _ _ made.bare none;
      own = made.own _;
      opens = inl none;
    }

pub returns-in_err-create-in-New-clause-knows : goal.returns-in_err-create-in-New-clause-knows
returns-in_err-create-in-New-clause-knows g c = λ told there.
    let p = err_from_is_err_and c.from_residual.result c.from_residual.ensures.1 in
    rw p.1 tt

pub returns-in_err-create-in-New-clause-evident : goal.returns-in_err-create-in-New-clause-evident
returns-in_err-create-in-New-clause-evident g c =
    let p = err_from_is_err_and c.from_residual.result c.from_residual.ensures.1 in
    rw (p.1, p.2) tt

pub returns-in-Stored-clause-knows : goal.returns-in-Stored-clause-knows
returns-in-Stored-clause-knows g c = λ told there.
    let says = rw c.in-Stored.is at there in
    let attaches = c.attach.ensures.attaches in
    attached_knows g.row.D _ _ c.attach.result (c.attach.ensures.files told) (attaches.guards told says) (attaches.faithful told)
    (attaches.traced told says) (attaches.finds told says) (attaches.own told says)
    (attached_opens g.row.D _ c.in-Stored.commit c.attach.result (rw c.in-Stored.is at c.requires.dims) says (attaches.guards told says)
    (attaches.faithful told) attaches.unchanged)

pub returns-in-Stored-clause-evident : goal.returns-in-Stored-clause-evident
returns-in-Stored-clause-evident g c =
    on_evident_files _ _ _ _ c.attach.result (λ p. (p.0, rw c.in-Stored.is at p.1)) (λ p. c.attach.ensures.files p.0) c.attach.ensures.damaged.evident
