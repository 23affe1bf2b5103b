-- What an error says of the files is so.
use Rattle.std.proofs.Common.{◌≤◌, ℕ, List, Err, subst}
use Rattle.std.specs.Prelude.{Contains, IsTrue}
use Rattle.std.proofs.lemmas.Result.{err_from_is_err_and}
use Rattle.outer_io.specs.declared.file_name.FileName.TheVariants.{Commit}
use Rattle.outer_io.specs.Files.{bytes_of}
use Rattle.live_bits.specs.LiveSet.{LiveSet}
use Rattle.page_cache.specs.declared.faults.Damage.{Damage}
use Rattle.page_cache.proofs.Damages.{fault_weaker}
use Rattle.commit_list.specs.declared.listed.Listed.{Listed}
use Rattle.commit_list.specs.CommitFiles.{IsCommitFile}
use Rattle.stored_index.specs.Segments.{places}
use Rattle.segment_view.specs.LiveSegments.{lives_of}
use Rattle.document_checks.specs.Placed.{IsPlacedOnce}
use Rattle.index_opening.specs.Damages.{IsAttachDamage, IsAttachDamageOf, IsListedDamage, IsListedDamageOf, IsMisplaced}
use Rattle.index_opening.proofs.Listed.{listed_of, listed_shown, misplaced_at, misplaced_of, misplaced_shown}
use Rattle.index_opening.proofs.Listed.{opened_heads, opened_lives, undefined_fault, whole_listed, whole_placed}
use Rattle.index_opening.proofs.Evident.{on_attach_evident}
use Rattle.index_opening.proofs.Named.{attach_found}
use Rattle.page_cache.specs.Evidence.{FaultShows}
use Rattle.index_opening.specs.First.{IsFirstListed, IsFirstOpened, IsOfLeast, InNumbers, InSegment}
use Rattle.index_opening.proofs.listed_index.open_index.Goals as goal

pub returns-in_err-segments-clause-undefined : goal.returns-in_err-segments-clause-undefined
returns-in_err-segments-clause-undefined g c = λ told says.
    let files = g.F.Pages.files c.args.folder.now in
    let e = err_from_is_err_and c.from_residual.result c.from_residual.ensures.1 in
    rw (e.1, e.2)
    (undefined_fault files c.in_err-segments.field-0.0
    (whole_listed files c.args.c.now c.in_err-segments.field-0.0 (c.in_err-segments.ensures.whole told) says))

pub returns-in_err-segments-clause-evident : goal.returns-in_err-segments-clause-evident
returns-in_err-segments-clause-evident g c =
    let files = g.F.Pages.files c.args.folder.now in
    let fault = c.in_err-segments.field-0.0 in
    let e = err_from_is_err_and c.from_residual.result c.from_residual.ensures.1 in
    rw (e.1, e.2)
    (on_attach_evident {X = Unit {0}} (IsTrue g.F.Pages.told × IsCommitFile (bytes_of (files Commit)) c.args.c.now) files c.args.c.now (Err fault) (λ h. h.1)
    (λ h. fault_weaker fault (λ (d : Damage). (s : Listed) × Contains c.args.c.now.listed s × IsListedDamageOf files c.args.c.now s d)
    (IsAttachDamageOf files c.args.c.now) (listed_of files c.args.c.now)
    (c.in_err-segments.ensures.damage h.0))
    (fault_weaker fault (λ (d : Damage). (s : Listed) × Contains c.args.c.now.listed s × IsListedDamage s d) (IsAttachDamage c.args.c.now)
    (listed_shown c.args.c.now) c.in_err-segments.ensures.shown))

pub returns-in_err-check_numbers-clause-undefined : goal.returns-in_err-check_numbers-clause-undefined
returns-in_err-check_numbers-clause-undefined g c = λ told says.
    let files = g.F.Pages.files c.args.folder.now in
    let parts = c.in_ok-segments.segments in
    let sets = lives_of parts in
    let e = err_from_is_err_and c.from_residual-in_err-check_numbers.result c.from_residual-in_err-check_numbers.ensures.1 in
    let shown = misplaced_at _ _ _ sets c.in_err-check_numbers.field-0.0 c.next.ensures.value c.lives.ensures c.in_err-check_numbers.ensures.shown in
    rw (e.1, e.2)
    (undefined_fault files c.in_err-check_numbers.field-0.0
    (whole_placed files c.args.c.now parts c.in_err-check_numbers.field-0.0
    (opened_heads (IsTrue g.F.Pages.told) files c.args.c.now parts told c.in_ok-segments.ensures.opened)
    (opened_lives (IsTrue g.F.Pages.told) files c.args.c.now parts told c.in_ok-segments.ensures.opened) shown says))

pub returns-in_err-check_numbers-clause-evident : goal.returns-in_err-check_numbers-clause-evident
returns-in_err-check_numbers-clause-evident g c =
    let files = g.F.Pages.files c.args.folder.now in
    let fault = c.in_err-check_numbers.field-0.0 in
    let sets = lives_of c.in_ok-segments.segments in
    let e = err_from_is_err_and c.from_residual-in_err-check_numbers.result c.from_residual-in_err-check_numbers.ensures.1 in
    let shown = misplaced_at _ _ _ sets fault c.next.ensures.value c.lives.ensures c.in_err-check_numbers.ensures.shown in
    rw (e.1, e.2)
    (on_attach_evident {X = Unit {0}} (IsTrue g.F.Pages.told × IsCommitFile (bytes_of (files Commit)) c.args.c.now) files c.args.c.now (Err fault) (λ h. h.1)
    (λ h. misplaced_of files c.args.c.now sets fault
    (opened_lives (IsTrue g.F.Pages.told) files c.args.c.now c.in_ok-segments.segments h.0 c.in_ok-segments.ensures.opened) shown)
    (fault_weaker fault (IsMisplaced (λ doc. 1 ≤ places doc sets) (λ doc. 2 ≤ places doc sets) c.args.c.now.next) (IsAttachDamage c.args.c.now)
    (misplaced_shown (λ doc. 1 ≤ places doc sets) (λ doc. 2 ≤ places doc sets) c.args.c.now) shown))

pub returns-clause-placed : goal.returns-clause-placed
returns-clause-placed g c = λ number.
    subst (λ (n : ℕ). IsPlacedOnce n (lives_of c.in_ok-segments.segments) number) c.next.ensures.value
    (subst (λ (ss : List LiveSet). IsPlacedOnce c.next.result ss number) c.lives.ensures (c.in_ok-check_numbers.ensures.alone number))

pub returns-in_err-segments-clause-named : goal.returns-in_err-segments-clause-named
returns-in_err-segments-clause-named g c = λ told says.
    let files = g.F.Pages.files c.args.folder.now in
    let fault = c.in_err-segments.field-0.0 in
    let e = err_from_is_err_and c.from_residual.result c.from_residual.ensures.1 in
    rw (e.1, e.2)
    (attach_found files c.args.c.now fault says
    (fault_weaker fault (λ (d : Damage). (s : Listed) × Contains c.args.c.now.listed s × IsListedDamageOf files c.args.c.now s d)
    (IsAttachDamageOf files c.args.c.now) (listed_of files c.args.c.now) (c.in_err-segments.ensures.damage told)))

pub returns-in_err-check_numbers-clause-named : goal.returns-in_err-check_numbers-clause-named
returns-in_err-check_numbers-clause-named g c = λ told says.
    let files = g.F.Pages.files c.args.folder.now in
    let fault = c.in_err-check_numbers.field-0.0 in
    let sets = lives_of c.in_ok-segments.segments in
    let e = err_from_is_err_and c.from_residual-in_err-check_numbers.result c.from_residual-in_err-check_numbers.ensures.1 in
    let shown = misplaced_at _ _ _ sets fault c.next.ensures.value c.lives.ensures c.in_err-check_numbers.ensures.shown in
    rw (e.1, e.2)
    (attach_found files c.args.c.now fault says
    (misplaced_of files c.args.c.now sets fault
    (opened_lives (IsTrue g.F.Pages.told) files c.args.c.now c.in_ok-segments.segments told c.in_ok-segments.ensures.opened) shown))

pub returns-in_err-segments-clause-first : goal.returns-in_err-segments-clause-first
returns-in_err-segments-clause-first g c =
    let files = g.F.Pages.files c.args.folder.now in
    let e = err_from_is_err_and c.from_residual.result c.from_residual.ensures.1 in
    rw (e.1, e.2)
    (fault_weaker c.in_err-segments.field-0.0 (IsFirstListed (IsTrue g.F.Pages.told) files c.args.c.now)
    (IsFirstOpened (IsTrue g.F.Pages.told) files c.args.c.now) (λ d h. InSegment h) c.in_err-segments.ensures.first)

pub returns-in_err-check_numbers-clause-first : goal.returns-in_err-check_numbers-clause-first
returns-in_err-check_numbers-clause-first g c =
    let files = g.F.Pages.files c.args.folder.now in
    let parts = c.in_ok-segments.segments in
    let fault = c.in_err-check_numbers.field-0.0 in
    let least = subst (λ (n : ℕ). FaultShows (IsOfLeast n (lives_of parts)) fault) c.next.ensures.value
    (subst (λ (ss : List LiveSet). FaultShows (IsOfLeast c.next.result ss) fault) c.lives.ensures c.in_err-check_numbers.ensures.least) in
    let e = err_from_is_err_and c.from_residual-in_err-check_numbers.result c.from_residual-in_err-check_numbers.ensures.1 in
    rw (e.1, e.2)
    (fault_weaker fault (IsOfLeast c.args.c.now.next (lives_of parts)) (IsFirstOpened (IsTrue g.F.Pages.told) files c.args.c.now)
    (λ d h. InNumbers parts c.in_ok-segments.ensures.opened h) least)
