-- The set is the commit's, and what an error says of the files is so.
use Rattle.std.proofs.Common.{◌≡◌, ◌≤◌, ℕ, List, sym, subst, ◌∙◌, refl, arith}
use Rattle.std.specs.Prelude.{Contains, IsTrue}
use Rattle.std.proofs.lemmas.Result.{err_from_is_err_and}
use Rattle.outer_io.specs.declared.file_name.FileName.TheVariants.{Commit}
use Rattle.outer_io.specs.Files.{bytes_of}
use Rattle.live_bits.specs.LiveSet.{LiveSet}
use Rattle.page_cache.specs.declared.faults.Damage.{Damage}
use Rattle.page_cache.specs.Evidence.{FaultShows}
use Rattle.page_cache.proofs.Damages.{fault_weaker}
use Rattle.commit_list.specs.declared.listed.Listed.{Listed}
use Rattle.commit_list.specs.CommitFiles.{IsCommitFile}
use Rattle.stored_index.specs.Segments.{places}
use Rattle.segment_view.specs.LiveSegments.{lives_of}
use Rattle.segment_set.specs.Sets.{IsWell, SetData}
use Rattle.segment_set.specs.Seen.{Sees}
use Rattle.segment_set.specs.Kept.{IsAtRest}
use Rattle.index_opening.specs.Damages.{IsAttachDamage, IsAttachDamageOf, IsListedDamage, IsListedDamageOf, IsMisplaced}
use Rattle.segment_set.specs.Faithful.{IsFaithful}
use Rattle.index_opening.proofs.Listed.{listed_of, listed_shown, misplaced_of, misplaced_shown, opened_heads}
use Rattle.index_opening.proofs.Listed.{opened_lives, undefined_fault, whole_listed, whole_placed}
use Rattle.segment_set.proofs.Attaching.{at_rest_attached, attached_is, sees_attached, well_attached}
use Rattle.index_opening.proofs.Evident.{on_attach_evident}
use Rattle.segment_set.proofs.Saving.{done_cause}
use Rattle.segment_set.proofs.Viewing.{faithful_attached}
use Rattle.page_cache.specs.Evidence.{OnDamage}
use Rattle.segment_set.proofs.Refused.{memory_caused, never_value, same_cause}
use Rattle.segment_set.proofs.Exits.{attach_memory, attach_none}
use Rattle.segment_set.proofs.set.SegmentSet.attach.Goals as goal

pub invariant_of-result : goal.invariant_of-result
invariant_of-result g c =
    subst (IsWell g.row.D)
    (sym (attached_is c.args.c.now c.in_ok-names.names c.in_ok-segments.segments c.in_ok-cache.cache _ _ _ _ _ c.leaf_size.ensures.value
    (c.new-2.ensures.next ∙ c.next-2.ensures.value) c.points_given.ensures.value c.new-2.ensures.items c.new-3.ensures.items))
    (well_attached g.row.D (IsTrue g.F.Pages.told) (g.F.Pages.files c.args.folder.now) c.args.c.now c.in_ok-names.names c.in_ok-segments.segments
    c.in_ok-cache.cache c.requires c.leaf_size.ensures.commit c.in_ok-segments.ensures.opened
    (λ number.
    let placed = c.in_ok-check_numbers.ensures.alone number in
    let one = subst (λ (ss : List LiveSet). places number ss ≤ 1) c.lives.ensures placed.0 in
    (one, λ le. subst (λ (ss : List LiveSet). places number ss ≡ 0) c.lives.ensures (placed.1 (subst (λ (n : ℕ). n ≤ number) (sym c.next.ensures.value) le))))
    c.in_ok-names.ensures.names c.in_ok-names.ensures.own c.in_ok-cache.ensures.empty)

pub returns-clause-seen : goal.returns-clause-seen
returns-clause-seen g c = λ told says i stored.
    let files = g.F.Pages.files c.args.folder.now in
    let parts = c.in_ok-segments.segments in
    subst (λ (s : SetData). Sees g.row.D files s i)
    (sym (attached_is c.args.c.now c.in_ok-names.names parts c.in_ok-cache.cache _ _ _ _ _ c.leaf_size.ensures.value
    (c.new-2.ensures.next ∙ c.next-2.ensures.value) c.points_given.ensures.value c.new-2.ensures.items c.new-3.ensures.items))
    (sees_attached g.row.D files c.args.c.now c.in_ok-names.names parts c.in_ok-cache.cache i c.requires says stored
    (opened_heads (IsTrue g.F.Pages.told) files c.args.c.now parts told c.in_ok-segments.ensures.opened)
    (opened_lives (IsTrue g.F.Pages.told) files c.args.c.now parts told c.in_ok-segments.ensures.opened) (c.in_ok-cache.ensures.agrees files))

pub returns-clause-commit : goal.returns-clause-commit
returns-clause-commit g c =
    subst (λ (s : SetData). IsAtRest s c.args.c.now)
    (sym (attached_is c.args.c.now c.in_ok-names.names c.in_ok-segments.segments c.in_ok-cache.cache _ _ _ _ _ c.leaf_size.ensures.value
    (c.new-2.ensures.next ∙ c.next-2.ensures.value) c.points_given.ensures.value c.new-2.ensures.items c.new-3.ensures.items))
    (at_rest_attached (IsTrue g.F.Pages.told) (g.F.Pages.files c.args.folder.now) c.args.c.now c.in_ok-names.names c.in_ok-segments.segments c.in_ok-cache.cache
    c.in_ok-segments.ensures.opened c.in_ok-names.ensures.next)

pub returns-clause-live : goal.returns-clause-live
returns-clause-live g c = λ told.
    opened_lives (IsTrue g.F.Pages.told) (g.F.Pages.files c.args.folder.now) c.args.c.now c.in_ok-segments.segments told c.in_ok-segments.ensures.opened

pub returns-clause-faithful : goal.returns-clause-faithful
returns-clause-faithful g c = λ told.
    let files = g.F.Pages.files c.args.folder.now in
    subst (IsFaithful g.row.D files)
    (sym (attached_is c.args.c.now c.in_ok-names.names c.in_ok-segments.segments c.in_ok-cache.cache _ _ _ _ _ c.leaf_size.ensures.value
    (c.new-2.ensures.next ∙ c.next-2.ensures.value) c.points_given.ensures.value c.new-2.ensures.items c.new-3.ensures.items))
    (faithful_attached g.row.D (IsTrue g.F.Pages.told) files c.args.c.now c.in_ok-names.names c.in_ok-segments.segments c.in_ok-cache.cache c.requires told
    c.in_ok-segments.ensures.opened (c.in_ok-cache.ensures.agrees files))

pub returns-clause-cause : goal.returns-clause-cause
returns-clause-cause g c = done_cause (g.F.Pages.faults c.args.folder.now) (g.F.Pages.faults c.open_all.new.folder) _ c.in_ok-segments.ensures.cause.on_ok

pub returns-in_err-segments-clause-damaged : goal.returns-in_err-segments-clause-damaged
returns-in_err-segments-clause-damaged g c =
    let files = g.F.Pages.files c.args.folder.now in
    let shown : OnDamage c.from_residual-in_err-segments.result (IsAttachDamage c.args.c.now) =
    let e = err_from_is_err_and c.from_residual-in_err-segments.result c.from_residual-in_err-segments.ensures.1 in
    rw (e.1, e.2)
    (fault_weaker c.in_err-segments.field-0.0 (λ (d : Damage). (s : Listed) × Contains c.args.c.now.listed s × IsListedDamage s d) (IsAttachDamage c.args.c.now)
    (listed_shown c.args.c.now) c.in_err-segments.ensures.shown) in
    let damage : IsTrue g.F.Pages.told → OnDamage c.from_residual-in_err-segments.result (IsAttachDamageOf files c.args.c.now) = λ told.
    let e = err_from_is_err_and c.from_residual-in_err-segments.result c.from_residual-in_err-segments.ensures.1 in
    rw (e.1, e.2)
    (fault_weaker c.in_err-segments.field-0.0 (λ (d : Damage). (s : Listed) × Contains c.args.c.now.listed s × IsListedDamageOf files c.args.c.now s d)
    (IsAttachDamageOf files c.args.c.now) (listed_of files c.args.c.now) (c.in_err-segments.ensures.damage told)) in
    record {
      whole = λ told says state stored.
          let e = err_from_is_err_and c.from_residual-in_err-segments.result c.from_residual-in_err-segments.ensures.1 in
          rw (e.1, e.2)
          (whole_listed (g.F.Pages.files c.args.folder.now) c.args.c.now c.in_err-segments.field-0.0 (c.in_err-segments.ensures.whole told) says state stored);
      undefined = λ told says.
          let files = g.F.Pages.files c.args.folder.now in
          let e = err_from_is_err_and c.from_residual-in_err-segments.result c.from_residual-in_err-segments.ensures.1 in
          rw (e.1, e.2)
          (undefined_fault files c.in_err-segments.field-0.0
          (whole_listed files c.args.c.now c.in_err-segments.field-0.0 (c.in_err-segments.ensures.whole told) says));
      shown = shown;
      damage = damage;
      evident = on_attach_evident (IsTrue g.F.Pages.told × IsCommitFile (bytes_of (files Commit)) c.args.c.now) files c.args.c.now
          c.from_residual-in_err-segments.result (λ h. h.1) (λ h. damage h.0) shown;
    }

pub returns-in_err-check_numbers-clause-damaged : goal.returns-in_err-check_numbers-clause-damaged
returns-in_err-check_numbers-clause-damaged g c =
    let files = g.F.Pages.files c.args.folder.now in
    let parts = c.in_ok-segments.segments in
    let sets = lives_of parts in
    let e = err_from_is_err_and c.from_residual-in_err-check_numbers.result c.from_residual-in_err-check_numbers.ensures.1 in
    let shown : OnDamage c.from_residual-in_err-check_numbers.result (IsAttachDamage c.args.c.now) =
    let shown = subst
    (λ (n : ℕ). FaultShows (IsMisplaced (λ doc. 1 ≤ places doc c.lives.result.now) (λ doc. 2 ≤ places doc c.lives.result.now) n)
    c.in_err-check_numbers.field-0.0) c.next.ensures.value c.in_err-check_numbers.ensures.shown in
    rw (e.1, e.2)
    (fault_weaker c.in_err-check_numbers.field-0.0
    (IsMisplaced (λ doc. 1 ≤ places doc c.lives.result.now) (λ doc. 2 ≤ places doc c.lives.result.now) c.args.c.now.next) (IsAttachDamage c.args.c.now)
    (misplaced_shown (λ doc. 1 ≤ places doc c.lives.result.now) (λ doc. 2 ≤ places doc c.lives.result.now) c.args.c.now) shown) in
    let placed = subst (λ (n : ℕ). FaultShows (IsMisplaced (λ doc. 1 ≤ places doc sets) (λ doc. 2 ≤ places doc sets) n) c.in_err-check_numbers.field-0.0)
    c.next.ensures.value
    (subst (λ (ss : List LiveSet).
    FaultShows (IsMisplaced (λ doc. 1 ≤ places doc ss) (λ doc. 2 ≤ places doc ss) c.next.result) c.in_err-check_numbers.field-0.0) c.lives.ensures
    c.in_err-check_numbers.ensures.shown) in
    let damage : IsTrue g.F.Pages.told → OnDamage c.from_residual-in_err-check_numbers.result (IsAttachDamageOf files c.args.c.now) = λ told.
    rw (e.1, e.2)
    (misplaced_of files c.args.c.now sets c.in_err-check_numbers.field-0.0
    (opened_lives (IsTrue g.F.Pages.told) files c.args.c.now parts told c.in_ok-segments.ensures.opened) placed) in
    record {
      whole = λ told says state stored.
          rw (e.1, e.2)
          (whole_placed files c.args.c.now parts c.in_err-check_numbers.field-0.0
          (opened_heads (IsTrue g.F.Pages.told) files c.args.c.now parts told c.in_ok-segments.ensures.opened)
          (opened_lives (IsTrue g.F.Pages.told) files c.args.c.now parts told c.in_ok-segments.ensures.opened) placed says state stored);
      undefined = λ told says.
          rw (e.1, e.2)
          (undefined_fault files c.in_err-check_numbers.field-0.0
          (whole_placed files c.args.c.now parts c.in_err-check_numbers.field-0.0
          (opened_heads (IsTrue g.F.Pages.told) files c.args.c.now parts told c.in_ok-segments.ensures.opened)
          (opened_lives (IsTrue g.F.Pages.told) files c.args.c.now parts told c.in_ok-segments.ensures.opened) placed says));
      shown = shown;
      damage = damage;
      evident = on_attach_evident (IsTrue g.F.Pages.told × IsCommitFile (bytes_of (files Commit)) c.args.c.now) files c.args.c.now
          c.from_residual-in_err-check_numbers.result (λ h. h.1) (λ h. damage h.0) shown;
    }

pub returns-in_err-names-clause-seen : goal.returns-in_err-names-clause-seen
returns-in_err-names-clause-seen g c = λ told says i stored. never_value _ c.from_residual.result c.from_residual.ensures.1 _

pub returns-in_err-names-clause-commit : goal.returns-in_err-names-clause-commit
returns-in_err-names-clause-commit g c = never_value _ c.from_residual.result c.from_residual.ensures.1 _

pub returns-in_err-names-clause-names : goal.returns-in_err-names-clause-names
returns-in_err-names-clause-names g c = never_value _ c.from_residual.result c.from_residual.ensures.1 _

pub returns-in_err-names-clause-room : goal.returns-in_err-names-clause-room
returns-in_err-names-clause-room g c = never_value _ c.from_residual.result c.from_residual.ensures.1 _

pub returns-in_err-names-clause-live : goal.returns-in_err-names-clause-live
returns-in_err-names-clause-live g c = λ told. never_value _ c.from_residual.result c.from_residual.ensures.1 _

pub returns-in_err-names-clause-faithful : goal.returns-in_err-names-clause-faithful
returns-in_err-names-clause-faithful g c = λ told. never_value _ c.from_residual.result c.from_residual.ensures.1 _

pub returns-in_err-names-clause-files : goal.returns-in_err-names-clause-files
returns-in_err-names-clause-files g c = λ told. refl

pub returns-in_err-names-clause-reads : goal.returns-in_err-names-clause-reads
returns-in_err-names-clause-reads g c = λ told heads sets have live. omega arith

pub returns-in_err-names-clause-cause : goal.returns-in_err-names-clause-cause
returns-in_err-names-clause-cause g c =
    memory_caused (g.F.Pages.faults c.args.folder.now) (g.F.Pages.faults c.args.folder.now) c.from_residual.result c.from_residual.ensures.1 refl

pub returns-in_err-names-clause-damaged : goal.returns-in_err-names-clause-damaged
returns-in_err-names-clause-damaged g c =
    attach_memory (IsTrue g.F.Pages.told) (g.F.Pages.files c.args.folder.now) c.args.c.now c.from_residual.result c.from_residual.ensures.1

pub returns-in_err-segments-clause-seen : goal.returns-in_err-segments-clause-seen
returns-in_err-segments-clause-seen g c = λ told says i stored. never_value _ c.from_residual-in_err-segments.result c.from_residual-in_err-segments.ensures.1 _

pub returns-in_err-segments-clause-commit : goal.returns-in_err-segments-clause-commit
returns-in_err-segments-clause-commit g c = never_value _ c.from_residual-in_err-segments.result c.from_residual-in_err-segments.ensures.1 _

pub returns-in_err-segments-clause-names : goal.returns-in_err-segments-clause-names
returns-in_err-segments-clause-names g c = never_value _ c.from_residual-in_err-segments.result c.from_residual-in_err-segments.ensures.1 _

pub returns-in_err-segments-clause-room : goal.returns-in_err-segments-clause-room
returns-in_err-segments-clause-room g c = never_value _ c.from_residual-in_err-segments.result c.from_residual-in_err-segments.ensures.1 _

pub returns-in_err-segments-clause-live : goal.returns-in_err-segments-clause-live
returns-in_err-segments-clause-live g c = λ told. never_value _ c.from_residual-in_err-segments.result c.from_residual-in_err-segments.ensures.1 _

pub returns-in_err-segments-clause-faithful : goal.returns-in_err-segments-clause-faithful
returns-in_err-segments-clause-faithful g c = λ told. never_value _ c.from_residual-in_err-segments.result c.from_residual-in_err-segments.ensures.1 _

pub returns-in_err-segments-clause-files : goal.returns-in_err-segments-clause-files
returns-in_err-segments-clause-files g c = c.open_all.ensures.files

pub returns-in_err-segments-clause-reads : goal.returns-in_err-segments-clause-reads
returns-in_err-segments-clause-reads g c = c.open_all.ensures.reads

pub returns-in_err-segments-clause-cause : goal.returns-in_err-segments-clause-cause
returns-in_err-segments-clause-cause g c =
    same_cause (g.F.Pages.faults c.args.folder.now) (g.F.Pages.faults c.open_all.new.folder)
    c.in_err-segments.field-0.0 c.from_residual-in_err-segments.result c.from_residual-in_err-segments.ensures.1 c.in_err-segments.ensures.cause

pub returns-in_err-check_numbers-clause-seen : goal.returns-in_err-check_numbers-clause-seen
returns-in_err-check_numbers-clause-seen g c = λ told says i stored.
    never_value _ c.from_residual-in_err-check_numbers.result c.from_residual-in_err-check_numbers.ensures.1 _

pub returns-in_err-check_numbers-clause-commit : goal.returns-in_err-check_numbers-clause-commit
returns-in_err-check_numbers-clause-commit g c = never_value _ c.from_residual-in_err-check_numbers.result c.from_residual-in_err-check_numbers.ensures.1 _

pub returns-in_err-check_numbers-clause-names : goal.returns-in_err-check_numbers-clause-names
returns-in_err-check_numbers-clause-names g c = never_value _ c.from_residual-in_err-check_numbers.result c.from_residual-in_err-check_numbers.ensures.1 _

pub returns-in_err-check_numbers-clause-room : goal.returns-in_err-check_numbers-clause-room
returns-in_err-check_numbers-clause-room g c = never_value _ c.from_residual-in_err-check_numbers.result c.from_residual-in_err-check_numbers.ensures.1 _

pub returns-in_err-check_numbers-clause-live : goal.returns-in_err-check_numbers-clause-live
returns-in_err-check_numbers-clause-live g c = λ told.
    never_value _ c.from_residual-in_err-check_numbers.result c.from_residual-in_err-check_numbers.ensures.1 _

pub returns-in_err-check_numbers-clause-faithful : goal.returns-in_err-check_numbers-clause-faithful
returns-in_err-check_numbers-clause-faithful g c = λ told.
    never_value _ c.from_residual-in_err-check_numbers.result c.from_residual-in_err-check_numbers.ensures.1 _

pub returns-in_err-check_numbers-clause-files : goal.returns-in_err-check_numbers-clause-files
returns-in_err-check_numbers-clause-files g c = c.open_all.ensures.files

pub returns-in_err-check_numbers-clause-reads : goal.returns-in_err-check_numbers-clause-reads
returns-in_err-check_numbers-clause-reads g c = c.open_all.ensures.reads

pub returns-in_err-cache-clause-seen : goal.returns-in_err-cache-clause-seen
returns-in_err-cache-clause-seen g c = λ told says i stored. never_value _ c.from_residual-in_err-cache.result c.from_residual-in_err-cache.ensures.1 _

pub returns-in_err-cache-clause-commit : goal.returns-in_err-cache-clause-commit
returns-in_err-cache-clause-commit g c = never_value _ c.from_residual-in_err-cache.result c.from_residual-in_err-cache.ensures.1 _

pub returns-in_err-cache-clause-names : goal.returns-in_err-cache-clause-names
returns-in_err-cache-clause-names g c = never_value _ c.from_residual-in_err-cache.result c.from_residual-in_err-cache.ensures.1 _

pub returns-in_err-cache-clause-room : goal.returns-in_err-cache-clause-room
returns-in_err-cache-clause-room g c = never_value _ c.from_residual-in_err-cache.result c.from_residual-in_err-cache.ensures.1 _

pub returns-in_err-cache-clause-live : goal.returns-in_err-cache-clause-live
returns-in_err-cache-clause-live g c = λ told. never_value _ c.from_residual-in_err-cache.result c.from_residual-in_err-cache.ensures.1 _

pub returns-in_err-cache-clause-faithful : goal.returns-in_err-cache-clause-faithful
returns-in_err-cache-clause-faithful g c = λ told. never_value _ c.from_residual-in_err-cache.result c.from_residual-in_err-cache.ensures.1 _

pub returns-in_err-cache-clause-files : goal.returns-in_err-cache-clause-files
returns-in_err-cache-clause-files g c = c.open_all.ensures.files

pub returns-in_err-cache-clause-reads : goal.returns-in_err-cache-clause-reads
returns-in_err-cache-clause-reads g c = c.open_all.ensures.reads

pub returns-in_err-cache-clause-cause : goal.returns-in_err-cache-clause-cause
returns-in_err-cache-clause-cause g c =
    memory_caused (g.F.Pages.faults c.args.folder.now) (g.F.Pages.faults c.open_all.new.folder)
    c.from_residual-in_err-cache.result c.from_residual-in_err-cache.ensures.1
    c.in_ok-segments.ensures.cause.on_ok

pub returns-in_err-cache-clause-damaged : goal.returns-in_err-cache-clause-damaged
returns-in_err-cache-clause-damaged g c =
    attach_memory (IsTrue g.F.Pages.told) (g.F.Pages.files c.args.folder.now) c.args.c.now
    c.from_residual-in_err-cache.result c.from_residual-in_err-cache.ensures.1

pub returns-clause-names : goal.returns-clause-names
returns-clause-names g c = c.in_ok-names.ensures.names

pub returns-clause-room : goal.returns-clause-room
returns-clause-room g c = c.in_ok-cache.ensures.room

pub returns-clause-files : goal.returns-clause-files
returns-clause-files g c = c.open_all.ensures.files

pub returns-clause-reads : goal.returns-clause-reads
returns-clause-reads g c = c.open_all.ensures.reads

pub returns-clause-damaged : goal.returns-clause-damaged
returns-clause-damaged g c = attach_none (IsTrue g.F.Pages.told) (g.F.Pages.files c.args.folder.now) c.args.c.now _ (λ P. tt)
