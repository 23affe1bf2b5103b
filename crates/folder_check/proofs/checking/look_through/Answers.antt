-- What was found is what the files hold.
use Rattle.std.proofs.Common.{◌∙◌, Err, ap, inl, inr, length, sym, subst, arith}
use Rattle.std.specs.Prelude.{IsTrue, OnOk, All}
use Rattle.std.proofs.lemmas.List.Elements.{All-contains}
use Rattle.std.proofs.lemmas.Result.{err_from_is_err_and}
use Rattle.outer_io.specs.declared.file_name.FileName.TheVariants.{Commit, Segment}
use Rattle.outer_io.specs.Files.{Files, bytes_of}
use Rattle.page_cache.specs.Evidence.{FaultShows, OnDamage}
use Rattle.commit_list.specs.CommitFiles.{IsCommitFile}
use Rattle.segment_file.specs.Damages.{IsLeafDamageOf}
use Rattle.segment_view.specs.Held.{HasOwnHead}
use Rattle.segment_view.specs.LiveSegments.{LiveSegment}
use Rattle.index_opening.specs.Evidence.{IsOfListed, IsOfEntries}
use Rattle.index_opening.specs.Opened.{IsOpened}
use Rattle.index_opening.proofs.LeafEvident.{on_part_evident}
use Rattle.index_opening.proofs.Listed.{undefined_fault}
use Rattle.index_opening.proofs.Named.{all_listed, part_found}
use Rattle.folder_check.specs.Found.{AreFine, HasSegment, IsWrong}
use Rattle.folder_check.proofs.KeptEntries.{on_kept}
use Rattle.folder_check.proofs.Pairs.{zip_long}
use Rattle.folder_check.proofs.Shown.{on_wrong_evident, on_wrong_found}
use Rattle.folder_check.proofs.Pages.{pages_opened, pages_whole, read_of}
use Rattle.folder_check.proofs.Whole.{all_segments, file_heads, handed, known_of, on_fine_holds, on_wrong_undefined, own_heads}
use Rattle.page_cache.proofs.Damages.{fault_weaker}
use Rattle.index_opening.specs.First.{IsFirstOpened}
use Rattle.folder_check.specs.First.{InOpening, IsFirstOfCommit}
use Rattle.folder_check.proofs.First.{found_is_first, leaf_is_first}
use Rattle.folder_check.proofs.checking.look_through.Goals as goal

pub returns-in_err-segments-clause-reads : goal.returns-in_err-segments-clause-reads
returns-in_err-segments-clause-reads g c = λ told heads sets have lives.
    let opened = c.in_err-segments.ensures.reads told heads sets have lives in
    let most = pages_opened (g.F.Pages.files c.args.folder.now) c.args.c.now heads have in
    omega (arith, opened, most)

pub returns-in_err-findings-clause-files : goal.returns-in_err-findings-clause-files
returns-in_err-findings-clause-files g c = λ told. c.in_err-findings.ensures.files told ∙ c.in_ok-segments.ensures.files told

pub returns-in_err-findings-clause-reads : goal.returns-in_err-findings-clause-reads
returns-in_err-findings-clause-reads g c = λ told heads sets have lives.
    let files = g.F.Pages.files c.args.folder.now in
    let parts = c.in_ok-segments.segments in
    let opened = c.in_ok-segments.ensures.reads told heads sets have lives in
    let own = own_heads (IsTrue g.F.Pages.told) g.row.D files c.args.c.now parts told c.requires c.in_ok-segments.ensures.opened in
    let same = c.in_ok-segments.ensures.files told in
    let read = read_of g.row.D files (g.F.Pages.files c.open_index.new.folder) parts _ _ same own (c.in_err-findings.ensures.reads told) in
    let whole = pages_whole (IsTrue g.F.Pages.told) files c.args.c.now parts heads told c.in_ok-segments.ensures.opened have in
    omega (arith, opened, read, whole)

pub returns-in_err-findings-clause-undefined : goal.returns-in_err-findings-clause-undefined
returns-in_err-findings-clause-undefined g c = λ told says.
    let files = g.F.Pages.files c.args.folder.now in
    let parts = c.in_ok-segments.segments in
    let e = err_from_is_err_and c.from_residual-in_err-findings.result c.from_residual-in_err-findings.ensures.1 in
    rw (e.1, e.2)
    (undefined_fault files c.in_err-findings.field-0.0
    (λ state stored. c.in_err-findings.ensures.whole told
    (subst (λ (f : Files). All (HasSegment g.row.D f) parts) (sym (c.in_ok-segments.ensures.files told))
    (all_segments (IsTrue g.F.Pages.told) g.row.D files c.args.c.now parts told c.requires says c.in_ok-segments.ensures.opened state stored))))

pub returns-in_err-findings-clause-evident : goal.returns-in_err-findings-clause-evident
returns-in_err-findings-clause-evident g c =
    let files = g.F.Pages.files c.args.folder.now in
    let parts = c.in_ok-segments.segments in
    let fault = c.in_err-findings.field-0.0 in
    let e = err_from_is_err_and c.from_residual-in_err-findings.result c.from_residual-in_err-findings.ensures.1 in
    rw (e.1, e.2)
    (on_part_evident {X = Unit {0}} (λ file. ⊥) (IsOfEntries files) (IsTrue g.F.Pages.told × IsCommitFile (bytes_of (files Commit)) c.args.c.now) g.row.D files
    parts (Err fault)
    (λ t. file_heads (IsTrue g.F.Pages.told) g.row.D files c.args.c.now parts t.0 c.requires c.in_ok-segments.ensures.opened)
    (λ t p there. inl (inr (All-contains (λ (q : LiveSegment). IsOfListed files (Segment q.head.id)) parts p
    (all_listed (IsTrue g.F.Pages.told) files c.args.c.now parts t.1 c.in_ok-segments.ensures.opened) there)))
    (λ t. subst (λ (f : Files). FaultShows (IsLeafDamageOf f) fault) (c.in_ok-segments.ensures.files t.0) (c.in_err-findings.ensures.damage t.0))
    c.in_err-findings.ensures.shown)

pub judge-requires : goal.judge-requires
judge-requires g c =
    let found = ap length c.as_slice.ensures.value in
    let each = c.in_ok-findings.ensures.each in
    let listed = ap length c.listed.ensures.value in
    let parts = zip_long (IsOpened (IsTrue g.F.Pages.told) (g.F.Pages.files c.args.folder.now) c.args.c.now) c.args.c.now.listed c.in_ok-segments.segments
    c.in_ok-segments.ensures.opened in
    omega (arith, found, each, listed, parts)

pub returns-clause-holds : goal.returns-clause-holds
returns-clause-holds g c = λ told says.
    on_fine_holds (g.F.Pages.files c.args.folder.now) c.args.c.now c.in_ok-findings.findings.items c.judge.result
    (known_of (IsTrue g.F.Pages.told) g.row.D (g.F.Pages.files c.args.folder.now) (g.F.Pages.files c.open_index.new.folder) c.args.c.now
    c.in_ok-segments.segments c.in_ok-findings.findings.items told (c.in_ok-segments.ensures.files told) c.requires says
    c.in_ok-segments.ensures.opened c.in_ok-segments.ensures.placed (c.in_ok-findings.ensures.found told))
    (handed (λ ls n fs. OnOk c.judge.result (AreFine ls n fs)) _ _ _ _ _ _ c.listed.ensures.value c.points_given.ensures.value c.as_slice.ensures.value
    c.judge.ensures.on_ok)

pub returns-clause-kept : goal.returns-clause-kept
returns-clause-kept g c = λ keeps told says none.
    let files = g.F.Pages.files c.args.folder.now in
    let mid = g.F.Pages.files c.open_index.new.folder in
    let parts = c.in_ok-segments.segments in
    let same = c.in_ok-segments.ensures.files told in
    let own = own_heads (IsTrue g.F.Pages.told) g.row.D files c.args.c.now parts told c.requires c.in_ok-segments.ensures.opened in
    on_kept c.one_segment.ensures.items (IsTrue g.F.Pages.told) g.row.D files mid c.args.c.now parts c.args.kept.now.items c.read_leaves.new.kept.items
    c.judge.result told same c.requires c.in_ok-segments.ensures.opened none
    (c.in_ok-findings.ensures.kept keeps told (subst (λ (f : Files). All (HasOwnHead g.row.D f) parts) (sym same) own))
    (on_fine_holds files c.args.c.now c.in_ok-findings.findings.items c.judge.result
    (known_of (IsTrue g.F.Pages.told) g.row.D files mid c.args.c.now parts c.in_ok-findings.findings.items told same c.requires says
    c.in_ok-segments.ensures.opened c.in_ok-segments.ensures.placed (c.in_ok-findings.ensures.found told))
    (handed (λ ls n fs. OnOk c.judge.result (AreFine ls n fs)) _ _ _ _ _ _ c.listed.ensures.value c.points_given.ensures.value c.as_slice.ensures.value
    c.judge.ensures.on_ok))

pub returns-clause-files : goal.returns-clause-files
returns-clause-files g c = λ told. c.in_ok-findings.ensures.files told ∙ c.in_ok-segments.ensures.files told

pub returns-clause-reads : goal.returns-clause-reads
returns-clause-reads g c = λ told heads sets have lives.
    let files = g.F.Pages.files c.args.folder.now in
    let parts = c.in_ok-segments.segments in
    let opened = c.in_ok-segments.ensures.reads told heads sets have lives in
    let own = own_heads (IsTrue g.F.Pages.told) g.row.D files c.args.c.now parts told c.requires c.in_ok-segments.ensures.opened in
    let same = c.in_ok-segments.ensures.files told in
    let read = read_of g.row.D files (g.F.Pages.files c.open_index.new.folder) parts _ _ same own (c.in_ok-findings.ensures.reads told) in
    let whole = pages_whole (IsTrue g.F.Pages.told) files c.args.c.now parts heads told c.in_ok-segments.ensures.opened have in
    omega (arith, opened, read, whole)

pub returns-clause-undefined : goal.returns-clause-undefined
returns-clause-undefined g c = λ told says.
    on_wrong_undefined c.one_segment.ensures.items (g.F.Pages.files c.args.folder.now) c.args.c.now c.in_ok-findings.findings.items c.judge.result
    (known_of (IsTrue g.F.Pages.told) g.row.D (g.F.Pages.files c.args.folder.now) (g.F.Pages.files c.open_index.new.folder) c.args.c.now
    c.in_ok-segments.segments c.in_ok-findings.findings.items told (c.in_ok-segments.ensures.files told) c.requires says
    c.in_ok-segments.ensures.opened c.in_ok-segments.ensures.placed (c.in_ok-findings.ensures.found told))
    (handed (λ ls n fs. OnDamage c.judge.result (IsWrong ls n fs)) _ _ _ _ _ _ c.listed.ensures.value c.points_given.ensures.value c.as_slice.ensures.value
    c.judge.ensures.wrong)

pub returns-clause-evident : goal.returns-clause-evident
returns-clause-evident g c =
    let files = g.F.Pages.files c.args.folder.now in
    on_wrong_evident (IsTrue g.F.Pages.told × IsCommitFile (bytes_of (files Commit)) c.args.c.now) files c.args.c.now c.in_ok-findings.findings.items
    c.judge.result
    (λ t. known_of (IsTrue g.F.Pages.told) g.row.D (g.F.Pages.files c.args.folder.now) (g.F.Pages.files c.open_index.new.folder) c.args.c.now
    c.in_ok-segments.segments c.in_ok-findings.findings.items t.0 (c.in_ok-segments.ensures.files t.0) c.requires t.1
    c.in_ok-segments.ensures.opened c.in_ok-segments.ensures.placed (c.in_ok-findings.ensures.found t.0))
    (handed (λ ls n fs. OnDamage c.judge.result (IsWrong ls n fs)) _ _ _ _ _ _ c.listed.ensures.value c.points_given.ensures.value c.as_slice.ensures.value
    c.judge.ensures.wrong)

pub returns-in_err-findings-clause-named : goal.returns-in_err-findings-clause-named
returns-in_err-findings-clause-named g c = λ told says.
    let files = g.F.Pages.files c.args.folder.now in
    let parts = c.in_ok-segments.segments in
    let e = err_from_is_err_and c.from_residual-in_err-findings.result c.from_residual-in_err-findings.ensures.1 in
    rw (e.1, e.2)
    (part_found g.row.D files parts c.in_err-findings.field-0.0
    (all_listed (IsTrue g.F.Pages.told) files c.args.c.now parts says c.in_ok-segments.ensures.opened) c.in_err-findings.ensures.shown)

pub returns-clause-named : goal.returns-clause-named
returns-clause-named g c = λ told says.
    let files = g.F.Pages.files c.args.folder.now in
    on_wrong_found files c.args.c.now c.in_ok-findings.findings.items c.judge.result
    (known_of (IsTrue g.F.Pages.told) g.row.D files (g.F.Pages.files c.open_index.new.folder) c.args.c.now c.in_ok-segments.segments
    c.in_ok-findings.findings.items told (c.in_ok-segments.ensures.files told) c.requires says
    c.in_ok-segments.ensures.opened c.in_ok-segments.ensures.placed (c.in_ok-findings.ensures.found told))
    (handed (λ ls n fs. OnDamage c.judge.result (IsWrong ls n fs)) _ _ _ _ _ _
    c.listed.ensures.value c.points_given.ensures.value c.as_slice.ensures.value c.judge.ensures.wrong)

pub returns-in_err-segments-clause-first : goal.returns-in_err-segments-clause-first
returns-in_err-segments-clause-first g c = λ told.
    let files = g.F.Pages.files c.args.folder.now in
    let T = IsTrue g.F.Pages.told in
    let e = err_from_is_err_and c.from_residual.result c.from_residual.ensures.1 in
    rw (e.1, e.2)
    (fault_weaker c.in_err-segments.field-0.0 (IsFirstOpened T files c.args.c.now) (IsFirstOfCommit T files c.args.c.now) (λ d here. InOpening here)
    c.in_err-segments.ensures.first)

pub returns-in_err-findings-clause-first : goal.returns-in_err-findings-clause-first
returns-in_err-findings-clause-first g c = λ told.
    let e = err_from_is_err_and c.from_residual-in_err-findings.result c.from_residual-in_err-findings.ensures.1 in
    rw (e.1, e.2)
    (leaf_is_first (IsTrue g.F.Pages.told) g.row.D (g.F.Pages.files c.args.folder.now) (g.F.Pages.files c.open_index.new.folder) c.args.c.now
    c.in_ok-segments.segments
    told (c.in_ok-segments.ensures.files told) c.requires c.in_ok-segments.ensures.opened c.in_ok-segments.ensures.placed
    c.in_err-findings.field-0.0 (c.in_err-findings.ensures.first told))

pub returns-clause-first : goal.returns-clause-first
returns-clause-first g c = λ told.
    found_is_first (IsTrue g.F.Pages.told) g.row.D (g.F.Pages.files c.args.folder.now) (g.F.Pages.files c.open_index.new.folder) c.args.c.now
    c.in_ok-segments.segments
    told (c.in_ok-segments.ensures.files told) c.requires c.in_ok-segments.ensures.opened c.in_ok-segments.ensures.placed
    c.in_ok-findings.findings.items c.judge.result (c.in_ok-findings.ensures.found told)
    (handed (λ ls n fs. OnDamage c.judge.result (IsWrong ls n fs)) _ _ _ _ _ _
    c.listed.ensures.value c.points_given.ensures.value c.as_slice.ensures.value c.judge.ensures.wrong)
