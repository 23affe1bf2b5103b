use Rattle.std.proofs.Common.{arith, sym, ap, refl, append_assoc, ◌≡◌, ◌∙◌, ◌*◌, ◌++◌, List, [], ℕ, length}
use Rattle.std.proofs.lemmas.Result.{err_from_is_err_and, IfOk-weaker}
use Rattle.outer_io.specs.Files.{bytes_of}
use Rattle.outer_io.specs.declared.file_name.FileName.TheVariants.{Live}
use Rattle.page_file.specs.Page.{payload_of}
use Rattle.page_cache.specs.FilePages.{page_at, ArePages}
use Rattle.page_cache.specs.Bodies.{pages_for}
use Rattle.page_cache.specs.FirstPages.{first_name, first_payload, first_size, IsFirstPage}
use Rattle.page_cache.specs.Evidence.{SizeNeeds, SizeWithin, IsSizeDamage}
use Rattle.page_cache.proofs.Damages.{fault_weaker, fault_both, on_damage_both}
use Rattle.segment_file.specs.Damages.{IsBodyDamage, IsLiveDamage, IsLiveDamageOf}
use Rattle.segment_file.proofs.Options.{IfOk-both}
use Rattle.segment_file.proofs.FirstPayloads.{first_payload_is, first_size_is, first_payloads, short_first, never_cut}
use Rattle.segment_file.proofs.LiveReads.{set_is, live_fault_of, live_size_of, body_damage_of, no_live_damage, live_file, first_of, said_right, set_not_damaged}
use Rattle.segment_file.proofs.live.read_live.Goals as goal

pub returns-in_err-first-clause-damage : goal.returns-in_err-first-clause-damage
returns-in_err-first-clause-damage g c = λ told.
    let name = Live c.args.id c.args.generation in
    let files = g.F.Pages.files c.args.folder.now in
    let e = err_from_is_err_and c.from_residual.result c.from_residual.ensures.1 in
    rw (e.1, e.2)
    (live_fault_of files name (SizeNeeds 4096) c.in_err-first.field-0.0 (short_first files name) c.in_err-first.ensures.shown c.in_err-first.ensures.needed
    (c.in_err-first.ensures.damage told))

pub returns-in_err-first-clause-whole : goal.returns-in_err-first-clause-whole
returns-in_err-first-clause-whole g c = λ told live file.
    let name = Live c.args.id c.args.generation in
    let f = first_of c.args.id c.args.generation (bytes_of (g.F.Pages.files c.args.folder.now name)) live file in
    let e = err_from_is_err_and c.from_residual.result c.from_residual.ensures.1 in
    rw (e.1, e.2) (c.in_err-first.ensures.whole told f.page)

pub returns-in_err-len-clause-damage : goal.returns-in_err-len-clause-damage
returns-in_err-len-clause-damage g c = λ told.
    let name = Live c.args.id c.args.generation in
    let files = g.F.Pages.files c.args.folder.now in
    let e = err_from_is_err_and c.from_residual-in_err-len.result c.from_residual-in_err-len.ensures.1 in
    rw (e.1, e.2)
    (fault_weaker c.in_err-len.field-0.0 (IsBodyDamage name c.payload.result.now) (IsLiveDamageOf files)
    (λ d carried. body_damage_of files name (first_payload c.in_ok-first.first) d
    (first_payloads files c.in_ok-first.first name c.in_ok-first.ensures.name (c.in_ok-first.ensures.first told)) (rw (← c.payload.ensures.bytes) carried))
    c.in_err-len.ensures.carried)

pub returns-in_err-len-clause-whole : goal.returns-in_err-len-clause-whole
returns-in_err-len-clause-whole g c = λ told live file.
    let name = Live c.args.id c.args.generation in
    let files = g.F.Pages.files c.args.folder.now in
    let f = first_of c.args.id c.args.generation (bytes_of (files name)) live file in
    let payload : c.payload.result.now ≡ payload_of (page_at (bytes_of (files name)) 0) =
    c.payload.ensures.bytes ∙ first_payload_is files c.in_ok-first.first name c.in_ok-first.ensures.name (c.in_ok-first.ensures.first told) in
    let e = err_from_is_err_and c.from_residual-in_err-len.result c.from_residual-in_err-len.ensures.1 in
    rw (e.1, e.2)
    (fault_both c.in_err-len.field-0.0 (IsLiveDamage c.args.id c.args.generation) (IsBodyDamage name c.payload.result.now) (λ _. ⊥)
    (λ d shown carried. no_live_damage c.args.id c.args.generation live f.body c.payload.result.now f.rest d f.set
    (ap (λ (l : List ℕ). l ++ f.rest) payload ∙ f.begins) shown carried)
    c.in_err-len.ensures.shown c.in_err-len.ensures.carried)

pub returns-in_err-check_size-clause-damage : goal.returns-in_err-check_size-clause-damage
returns-in_err-check_size-clause-damage g c = λ told.
    let name = Live c.args.id c.args.generation in
    let files = g.F.Pages.files c.args.folder.now in
    let first = c.in_ok-first.first in
    let says = rw c.payload.ensures.bytes at c.in_ok-len.ensures.said in
    let e = err_from_is_err_and c.from_residual-in_err-check_size.result c.from_residual-in_err-check_size.ensures.1 in
    rw (e.1, e.2)
    (fault_weaker c.in_err-check_size.field-0.0 (IsSizeDamage (first_name first) (first_size first) (4096 * c.pages_for-pages.result)) (IsLiveDamageOf files)
    (λ d had. live_size_of files first c.args.id c.args.generation c.in_ok-len.len c.pages_for-pages.result d (c.in_ok-first.ensures.first told)
    c.in_ok-first.ensures.name says c.pages_for-pages.ensures had)
    c.in_err-check_size.ensures.size)

pub returns-in_err-check_size-clause-whole : goal.returns-in_err-check_size-clause-whole
returns-in_err-check_size-clause-whole g c = λ told live file.
    let name = Live c.args.id c.args.generation in
    let files = g.F.Pages.files c.args.folder.now in
    let f = first_of c.args.id c.args.generation (bytes_of (files name)) live file in
    let payload : c.payload.result.now ≡ payload_of (page_at (bytes_of (files name)) 0) =
    c.payload.ensures.bytes ∙ first_payload_is files c.in_ok-first.first name c.in_ok-first.ensures.name (c.in_ok-first.ensures.first told) in
    let same = said_right c.args.id c.args.generation (bytes_of (files name)) c.payload.result.now live c.in_ok-len.len f payload c.in_ok-len.ensures.len in
    let size : first_size c.in_ok-first.first ≡ 4096 * c.pages_for-pages.result =
    first_size_is files c.in_ok-first.first name c.in_ok-first.ensures.name (c.in_ok-first.ensures.first told) ∙ f.size
    ∙ ap (λ (n : ℕ). 4096 * pages_for n) same ∙ ap (λ (n : ℕ). 4096 * n) (sym c.pages_for-pages.ensures) in
    absurd (let no_ok = c.in_err-check_size.ensures.ok.1 size in cc)

pub returns-in_err-joined-clause-damage : goal.returns-in_err-joined-clause-damage
returns-in_err-joined-clause-damage g c = λ told.
    let name = Live c.args.id c.args.generation in
    let files = g.F.Pages.files c.args.folder.now in
    let pages = c.pages_for-pages.result in
    let size : length (bytes_of (files name)) ≡ 4096 * pages =
    sym (first_size_is files c.in_ok-first.first name c.in_ok-first.ensures.name (c.in_ok-first.ensures.first told)) ∙ c.in_ok-check_size.ensures.ok.0 refl in
    let found = rw (c.read.ensures.reading.files told) at (c.in_err-joined.ensures.damage told) in
    let e = err_from_is_err_and c.from_residual-in_err-joined.result c.from_residual-in_err-joined.ensures.1 in
    rw (e.1, e.2)
    (live_fault_of files name (SizeWithin (4096 * pages)) c.in_err-joined.field-0.0 (never_cut files name pages pages (omega arith) size)
    c.in_err-joined.ensures.shown c.in_err-joined.ensures.within found)

pub returns-in_err-joined-clause-whole : goal.returns-in_err-joined-clause-whole
returns-in_err-joined-clause-whole g c = λ told live file.
    let name = Live c.args.id c.args.generation in
    let files = g.F.Pages.files c.args.folder.now in
    let f = first_of c.args.id c.args.generation (bytes_of (files name)) live file in
    let payload : c.payload.result.now ≡ payload_of (page_at (bytes_of (files name)) 0) =
    c.payload.ensures.bytes ∙ first_payload_is files c.in_ok-first.first name c.in_ok-first.ensures.name (c.in_ok-first.ensures.first told) in
    let same = said_right c.args.id c.args.generation (bytes_of (files name)) c.payload.result.now live c.in_ok-len.len f payload c.in_ok-len.ensures.len in
    let pages_are : pages_for (length f.body) ≡ c.pages_for-pages.result = ap (λ (n : ℕ). pages_for n) same ∙ sym c.pages_for-pages.ensures in
    let pages : ArePages name (bytes_of (files name)) 1 c.pages_for-pages.result = λ n from below. f.pages n (omega arith) (omega arith) in
    let e = err_from_is_err_and c.from_residual-in_err-joined.result c.from_residual-in_err-joined.ensures.1 in
    rw (e.1, e.2) (c.in_err-joined.ensures.whole told (rw (c.read.ensures.reading.files told) pages))

pub set_of-requires-clause-said : goal.set_of-requires-clause-said
set_of-requires-clause-said g c = λ s body x y h e.
    let front = c.in_ok-joined.ensures.front in
    c.in_ok-len.ensures.len s body (front.0 ++ x) y h
    (ap (λ (l : List ℕ). l ++ (front.0 ++ x)) c.payload.ensures.bytes ∙ sym (append_assoc (first_payload c.in_ok-first.first) front.0 x)
    ∙ ap (λ (l : List ℕ). l ++ x) (sym front.1) ∙ e)

pub returns-clause-live : goal.returns-clause-live
returns-clause-live g c = λ told.
    let name = Live c.args.id c.args.generation in
    let files = g.F.Pages.files c.args.folder.now in
    let bytes = bytes_of (files name) in
    let first = c.in_ok-first.ensures.first told in
    let there : IsFirstPage (g.F.Pages.files c.read.new.folder) c.in_ok-first.first = rw (c.read.ensures.reading.files told) first in
    let payloads = rw (c.read.ensures.reading.files told, c.pages_for-pages.ensures) at (c.in_ok-joined.ensures.payloads told there) in
    let pages = rw (c.read.ensures.reading.files told, c.pages_for-pages.ensures) at (c.in_ok-joined.ensures.pages told there) in
    let size : length bytes ≡ 4096 * pages_for c.in_ok-len.len =
    sym (first_size_is files c.in_ok-first.first name c.in_ok-first.ensures.name first) ∙ c.in_ok-check_size.ensures.ok.0 refl
    ∙ ap (λ (n : ℕ). 4096 * n) c.pages_for-pages.ensures in
    IfOk-both c.set_of.result _ _ _
    (λ live set long. live_file c.args.id c.args.generation bytes c.in_ok-joined.joined.items live c.in_ok-len.len set long size pages payloads)
    c.set_of.ensures.set c.set_of.ensures.long

pub returns-clause-set : goal.returns-clause-set
returns-clause-set g c =
    IfOk-weaker c.set_of.result _ _ (λ live set. set_is c.args.id c.args.generation live set.body set.set) c.set_of.ensures.set

pub returns-clause-whole : goal.returns-clause-whole
returns-clause-whole g c = λ told live file.
    let name = Live c.args.id c.args.generation in
    let files = g.F.Pages.files c.args.folder.now in
    let f = first_of c.args.id c.args.generation (bytes_of (files name)) live file in
    let payload : c.payload.result.now ≡ payload_of (page_at (bytes_of (files name)) 0) =
    c.payload.ensures.bytes ∙ first_payload_is files c.in_ok-first.first name c.in_ok-first.ensures.name (c.in_ok-first.ensures.first told) in
    let same = said_right c.args.id c.args.generation (bytes_of (files name)) c.payload.result.now live c.in_ok-len.len f payload c.in_ok-len.ensures.len in
    let there : IsFirstPage (g.F.Pages.files c.read.new.folder) c.in_ok-first.first =
    rw (c.read.ensures.reading.files told) (c.in_ok-first.ensures.first told) in
    let payloads = rw (c.read.ensures.reading.files told, c.pages_for-pages.ensures) at (c.in_ok-joined.ensures.payloads told there) in
    let all = set_not_damaged c.args.id c.args.generation (bytes_of (files name)) c.in_ok-joined.joined.items live c.in_ok-len.len f same payloads in
    on_damage_both c.set_of.result (IsLiveDamage c.args.id c.args.generation) (IsBodyDamage name c.in_ok-joined.joined.items) (λ _. ⊥)
    (λ d shown carried. no_live_damage c.args.id c.args.generation live f.body c.in_ok-joined.joined.items [] d f.set all shown carried)
    c.set_of.ensures.shown c.set_of.ensures.carried

-- ---- how much is read

pub returns-in_err-first-clause-reads : goal.returns-in_err-first-clause-reads
returns-in_err-first-clause-reads g c = λ told live file.
    let f = first_of c.args.id c.args.generation (bytes_of (g.F.Pages.files c.args.folder.now (Live c.args.id c.args.generation))) live file in
    omega (arith, f.some, f.size, c.read.ensures.reads)

pub returns-in_err-len-clause-reads : goal.returns-in_err-len-clause-reads
returns-in_err-len-clause-reads g c = λ told live file.
    let f = first_of c.args.id c.args.generation (bytes_of (g.F.Pages.files c.args.folder.now (Live c.args.id c.args.generation))) live file in
    omega (arith, f.some, f.size, c.read.ensures.reads)

pub returns-in_err-check_size-clause-reads : goal.returns-in_err-check_size-clause-reads
returns-in_err-check_size-clause-reads g c = λ told live file.
    let f = first_of c.args.id c.args.generation (bytes_of (g.F.Pages.files c.args.folder.now (Live c.args.id c.args.generation))) live file in
    omega (arith, f.some, f.size, c.read.ensures.reads)

pub returns-in_err-joined-clause-reads : goal.returns-in_err-joined-clause-reads
returns-in_err-joined-clause-reads g c = λ told live file.
    let name = Live c.args.id c.args.generation in
    let files = g.F.Pages.files c.args.folder.now in
    let f = first_of c.args.id c.args.generation (bytes_of (files name)) live file in
    let payload : c.payload.result.now ≡ payload_of (page_at (bytes_of (files name)) 0) =
    c.payload.ensures.bytes ∙ first_payload_is files c.in_ok-first.first name c.in_ok-first.ensures.name (c.in_ok-first.ensures.first told) in
    let same = said_right c.args.id c.args.generation (bytes_of (files name)) c.payload.result.now live c.in_ok-len.len f payload c.in_ok-len.ensures.len in
    let pages_are : pages_for (length f.body) ≡ c.pages_for-pages.result = ap (λ (n : ℕ). pages_for n) same ∙ sym c.pages_for-pages.ensures in
    omega (arith, f.size, pages_are, c.read.ensures.reads, c.all_payloads.ensures.reads)

pub returns-clause-reads : goal.returns-clause-reads
returns-clause-reads g c = λ told live file.
    let name = Live c.args.id c.args.generation in
    let files = g.F.Pages.files c.args.folder.now in
    let f = first_of c.args.id c.args.generation (bytes_of (files name)) live file in
    let payload : c.payload.result.now ≡ payload_of (page_at (bytes_of (files name)) 0) =
    c.payload.ensures.bytes ∙ first_payload_is files c.in_ok-first.first name c.in_ok-first.ensures.name (c.in_ok-first.ensures.first told) in
    let same = said_right c.args.id c.args.generation (bytes_of (files name)) c.payload.result.now live c.in_ok-len.len f payload c.in_ok-len.ensures.len in
    let pages_are : pages_for (length f.body) ≡ c.pages_for-pages.result = ap (λ (n : ℕ). pages_for n) same ∙ sym c.pages_for-pages.ensures in
    omega (arith, f.size, pages_are, c.read.ensures.reads, c.all_payloads.ensures.reads)

pub returns-in_err-joined-clause-once : goal.returns-in_err-joined-clause-once
returns-in_err-joined-clause-once g c = λ told.
    let name = Live c.args.id c.args.generation in
    let files = g.F.Pages.files c.args.folder.now in
    let size = sym (first_size_is files c.in_ok-first.first name c.in_ok-first.ensures.name (c.in_ok-first.ensures.first told)) ∙
    c.in_ok-check_size.ensures.ok.0 refl in
    omega (arith, size, c.read.ensures.reads, c.all_payloads.ensures.reads)

pub returns-clause-once : goal.returns-clause-once
returns-clause-once g c = λ told.
    let name = Live c.args.id c.args.generation in
    let files = g.F.Pages.files c.args.folder.now in
    let size = sym (first_size_is files c.in_ok-first.first name c.in_ok-first.ensures.name (c.in_ok-first.ensures.first told)) ∙
    c.in_ok-check_size.ensures.ok.0 refl in
    omega (arith, size, c.read.ensures.reads, c.all_payloads.ensures.reads)
