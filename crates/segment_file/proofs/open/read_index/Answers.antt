use Rattle.std.proofs.Common.{arith, sym, ap, append-nil, ◌≡◌, ◌≤◌, ◌∙◌, ◌+◌, ◌*◌, ◌++◌, List, [], ℕ, length}
use Rattle.std.proofs.lemmas.Result.{err_from_is_err_and}
use Rattle.outer_io.specs.Files.{bytes_of}
use Rattle.outer_io.specs.declared.file_name.FileName.TheVariants.{Segment}
use Rattle.inner_pack.specs.Bodies.{pages_of}
use Rattle.page_cache.specs.FilePages.{payloads_of, ArePages}
use Rattle.page_cache.specs.Bodies.{pages_for, padded_body}
use Rattle.page_cache.specs.Evidence.{SizeWithin}
use Rattle.page_cache.proofs.Damages.{on_damage_weaker, on_damage_both}
use Rattle.segment_file.specs.Heads.{Fields, fields_bytes, fields_of}
use Rattle.segment_file.specs.Damages.{IsBodyDamage, IsHeadDamage, IsHeadDamageOf}
use Rattle.segment_file.proofs.FirstPayloads.{never_cut}
use Rattle.segment_file.proofs.HeadReads.{head_fault_of, head_body_of, head_payloads, no_head_damage, head_parts, head_said}
use Rattle.segment_file.proofs.open.read_index.Goals as goal

pub returns-in_err-payloads-clause-damage : goal.returns-in_err-payloads-clause-damage
returns-in_err-payloads-clause-damage g c = λ told page payload size.
    let name = Segment c.args.id in
    let files = g.F.Pages.files c.args.folder.now in
    let pages = 1 + c.pages_for-pages.result in
    let few : pages ≤ 1 + pages_for c.args.fields.index_length + c.args.fields.leaf_pages = omega (arith, c.pages_for-pages.ensures) in
    let e = err_from_is_err_and c.from_residual.result c.from_residual.ensures.1 in
    rw (e.1, e.2)
    (head_fault_of g.row.D files name (SizeWithin (4096 * pages)) c.in_err-payloads.field-0.0
    (never_cut files name pages (1 + pages_for c.args.fields.index_length + c.args.fields.leaf_pages) few size)
    c.in_err-payloads.ensures.shown c.in_err-payloads.ensures.within (c.in_err-payloads.ensures.damage told))

pub returns-in_err-payloads-clause-whole : goal.returns-in_err-payloads-clause-whole
returns-in_err-payloads-clause-whole g c = λ told h ids file payload.
    let name = Segment c.args.id in
    let files = g.F.Pages.files c.args.folder.now in
    let p = head_parts g.row.D (bytes_of (files name)) c.args.id h ids file in
    let said = head_said g.row.D (bytes_of (files name)) c.args.id h p c.args.payload.now c.args.fields payload c.requires.fields in
    let count : pages_for (length h.index.bytes) ≡ c.pages_for-pages.result =
    ap (λ (x : Fields). pages_for x.index_length) (sym said) ∙ sym c.pages_for-pages.ensures in
    let pages : ArePages name (bytes_of (files name)) 1 (1 + c.pages_for-pages.result) = λ n from below. p.pages n (omega arith) (omega arith) in
    let e = err_from_is_err_and c.from_residual.result c.from_residual.ensures.1 in
    rw (e.1, e.2) (c.in_err-payloads.ensures.whole told pages)

pub returns-clause-damage : goal.returns-clause-damage
returns-clause-damage g c = λ told page payload size.
    let name = Segment c.args.id in
    let files = g.F.Pages.files c.args.folder.now in
    let are = head_payloads files c.args.id c.pages_for-pages.result c.args.payload.now c.in_ok-payloads.payloads.items page payload
    (c.in_ok-payloads.ensures.payloads told) (c.in_ok-payloads.ensures.pages told) in
    on_damage_weaker c.index_of.result (IsBodyDamage name (c.args.payload.now ++ c.in_ok-payloads.payloads.items)) (IsHeadDamageOf g.row.D files)
    (λ d carried. head_body_of g.row.D files name (c.args.payload.now ++ c.in_ok-payloads.payloads.items) d are carried)
    c.index_of.ensures.carried

pub returns-clause-whole : goal.returns-clause-whole
returns-clause-whole g c = λ told h ids file payload.
    let name = Segment c.args.id in
    let files = g.F.Pages.files c.args.folder.now in
    let p = head_parts g.row.D (bytes_of (files name)) c.args.id h ids file in
    let said = head_said g.row.D (bytes_of (files name)) c.args.id h p c.args.payload.now c.args.fields payload c.requires.fields in
    let count : c.pages_for-pages.result ≡ pages_for (length h.index.bytes) = c.pages_for-pages.ensures ∙ ap (λ (x : Fields). pages_for x.index_length) said in
    let index : c.in_ok-payloads.payloads.items ≡ padded_body h.index.bytes =
    c.in_ok-payloads.ensures.payloads told ∙ ap (λ (n : ℕ). payloads_of (bytes_of (files name)) 1 n) count ∙ p.index in
    let first : c.args.payload.now ≡ padded_body (fields_bytes (fields_of g.row.D h (pages_of p.tree))) = payload ∙ p.payload in
    let whole : c.args.payload.now ++ c.in_ok-payloads.payloads.items ++ []
    ≡ padded_body (fields_bytes (fields_of g.row.D h (pages_of p.tree))) ++ padded_body h.index.bytes =
    append-nil (c.args.payload.now ++ c.in_ok-payloads.payloads.items) ∙ ap (λ (l : List ℕ). l ++ c.in_ok-payloads.payloads.items) first
    ∙ ap (λ (l : List ℕ). padded_body (fields_bytes (fields_of g.row.D h (pages_of p.tree))) ++ l) index in
    on_damage_both c.index_of.result (IsHeadDamage c.args.id) (IsBodyDamage name (c.args.payload.now ++ c.in_ok-payloads.payloads.items)) (λ _. ⊥)
    (λ d shown carried.
    no_head_damage c.args.id g.row.D (pages_of p.tree) h (c.args.payload.now ++ c.in_ok-payloads.payloads.items) [] d p.fits p.head whole shown carried)
    c.index_of.ensures.shown c.index_of.ensures.carried
