use Rattle.std.proofs.Common.{arith, sym, ap, refl, subst, inr, ◌≡◌, ◌∙◌, ◌+◌, ◌*◌, ℕ, length}
use Rattle.std.proofs.lemmas.Result.{err_from_is_err_and}
use Rattle.outer_io.specs.Files.{bytes_of}
use Rattle.outer_io.specs.declared.file_name.FileName.TheVariants.{Segment}
use Rattle.inner_pack.specs.Bodies.{pages_of}
use Rattle.page_file.specs.Page.{payload_of}
use Rattle.page_cache.specs.FilePages.{page_at, IsFilePage}
use Rattle.page_cache.specs.Bodies.{pages_for}
use Rattle.page_cache.specs.FirstPages.{first_payload}
use Rattle.page_cache.proofs.Damages.{fault_weaker}
use Rattle.segment_file.specs.Heads.{Fields}
use Rattle.segment_file.specs.Segments.{SpellsHead, IsHeadOf, OnePage}
use Rattle.segment_file.specs.Written.{head_of}
use Rattle.segment_file.specs.Damages.{IsPairDamage, IsHeadDamageOf}
use Rattle.segment_file.proofs.FirstPayloads.{first_payload_is, first_size_is}
use Rattle.segment_file.proofs.HeadReads.{before_leaves, head_pair_of, head_parts, head_said, spells_head, index_same}
use Rattle.segment_file.proofs.open.open_segment.Goals as goal

pub returns-in_err-index-clause-damage : goal.returns-in_err-index-clause-damage
returns-in_err-index-clause-damage g c = λ told.
    let name = Segment c.args.id in
    let files = g.F.Pages.files c.args.folder.now in
    let f = c.in_ok-first.fields in
    let first = c.in_ok-first.ensures.first told in
    let payload : c.payload.result.now ≡ payload_of (page_at (bytes_of (files name)) 0) =
    c.payload.ensures.bytes ∙ first_payload_is files c.in_ok-first.first name c.in_ok-first.ensures.name first in
    let page : IsFilePage name (bytes_of (files name)) 0 = rw (← c.in_ok-first.ensures.name) first.page in
    let size : length (bytes_of (files name)) ≡ 4096 * (1 + pages_for f.index_length + f.leaf_pages) =
    sym (first_size_is files c.in_ok-first.first name c.in_ok-first.ensures.name first) ∙ c.in_ok-first.ensures.size in
    let found = rw (c.read_head.ensures.files told) at (c.in_err-index.ensures.damage told) in
    let e = err_from_is_err_and c.from_residual-in_err-index.result c.from_residual-in_err-index.ensures.1 in
    rw (e.1, e.2) (found page payload size)

pub returns-in_err-agree-clause-damage : goal.returns-in_err-agree-clause-damage
returns-in_err-agree-clause-damage g c = λ told.
    let name = Segment c.args.id in
    let files = g.F.Pages.files c.args.folder.now in
    let f = c.in_ok-first.fields in
    let index = c.in_ok-index.index in
    let first = c.in_ok-first.ensures.first told in
    let payload : first_payload c.in_ok-first.first ≡ payload_of (page_at (bytes_of (files name)) 0) =
    first_payload_is files c.in_ok-first.first name c.in_ok-first.ensures.name first in
    let page : IsFilePage name (bytes_of (files name)) 0 = rw (← c.in_ok-first.ensures.name) first.page in
    let i = rw (c.read_head.ensures.files told) at (c.in_ok-index.ensures.payloads told) in
    let pages = rw (c.read_head.ensures.files told) at (c.in_ok-index.ensures.pages told) in
    let s = i.spelled in
    let head = spells_head g.row.D c.args.id (bytes_of (files name)) (first_payload c.in_ok-first.first) f index s.root s.tree (omega arith)
    c.in_ok-first.ensures.dims c.in_ok-first.ensures.fields i s.has page payload pages in
    let found : c.leaf_pages.result ≡ pages_of s.tree = c.leaf_pages.ensures s.root s.tree s.has in
    let pair = rw (c.from.ensures, c.from-2.ensures) at c.in_err-agree.ensures.pair in
    let e = err_from_is_err_and c.from_residual-in_err-agree.result c.from_residual-in_err-agree.ensures.1 in
    rw (e.1, e.2)
    (fault_weaker c.in_err-agree.field-0.0 (IsPairDamage name f.leaf_pages c.leaf_pages.result) (IsHeadDamageOf g.row.D files)
    (λ d told_pair. head_pair_of g.row.D files name f.leaf_pages c.leaf_pages.result d
    (inr (head_of c.args.id f.entries f.leaf_size index, s.root, s.tree, head, found)) told_pair)
    pair)

pub returns-in_err-agree-clause-whole : goal.returns-in_err-agree-clause-whole
returns-in_err-agree-clause-whole g c = λ told h ids file.
    let name = Segment c.args.id in
    let files = g.F.Pages.files c.args.folder.now in
    let f = c.in_ok-first.fields in
    let p = head_parts g.row.D (bytes_of (files name)) c.args.id h ids file in
    let payload : first_payload c.in_ok-first.first ≡ payload_of (page_at (bytes_of (files name)) 0) =
    first_payload_is files c.in_ok-first.first name c.in_ok-first.ensures.name (c.in_ok-first.ensures.first told) in
    let said = head_said g.row.D (bytes_of (files name)) c.args.id h p (first_payload c.in_ok-first.first) f payload c.in_ok-first.ensures.fields in
    let i = rw (c.read_head.ensures.files told) at (c.in_ok-index.ensures.payloads told) in
    let has = index_same g.row.D (bytes_of (files name)) c.args.id h p f c.in_ok-index.index said i in
    let equal : c.from.result ≡ c.from-2.result =
    c.from.ensures ∙ ap (λ (x : Fields). x.leaf_pages) said ∙ sym (c.leaf_pages.ensures p.root p.tree has) ∙ sym c.from-2.ensures in
    absurd (let no_ok = c.in_err-agree.ensures.ok.1 equal in cc)

pub returns-clause-head : goal.returns-clause-head
unfolding IsHeadOf
returns-clause-head g c = λ told.
    let name = Segment c.args.id in
    let files = g.F.Pages.files c.args.folder.now in
    let f = c.in_ok-first.fields in
    let index = c.in_ok-index.index in
    let first = c.in_ok-first.ensures.first told in
    let payload : first_payload c.in_ok-first.first ≡ payload_of (page_at (bytes_of (files name)) 0) =
    first_payload_is files c.in_ok-first.first name c.in_ok-first.ensures.name first in
    let page : IsFilePage name (bytes_of (files name)) 0 = rw (← c.in_ok-first.ensures.name) first.page in
    let i = rw (c.read_head.ensures.files told) at (c.in_ok-index.ensures.payloads told) in
    let pages = rw (c.read_head.ensures.files told) at (c.in_ok-index.ensures.pages told) in
    let s = i.spelled in
    let head = spells_head g.row.D c.args.id (bytes_of (files name)) (first_payload c.in_ok-first.first) f index s.root s.tree (omega arith)
    c.in_ok-first.ensures.dims c.in_ok-first.ensures.fields i s.has page payload pages in
    let said : f.leaf_pages ≡ pages_of s.tree =
    sym c.from.ensures ∙ c.in_ok-agree.ensures.ok.0 refl ∙ c.from-2.ensures ∙ c.leaf_pages.ensures s.root s.tree s.has in
    let len : pages_for f.index_length ≡ pages_for (length index.bytes) = ap (λ (n : ℕ). pages_for n) (sym i.len) in
    let size = c.in_ok-first.ensures.size in
    let size_is = first_size_is files c.in_ok-first.first name c.in_ok-first.ensures.name first in
    record {
      root = s.root;
      tree = s.tree;
      spells = subst (λ (n : ℕ). SpellsHead g.row.D (bytes_of (files name)) (head_of c.args.id f.entries f.leaf_size index) n s.root s.tree) said head;
      size = omega arith;
    }

-- ---- how much is read

pub returns-in_err-index-clause-no_leaf : goal.returns-in_err-index-clause-no_leaf
returns-in_err-index-clause-no_leaf g c = λ told.
    let bytes = bytes_of (g.F.Pages.files c.args.folder.now (Segment c.args.id)) in
    let f = c.in_ok-first.fields in
    let payload = first_payload_is (g.F.Pages.files c.args.folder.now) c.in_ok-first.first (Segment c.args.id) c.in_ok-first.ensures.name
    (c.in_ok-first.ensures.first told) in (
      1 + pages_for f.index_length,
      omega (arith, c.read_head.ensures.reads, c.read_index.ensures.reads),
      before_leaves bytes
          (first_payload c.in_ok-first.first) f payload c.in_ok-first.ensures.fields,
    )

pub returns-in_err-agree-clause-no_leaf : goal.returns-in_err-agree-clause-no_leaf
returns-in_err-agree-clause-no_leaf g c = λ told.
    let bytes = bytes_of (g.F.Pages.files c.args.folder.now (Segment c.args.id)) in
    let f = c.in_ok-first.fields in
    let payload = first_payload_is (g.F.Pages.files c.args.folder.now) c.in_ok-first.first (Segment c.args.id) c.in_ok-first.ensures.name
    (c.in_ok-first.ensures.first told) in (
      1 + pages_for f.index_length,
      omega (arith, c.read_head.ensures.reads, c.read_index.ensures.reads),
      before_leaves bytes
          (first_payload c.in_ok-first.first) f payload c.in_ok-first.ensures.fields,
    )

pub returns-clause-no_leaf : goal.returns-clause-no_leaf
returns-clause-no_leaf g c = λ told.
    let bytes = bytes_of (g.F.Pages.files c.args.folder.now (Segment c.args.id)) in
    let f = c.in_ok-first.fields in
    let payload = first_payload_is (g.F.Pages.files c.args.folder.now) c.in_ok-first.first (Segment c.args.id) c.in_ok-first.ensures.name
    (c.in_ok-first.ensures.first told) in (
      1 + pages_for f.index_length,
      omega (arith, c.read_head.ensures.reads, c.read_index.ensures.reads),
      before_leaves bytes
          (first_payload c.in_ok-first.first) f payload c.in_ok-first.ensures.fields,
    )

pub returns-in_err-first-clause-no_leaf : goal.returns-in_err-first-clause-no_leaf
returns-in_err-first-clause-no_leaf g c = λ told. (1, c.read_head.ensures.reads, OnePage (omega arith))

pub returns-in_err-index-clause-most : goal.returns-in_err-index-clause-most
returns-in_err-index-clause-most g c = λ told h ids file.
    let name = Segment c.args.id in
    let files = g.F.Pages.files c.args.folder.now in
    let p = head_parts g.row.D (bytes_of (files name)) c.args.id h ids file in
    let payload : first_payload c.in_ok-first.first ≡ payload_of (page_at (bytes_of (files name)) 0) =
    first_payload_is files c.in_ok-first.first name c.in_ok-first.ensures.name (c.in_ok-first.ensures.first told) in
    let said =
    head_said g.row.D (bytes_of (files name)) c.args.id h p (first_payload c.in_ok-first.first) c.in_ok-first.fields payload c.in_ok-first.ensures.fields in
    omega (arith, ap (λ (x : Fields). pages_for x.index_length) said, c.read_head.ensures.reads, c.read_index.ensures.reads)

pub returns-in_err-agree-clause-most : goal.returns-in_err-agree-clause-most
returns-in_err-agree-clause-most g c = λ told h ids file.
    let name = Segment c.args.id in
    let files = g.F.Pages.files c.args.folder.now in
    let p = head_parts g.row.D (bytes_of (files name)) c.args.id h ids file in
    let payload : first_payload c.in_ok-first.first ≡ payload_of (page_at (bytes_of (files name)) 0) =
    first_payload_is files c.in_ok-first.first name c.in_ok-first.ensures.name (c.in_ok-first.ensures.first told) in
    let said =
    head_said g.row.D (bytes_of (files name)) c.args.id h p (first_payload c.in_ok-first.first) c.in_ok-first.fields payload c.in_ok-first.ensures.fields in
    omega (arith, ap (λ (x : Fields). pages_for x.index_length) said, c.read_head.ensures.reads, c.read_index.ensures.reads)

pub returns-clause-most : goal.returns-clause-most
returns-clause-most g c = λ told h ids file.
    let name = Segment c.args.id in
    let files = g.F.Pages.files c.args.folder.now in
    let p = head_parts g.row.D (bytes_of (files name)) c.args.id h ids file in
    let payload : first_payload c.in_ok-first.first ≡ payload_of (page_at (bytes_of (files name)) 0) =
    first_payload_is files c.in_ok-first.first name c.in_ok-first.ensures.name (c.in_ok-first.ensures.first told) in
    let said =
    head_said g.row.D (bytes_of (files name)) c.args.id h p (first_payload c.in_ok-first.first) c.in_ok-first.fields payload c.in_ok-first.ensures.fields in
    omega (arith, ap (λ (x : Fields). pages_for x.index_length) said, c.read_head.ensures.reads, c.read_index.ensures.reads)
