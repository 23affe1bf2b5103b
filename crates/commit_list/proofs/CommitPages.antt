-- Payloads of a Commit file, and the commit that they say.
use Rattle.std.proofs.Common.{◌≡◌, ◌≢◌, ◌≤◌, ◌+◌, ◌-◌, ◌*◌, ℕ, List, [], ◌∷◌, ◌++◌, length, take, drop, replicate, Option}
use Rattle.std.proofs.Common.{Some, None, refl, sym, ap, subst, ◌∙◌, arith, append-nil, length-append, MatchOption}
use Rattle.std.proofs.Math.Seq.{take-append-add}
use Rattle.std.proofs.lemmas.List.{take_at, drop_at, take-append-drop, length-replicate, length-take}
use Rattle.outer_io.specs.declared.file_name.FileName.{FileName}
use Rattle.outer_io.specs.declared.file_name.FileName.TheVariants.{Commit}
use Rattle.outer_io.specs.Files.{Files, bytes_of}
use Rattle.page_cache.specs.FilePages.{page_at, IsFilePage, ArePages, payloads_of}
use Rattle.page_cache.specs.declared.first_page.FirstPage.{FirstPage}
use Rattle.page_cache.specs.FirstPages.{first_name, first_payload, first_size, IsFirstPage}
use Rattle.page_cache.specs.Evidence.{ArePayloadsOf}
use Rattle.page_cache.specs.Bodies.{pages_for, padded_body}
use Rattle.commit_list.specs.declared.head.Layout.{Layout}
use Rattle.commit_list.specs.declared.head.Layout.TheVariants.{First, Second}
use Rattle.commit_list.specs.Commits.{CommitData}
use Rattle.commit_list.specs.Layout.{spell_head, given_length, head_length, SpellsCommit, BeginsBody, HasNoCommit}
use Rattle.commit_list.specs.CommitFiles.{IsCommitFile, SpellsFilled, HasNoFilled, IsNoCommitBody}
use Rattle.page_cache.proofs.PageRuns.{payloads_join, payloads_of_one}
use Rattle.commit_list.proofs.Heads.{head-length}
use Rattle.commit_list.proofs.Bodies.{one_commit, one_length, begins-more, body_begins}

-- ---- how long bodies are

given_short : (l : Layout) → given_length l ≤ 4
unfolding given_length
given_short First = omega arith
given_short Second = omega arith

-- a body of a commit has at least a head, and with the longest list 4,829 bytes
pub begins-short : (bytes : List ℕ) (n : ℕ) → BeginsBody bytes n → (25 ≤ n) × (n ≤ 4829)
begins-short bytes n b =
    let few = b.ranges.few in
    let given = given_short b.head.layout in
    (omega (arith, b.long), omega (arith, b.long, few, given))

pub body_short : (body : List ℕ) (c : CommitData) → SpellsCommit body c → (25 ≤ length body) × (length body ≤ 4829)
body_short body c h = begins-short body (length body) (body_begins body c h)

pub filled-length : (body : List ℕ) → length (padded_body body) ≡ 4064 * pages_for (length body)
filled-length body =
    omega (
      arith,
      length-append body (replicate (4064 * pages_for (length body) - length body) 0),
      length-replicate {A = ℕ} (4064 * pages_for (length body) - length body) 0,
    )

-- ---- payloads begin as the body does

pub filled_begins : (body : List ℕ) (c : CommitData) → SpellsCommit body c → BeginsBody (padded_body body) (length body)
filled_begins body c h = begins-more body (replicate (4064 * pages_for (length body) - length body) 0) (length body) (body_begins body c h)

pub payloads_begin : (payloads : List ℕ) (c : CommitData) → (h : SpellsFilled payloads c) → BeginsBody payloads (length h.body)
payloads_begin payloads c h = subst (λ (bytes : List ℕ). BeginsBody bytes (length h.body)) (sym h.same) (filled_begins h.body c h.spells)

-- a front that is long enough has the head too
pub begins-front : (bytes : List ℕ) (k n : ℕ) → 29 ≤ k → BeginsBody bytes n → BeginsBody (take k bytes) n
begins-front bytes k n le b =
    let long : length (spell_head b.head) ≡ head_length b.head.layout = omega (arith, head-length b.head [], length-append (spell_head b.head) []) in
    let given = given_short b.head.layout in
    let more : k ≡ length (spell_head b.head) + (k - length (spell_head b.head)) = omega (arith, long, given) in
    record {
      head = b.head;
      rest = take (k - length (spell_head b.head)) b.rest;
      begins = ap (λ (m : ℕ). take m bytes) more ∙ ap (λ (xs : List ℕ). take (length (spell_head b.head) + (k - length (spell_head b.head))) xs) b.begins
          ∙ take-append-add (spell_head b.head) b.rest (k - length (spell_head b.head));
      fits = b.fits;
      ranges = b.ranges;
      long = b.long;
    }

-- a first payload with no head in range begins no body
pub begins_none : (payload : List ℕ) → length payload ≡ 4064 → ((n : ℕ) → BeginsBody payload n → ⊥) → IsNoCommitBody payload
begins_none payload len none c body rest h e =
    let front : take 4064 (padded_body body) ≡ payload = ap (λ (bytes : List ℕ). take 4064 bytes) (sym e) ∙ take_at payload rest 4064 len in
    none (length body)
    (subst (λ (bytes : List ℕ). BeginsBody bytes (length body)) front
    (begins-front (padded_body body) 4064 (length body) (omega arith) (filled_begins body c h)))

-- nor do payloads that are as many as their head asks for and are those of no body
pub filled_none : (payloads : List ℕ) (n : ℕ) → BeginsBody payloads n → length payloads ≡ 4064 * pages_for n → HasNoFilled payloads → IsNoCommitBody payloads
filled_none payloads n b long none c body rest h e =
    let whole = subst (λ (bytes : List ℕ). BeginsBody bytes n) e (begins-more payloads rest n b) in
    let same : length body ≡ n = one_length (padded_body body) (length body) n (filled_begins body c h) whole in
    let all : length (padded_body body) ≡ 4064 * pages_for n = filled-length body ∙ ap (λ (m : ℕ). 4064 * pages_for m) same in
    none c (record { body = body; same = sym (no_more rest (omega (arith, length-append payloads rest, ap length e, all, long))) ∙ e; spells = h })
  where
    no_more : (more : List ℕ) → length more ≡ 0 → payloads ++ more ≡ payloads
    no_more [] gone = append-nil payloads
    no_more (x ∷ xs) gone = absurd (omega (arith, gone))

-- ---- payloads and the body that their head speaks of

-- behind the body stand zeros
pub filled_rest : (payloads : List ℕ) (n : ℕ) (c : CommitData) → BeginsBody payloads n → SpellsFilled payloads c
    → drop n payloads ≡ replicate (length (drop n payloads)) 0
filled_rest payloads n c b h =
    let same = one_length payloads (length h.body) n (payloads_begin payloads c h) b in
    let zeros = replicate (4064 * pages_for (length h.body) - length h.body) 0 in
    let rest : drop n payloads ≡ zeros = ap (λ (xs : List ℕ). drop n xs) h.same ∙ drop_at h.body zeros n same in
    rest ∙ ap (λ (m : ℕ). replicate m 0) (sym (length-replicate {A = ℕ} (4064 * pages_for (length h.body) - length h.body) 0))
    ∙ ap (λ (xs : List ℕ). replicate (length xs) 0) (sym rest)

-- in front stands the body
pub filled_front : (payloads : List ℕ) (n : ℕ) (c : CommitData) → BeginsBody payloads n → SpellsFilled payloads c → SpellsCommit (take n payloads) c
filled_front payloads n c b h =
    let same = one_length payloads (length h.body) n (payloads_begin payloads c h) b in
    let zeros = replicate (4064 * pages_for (length h.body) - length h.body) 0 in
    let front : take n payloads ≡ h.body = ap (λ (xs : List ℕ). take n xs) h.same ∙ take_at h.body zeros n same in
    subst (λ (xs : List ℕ). SpellsCommit xs c) (sym front) h.spells

-- a body with the right number of zeros behind it
pub filled_so : (payloads : List ℕ) (n : ℕ) (c : CommitData) → length payloads ≡ 4064 * pages_for n → drop n payloads ≡ replicate (length (drop n payloads)) 0
    → SpellsCommit (take n payloads) c → SpellsFilled payloads c
filled_so payloads n c long zeros h =
    let front : length (take n payloads) ≡ n = omega (arith, length-take n payloads) in
    let back : length (drop n payloads) ≡ 4064 * pages_for (length (take n payloads)) - length (take n payloads) =
    omega (arith, ap length (take-append-drop n payloads), length-append (take n payloads) (drop n payloads), ap pages_for front) in
    record {
      body = take n payloads;
      same = sym (take-append-drop n payloads) ∙ ap (λ (xs : List ℕ). take n payloads ++ xs) (zeros ∙ ap (λ (m : ℕ). replicate m 0) back);
      spells = h;
    }

pub filled_answer : (payloads : List ℕ) (n : ℕ) (found : Option CommitData) → BeginsBody payloads n → length payloads ≡ 4064 * pages_for n
    → drop n payloads ≡ replicate (length (drop n payloads)) 0
    → MatchOption found (HasNoCommit (take n payloads)) (SpellsCommit (take n payloads)) → MatchOption found (HasNoFilled payloads) (SpellsFilled payloads)
filled_answer payloads n None b long zeros none = λ c h. none c (filled_front payloads n c b h)
filled_answer payloads n (Some c) b long zeros h = filled_so payloads n c long zeros h

-- ---- the file

-- a file's payloads are those of the commit that it says
pub file_filled : (bytes : List ℕ) (c : CommitData) → (h : IsCommitFile bytes c) → SpellsFilled (payloads_of bytes 0 (pages_for (length h.body))) c
file_filled bytes c h = record { body = h.body; same = h.file.payload; spells = h.spells }

one_filled : (payloads : List ℕ) (c d : CommitData) → SpellsFilled payloads c → SpellsFilled payloads d → c ≡ d
one_filled payloads c d p q =
    let b = payloads_begin payloads d q in
    one_commit c d (take (length q.body) payloads) (filled_front payloads (length q.body) c b p) (filled_front payloads (length q.body) d b q)

pub one_file : (bytes : List ℕ) (c d : CommitData) → IsCommitFile bytes c → IsCommitFile bytes d → c ≡ d
one_file bytes c d p q =
    let pages : pages_for (length p.body) ≡ pages_for (length q.body) = omega (arith, p.file.len, q.file.len) in
    one_filled (payloads_of bytes 0 (pages_for (length q.body))) c d (subst (λ (n : ℕ). SpellsFilled (payloads_of bytes 0 n) c) pages (file_filled bytes c p))
    (file_filled bytes d q)

pub file_long : (bytes : List ℕ) (c : CommitData) → IsCommitFile bytes c → 4096 ≤ length bytes
file_long bytes c h = let short = body_short h.body c h.spells in omega (arith, h.file.len, short.0)

pub file_there : (file : Option (List ℕ)) (c : CommitData) → IsCommitFile (bytes_of file) c → (file ≡ Some (bytes_of file)) × (4096 ≤ length (bytes_of file))
file_there None c h = absurd (omega (arith, file_long [] c h))
file_there (Some bytes) c h = (refl, file_long bytes c h)

-- pages that are all there, and whose payloads are filled
pub file_so : (bytes payloads : List ℕ) (pages : ℕ) (c : CommitData) → length bytes ≡ 4096 * pages → ArePages Commit bytes 0 pages
    → payloads ≡ payloads_of bytes 0 pages
    → length payloads ≡ 4064 * pages → SpellsFilled payloads c → IsCommitFile bytes c
file_so bytes payloads pages c long are same len h =
    let count : pages ≡ pages_for (length h.body) = omega (arith, len, ap length h.same, filled-length h.body) in
    record {
      body = h.body;
      file = record {
        len = long ∙ ap (λ (n : ℕ). 4096 * n) count;
        pages = subst (λ (n : ℕ). ArePages Commit bytes 0 n) count are;
        payload = ap (λ (n : ℕ). payloads_of bytes 0 n) (sym count) ∙ sym same ∙ h.same;
      };
      spells = h.spells;
    }

pub first_of_file : (bytes : List ℕ) (c : CommitData) → IsCommitFile bytes c → IsFilePage Commit bytes 0
first_of_file bytes c h = let short = body_short h.body c h.spells in h.file.pages 0 (omega arith) (omega (arith, short.0))

-- the payload of the first page is the front of all of them
first_front : (bytes : List ℕ) (pages : ℕ) → 1 ≤ pages → IsFilePage Commit bytes 0 → take 4064 (payloads_of bytes 0 pages) ≡ take 4064 (page_at bytes 0)
unfolding IsFilePage
first_front bytes pages some page =
    let more : pages ≡ 1 + (pages - 1) = omega arith in
    let long : length (take 4064 (page_at bytes 0)) ≡ 4064 = omega (arith, length-take 4064 (page_at bytes 0), page.len) in
    ap (λ (n : ℕ). take 4064 (payloads_of bytes 0 n)) more
    ∙ ap (λ (xs : List ℕ). take 4064 xs)
    (payloads_join bytes 0 1 (pages - 1) ∙ ap (λ (xs : List ℕ). xs ++ payloads_of bytes (0 + 1) (pages - 1)) (payloads_of_one bytes 0))
    ∙ take_at (take 4064 (page_at bytes 0)) (payloads_of bytes (0 + 1) (pages - 1)) 4064 long

pub first_begins : (bytes payload : List ℕ) (c : CommitData) → payload ≡ take 4064 (page_at bytes 0) → (h : IsCommitFile bytes c)
    → BeginsBody payload (length h.body)
first_begins bytes payload c e h =
    let short = body_short h.body c h.spells in
    let front = first_front bytes (pages_for (length h.body)) (omega (arith, short.0)) (first_of_file bytes c h) in
    subst (λ (xs : List ℕ). BeginsBody xs (length h.body)) (ap (λ (xs : List ℕ). take 4064 xs) (sym h.file.payload) ∙ front ∙ sym e)
    (begins-front (padded_body h.body) 4064 (length h.body) (omega arith) (filled_begins h.body c h.spells))

-- as many pages as the head of its first payload speaks of
pub file_pages : (bytes payload : List ℕ) (n : ℕ) (c : CommitData) → payload ≡ take 4064 (page_at bytes 0) → BeginsBody payload n → IsCommitFile bytes c
    → length bytes ≡ 4096 * pages_for n
file_pages bytes payload n c e b h =
    h.file.len ∙ ap (λ (m : ℕ). 4096 * pages_for m) (one_length payload (length h.body) n (first_begins bytes payload c e h) b)

pub file_payloads : (bytes payloads : List ℕ) (pages : ℕ) (c : CommitData) → length bytes ≡ 4096 * pages → payloads ≡ payloads_of bytes 0 pages
    → IsCommitFile bytes c → SpellsFilled payloads c
file_payloads bytes payloads pages c long same h =
    let count : pages_for (length h.body) ≡ pages = omega (arith, h.file.len, long) in
    subst (λ (xs : List ℕ). SpellsFilled xs c) (ap (λ (n : ℕ). payloads_of bytes 0 n) count ∙ sym same) (file_filled bytes c h)

-- ---- the first page of the Commit file

pub record IsFirstOf (bytes : List ℕ) (size : ℕ) (payload : List ℕ) : Type 0 where
  pub size_is : size ≡ length bytes
  pub page : IsFilePage Commit bytes 0
  pub payload_is : payload ≡ take 4064 (page_at bytes 0)

pub first_of : (files : Files) (p : FirstPage) → first_name p ≡ Commit → IsFirstPage files p
    → IsFirstOf (bytes_of (files Commit)) (first_size p) (first_payload p)
first_of files p e h = record {
  size_is = h.size ∙ ap (λ (n : FileName). length (bytes_of (files n))) e;
  page = subst (λ (n : FileName). IsFilePage n (bytes_of (files n)) 0) e h.page;
  payload_is = h.payload ∙ ap (λ (n : FileName). take 4064 (page_at (bytes_of (files n)) 0)) e;
}

pub first_payloads : (files : Files) (size : ℕ) (payload bytes : List ℕ) → IsFirstOf (bytes_of (files Commit)) size payload → bytes ≡ payload
    → ArePayloadsOf files Commit bytes
first_payloads files size payload bytes h e = record {
  count = 1;
  some = omega arith;
  pages = λ n low high. let zero : 0 ≡ n = omega arith in subst (IsFilePage Commit (bytes_of (files Commit))) zero h.page;
  same = e ∙ h.payload_is ∙ sym (payloads_of_one (bytes_of (files Commit)) 0);
}

no_page : IsFilePage Commit [] 0 → ⊥
unfolding IsFilePage page_at
no_page page = let long = page.len in omega (arith, long)

-- where a first page was found, the file is there
pub first_there : (file : Option (List ℕ)) → IsFilePage Commit (bytes_of file) 0 → file ≢ None
first_there None page e = no_page page
first_there (Some bytes) page e = cc
