-- Opening a segment: what each step says of the file.
use Rattle.std.proofs.Common.{◌≡◌, ◌≢◌, ◌≤◌, ◌<◌, ◌^◌, ◌+◌, ◌*◌, ℕ, inl, List, [], ◌∷◌, ◌++◌}
use Rattle.std.proofs.Common.{length, refl, sym, ap, subst, ◌∙◌, arith, append_assoc, append-nil}
use Rattle.std.specs.Prelude.{slice_index, ◌==◌, Bool, true, false}
use Rattle.outer_io.specs.Files.{Files, bytes_of}
use Rattle.outer_io.specs.declared.file_name.FileName.{FileName}
use Rattle.outer_io.specs.declared.file_name.FileName.TheVariants.{Segment}
use Rattle.point_codec.specs.Points.{Region}
use Rattle.leaf_codec.specs.Leaves.{leaf_limit}
use Rattle.inner_pack.specs.Trees.{IndexTree}
use Rattle.inner_pack.specs.Bodies.{Body as IndexBody, SpellsIndex, HasTree, pages_of}
use Rattle.page_file.specs.Page.{payload_of}
use Rattle.page_cache.specs.FilePages.{page_at, IsFilePage, ArePages, payloads_of}
use Rattle.page_cache.specs.Bodies.{pages_for, padded_body}
use Rattle.page_cache.specs.Evidence.{FaultShows, ArePayloadsOf, IsFileDamage, IsFileDamageOf}
use Rattle.page_cache.specs.declared.faults.Damage.{Damage}
use Rattle.page_cache.specs.declared.faults.Damage.TheVariants.{Page, Leaf, Body, Missing, Size, Unequal, NotGiven, Doubled}
use Rattle.page_cache.specs.declared.faults.PageFault.{PageFault}
use Rattle.page_cache.specs.declared.faults.PageFault.TheVariants.{Failed, Damaged, Memory}
use Rattle.page_cache.proofs.PageRuns.{payloads_join, payloads_of_one, pages_from_first}
use Rattle.segment_file.specs.Heads.{Head, Fields, AreFields, HasRanges, IsHead, fields_bytes, fields_of, index_pages}
use Rattle.segment_file.specs.Segments.{SpellsHead, IsHeadOf, AreBeforeLeaves, WithIndex}
use Rattle.segment_file.specs.Written.{head_of}
use Rattle.segment_file.specs.FieldsSeen.{fields_said, HasFields, IsIndexOf}
use Rattle.segment_file.specs.declared.fields.HeadFields.{HeadFields}
use Rattle.segment_file.specs.Damages.{AreHeadPair, IsBodyDamage, IsPairDamage, IsHeadDamage, IsHeadDamageOf}
use Rattle.segment_file.proofs.Lists.{fronts_equal, backs_equal, bodies_equal, filled_length}
use Rattle.segment_file.proofs.FieldBytes.{word, zeros, fields_parts, fields_length, narrow_fields, fields_unique, same_fields}
use Rattle.segment_file.proofs.FirstPayloads.{OnlyShort}
use Rattle.segment_file.proofs.Unique.{head_fields}

pub first_length : (f : Fields) → length (padded_body (fields_bytes f)) ≡ 4064
first_length f = let few = fields_length f in omega (arith, few, filled_length (fields_bytes f))

-- the number of dimensions stands at offset 8
behind_word : (own : Bool) (dims : ℕ) (rest : List ℕ) → slice_index (word own ++ dims ∷ rest) 8 ≡ dims
behind_word true dims rest = refl
behind_word false dims rest = refl

pub dims_at : (f : Fields) → slice_index (padded_body (fields_bytes f)) 8 ≡ f.dims
dims_at f = ap (λ (l : List ℕ). slice_index l 8) (fields_parts f (zeros f)) ∙ behind_word (f.form == 3) f.dims _

-- ---- fields that are out of range

pub no_fields : (payload : List ℕ) → length payload ≡ 4064 → ((f : Fields) → AreFields f → payload ≢ padded_body (fields_bytes f))
    → (dims said : ℕ) (head : Head) (rest : List ℕ) → said < 2 ^ 32 → IsHead dims head
    → payload ++ [] ++ rest ≡ padded_body (fields_bytes (fields_of dims head said)) ++ padded_body head.index.bytes → ⊥
no_fields payload long none dims said head rest fits h e =
    none (fields_of dims head said) (head_fields dims head said h.ranges fits)
    (fronts_equal payload (padded_body (fields_bytes (fields_of dims head said))) rest (padded_body head.index.bytes)
    (long ∙ sym (first_length (fields_of dims head said))) (ap (λ (l : List ℕ). l ++ rest) (sym (append-nil payload)) ∙ e))

-- ---- fields and an index that begin a head's

pub fields_same : (payload : List ℕ) (f : HeadFields) (g : Fields) → HasFields payload f → AreFields g → payload ≡ padded_body (fields_bytes g)
    → fields_said f ≡ g
fields_same payload f g has are e =
    same_fields (fields_said f) g (zeros (fields_said f)) (zeros g)
    (fields_unique (fields_said f) g (zeros (fields_said f)) (zeros g) (narrow_fields (fields_said f) has.are) (narrow_fields g are) (sym has.is ∙ e))

pub record IndexBegins (f : HeadFields) (pages rest : List ℕ) (dims said : ℕ) (head : Head) : Type 0 where
  pub same : fields_said f ≡ fields_of dims head said
  pub back : pages ++ rest ≡ padded_body head.index.bytes

pub index_begins : (payload pages rest : List ℕ) (f : HeadFields) (dims said : ℕ) (head : Head) → HasFields payload f → said < 2 ^ 32 → IsHead dims head
    → payload ++ pages ++ rest ≡ padded_body (fields_bytes (fields_of dims head said)) ++ padded_body head.index.bytes → IndexBegins f pages rest dims said head
index_begins payload pages rest f dims said head has fits h e =
    let g = fields_of dims head said in
    let long : length payload ≡ length (padded_body (fields_bytes g)) =
    ap (λ (l : List ℕ). length l) has.is ∙ first_length (fields_said f) ∙ sym (first_length g) in
    let whole : payload ++ (pages ++ rest) ≡ padded_body (fields_bytes g) ++ padded_body head.index.bytes = sym (append_assoc payload pages rest) ∙ e in
    record {
      same = fields_same payload f g has (head_fields dims head said h.ranges fits)
          (fronts_equal payload (padded_body (fields_bytes g)) (pages ++ rest) (padded_body head.index.bytes) long whole);
      back = backs_equal payload (padded_body (fields_bytes g)) (pages ++ rest) (padded_body head.index.bytes) long whole;
    }

pub spells_as : (a b c x y z : ℕ) (u v : List ℕ) (r : Region) (t : IndexTree) → a ≡ x → b ≡ y → c ≡ z → u ≡ v → SpellsIndex a b c u r t
    → SpellsIndex x y z v r t
spells_as a b c x y z u v r t p q s w h =
    subst (λ (n : ℕ). SpellsIndex n y z v r t) p
    (subst (λ (n : ℕ). SpellsIndex a n z v r t) q (subst (λ (n : ℕ). SpellsIndex a b n v r t) s (subst (λ (l : List ℕ). SpellsIndex a b c l r t) w h)))

-- ---- damages

-- a damage of the file's pages, where the file is short of its first page or not at all
head_file_of : (D : ℕ) (files : Files) (name : FileName) (known : Damage → Type 0) (d : Damage) → OnlyShort files name known → IsFileDamage name d → known d
    → IsFileDamageOf files d → IsHeadDamageOf D files d
head_file_of D files name known (Page file number bytes) short named within h = h
head_file_of D files name known (Leaf file number offset len bytes) short named within h = absurd h
head_file_of D files name known (Body file bytes) short named within h = absurd h
head_file_of D files name known (Missing file) short named within h = h
head_file_of D files name known (Size file size needed) short named within h = inl (short file size needed named.0 within h)
head_file_of D files name known (Unequal file said found) short named within h = absurd h
head_file_of D files name known (NotGiven doc next) short named within h = absurd h
head_file_of D files name known (Doubled doc) short named within h = absurd h

pub head_fault_of : (D : ℕ) (files : Files) (name : FileName) (known : Damage → Type 0) (f : PageFault) → OnlyShort files name known
    → FaultShows (IsFileDamage name) f → FaultShows known f → FaultShows (IsFileDamageOf files) f → FaultShows (IsHeadDamageOf D files) f
head_fault_of D files name known Failed short named within h = tt
head_fault_of D files name known (Damaged d) short named within h = head_file_of D files name known d short named within h
head_fault_of D files name known Memory short named within h = tt

pub head_body_of : (D : ℕ) (files : Files) (name : FileName) (payloads : List ℕ) (d : Damage) → ArePayloadsOf files name payloads → IsBodyDamage name payloads d
    → IsHeadDamageOf D files d
head_body_of D files name payloads (Body file bytes) are h =
    subst (λ (f : FileName). ArePayloadsOf files f bytes) (sym h.0) (subst (λ (l : List ℕ). ArePayloadsOf files name l) (sym h.1) are)
head_body_of D files name payloads (Page file number bytes) are h = absurd h
head_body_of D files name payloads (Leaf file number offset len bytes) are h = absurd h
head_body_of D files name payloads (Missing file) are h = absurd h
head_body_of D files name payloads (Size file size needed) are h = absurd h
head_body_of D files name payloads (Unequal file said found) are h = absurd h
head_body_of D files name payloads (NotGiven doc next) are h = absurd h
head_body_of D files name payloads (Doubled doc) are h = absurd h

pub head_pair_of : (D : ℕ) (files : Files) (name : FileName) (m n : ℕ) (d : Damage) → AreHeadPair D (bytes_of (files name)) m n → IsPairDamage name m n d
    → IsHeadDamageOf D files d
head_pair_of D files name m n (Unequal file said found) are h =
    subst (λ (f : FileName). AreHeadPair D (bytes_of (files f)) said found) (sym h.0)
    (subst (λ (k : ℕ). AreHeadPair D (bytes_of (files name)) k found) (sym h.1) (subst (λ (k : ℕ). AreHeadPair D (bytes_of (files name)) m k) (sym h.2) are))
head_pair_of D files name m n (Body file bytes) are h = absurd h
head_pair_of D files name m n (Page file number bytes) are h = absurd h
head_pair_of D files name m n (Leaf file number offset len bytes) are h = absurd h
head_pair_of D files name m n (Missing file) are h = absurd h
head_pair_of D files name m n (Size file size needed) are h = absurd h
head_pair_of D files name m n (NotGiven doc next) are h = absurd h
head_pair_of D files name m n (Doubled doc) are h = absurd h

-- payloads that begin a head and its index are no damage
pub no_head_damage : (id dims said : ℕ) (head : Head) (payloads rest : List ℕ) (d : Damage) → said < 2 ^ 32 → IsHead dims head
    → payloads ++ rest ≡ padded_body (fields_bytes (fields_of dims head said)) ++ padded_body head.index.bytes
    → IsHeadDamage id d → IsBodyDamage (Segment id) payloads d → ⊥
no_head_damage id dims said head payloads rest (Body file bytes) fits h e shown carried =
    shown.1 dims said head rest fits h (ap (λ (l : List ℕ). l ++ rest) carried.1 ∙ e)
no_head_damage id dims said head payloads rest (Page file number bytes) fits h e shown carried = carried
no_head_damage id dims said head payloads rest (Leaf file number offset len bytes) fits h e shown carried = carried
no_head_damage id dims said head payloads rest (Missing file) fits h e shown carried = carried
no_head_damage id dims said head payloads rest (Size file size needed) fits h e shown carried = carried
no_head_damage id dims said head payloads rest (Unequal file said' found) fits h e shown carried = carried
no_head_damage id dims said head payloads rest (NotGiven doc next) fits h e shown carried = carried
no_head_damage id dims said head payloads rest (Doubled doc) fits h e shown carried = carried

-- ---- a file that has a head

pub record HeadOf (D : ℕ) (bytes : List ℕ) (id : ℕ) (h : Head) : Type 0 where
  pub root : Region
  pub tree : IndexTree
  pub has : HasTree D h.index root tree
  pub fits : pages_of tree < 2 ^ 32
  pub head : IsHead D h
  pub are : AreFields (fields_of D h (pages_of tree))
  pub pages : ArePages (Segment id) bytes 0 (1 + index_pages h)
  pub payload : payload_of (page_at bytes 0) ≡ padded_body (fields_bytes (fields_of D h (pages_of tree)))
  pub index : payloads_of bytes 1 (index_pages h) ≡ padded_body h.index.bytes
  pub size : length bytes ≡ 4096 * (1 + index_pages h + pages_of tree)

pub head_parts : (D : ℕ) (bytes : List ℕ) (id : ℕ) (h : Head) → h.id ≡ id → IsHeadOf D bytes h → HeadOf D bytes id h
unfolding IsHeadOf
head_parts D bytes id h same p = record {
  root = p.root;
  tree = p.tree;
  has = p.spells.has;
  fits = p.spells.said_fits;
  head = record { ranges = p.spells.ranges; spelled = record { root = p.root; tree = p.tree; has = p.spells.has } };
  are = head_fields D h (pages_of p.tree) p.spells.ranges p.spells.said_fits;
  pages = subst (λ (n : ℕ). ArePages (Segment n) bytes 0 (1 + index_pages h)) same p.spells.pages;
  payload = p.spells.first;
  index = p.spells.index;
  size = p.size;
}

-- the fields of its first page are its own
pub head_said : (D : ℕ) (bytes : List ℕ) (id : ℕ) (h : Head) (p : HeadOf D bytes id h) (payload : List ℕ) (f : HeadFields)
    → payload ≡ payload_of (page_at bytes 0) → HasFields payload f
    → fields_said f ≡ fields_of D h (pages_of p.tree)
head_said D bytes id h p payload f same has = fields_same payload f (fields_of D h (pages_of p.tree)) has p.are (same ∙ p.payload)

-- the first page and those of the index that its fields say are no leaf pages
pub before_leaves : (bytes payload : List ℕ) (f : HeadFields) → payload ≡ payload_of (page_at bytes 0) → HasFields payload f
    → AreBeforeLeaves bytes (1 + pages_for f.index_length)
before_leaves bytes payload f same has = WithIndex (fields_said f) has.are (sym same ∙ has.is) (omega arith)

-- all payloads before the leaf pages
pub head_payloads : (files : Files) (id count : ℕ) (payload rest : List ℕ) → IsFilePage (Segment id) (bytes_of (files (Segment id))) 0
    → payload ≡ payload_of (page_at (bytes_of (files (Segment id))) 0)
    → rest ≡ payloads_of (bytes_of (files (Segment id))) 1 count → ArePages (Segment id) (bytes_of (files (Segment id))) 1 (1 + count)
    → ArePayloadsOf files (Segment id) (payload ++ rest)
head_payloads files id count payload rest page front back pages = record {
  count = 1 + count;
  some = omega arith;
  pages = pages_from_first (Segment id) (bytes_of (files (Segment id))) count page pages;
  same = ap (λ (l : List ℕ). l ++ rest) (front ∙ sym (payloads_of_one (bytes_of (files (Segment id))) 0))
      ∙ ap (λ (l : List ℕ). payloads_of (bytes_of (files (Segment id))) 0 1 ++ l) back
      ∙ sym (payloads_join (bytes_of (files (Segment id))) 0 1 count);
}

-- ---- a head that was read

pub read_ranges : (D id : ℕ) (f : HeadFields) (payloads : List ℕ) (index : IndexBody) → id < 2 ^ 64 → f.dims ≡ D → AreFields (fields_said f)
    → IsIndexOf D f payloads index
    → HasRanges D (head_of id f.entries f.leaf_size index)
read_ranges D id f payloads index fits dims are i =
    let form = i.form in
    let leaves = i.leaves in
    let len = i.len in
    let least = are.least_form in
    let most = are.greatest_form in
    let told = are.leaves_are in
    let short = are.short in
    record {
      some_dims = subst (λ (n : ℕ). 1 ≤ n) dims are.some_dims;
      few_dims = subst (λ (n : ℕ). n ≤ 8) dims are.few_dims;
      id_fits = fits;
      least_form = omega arith;
      greatest_form = omega arith;
      least_leaf = are.least_leaf;
      greatest_leaf = subst (λ (n : ℕ). f.leaf_size ≤ leaf_limit n) dims are.greatest_leaf;
      some = are.some;
      few = are.few;
      leaves_are = leaves ∙ told;
      short = omega arith;
    }

pub said_fields : (D id : ℕ) (f : HeadFields) (payloads : List ℕ) (index : IndexBody) → f.dims ≡ D → IsIndexOf D f payloads index
    → fields_said f ≡ fields_of D (head_of id f.entries f.leaf_size index) f.leaf_pages
said_fields D id f payloads index dims i = λ k. record {
  dims = dims k;
  form = sym i.form k;
  leaf_size = f.leaf_size;
  entries = f.entries;
  leaves = sym i.leaves k;
  index_length = sym i.len k;
  leaf_pages = f.leaf_pages;
}

pub spells_head : (D id : ℕ) (bytes payload : List ℕ) (f : HeadFields) (index : IndexBody) (root : Region) (tree : IndexTree) → id < 2 ^ 64 → f.dims ≡ D
    → HasFields payload f
    → IsIndexOf D f (payloads_of bytes 1 (pages_for f.index_length)) index → HasTree D index root tree → IsFilePage (Segment id) bytes 0
    → payload ≡ payload_of (page_at bytes 0)
    → ArePages (Segment id) bytes 1 (1 + pages_for f.index_length) → SpellsHead D bytes (head_of id f.entries f.leaf_size index) f.leaf_pages root tree
spells_head D id bytes payload f index root tree fits dims has i tree_is page front pages =
    let count : pages_for f.index_length ≡ pages_for (length index.bytes) = ap (λ (n : ℕ). pages_for n) (sym i.len) in
    let are = has.are in
    record {
      ranges = read_ranges D id f (payloads_of bytes 1 (pages_for f.index_length)) index fits dims has.are i;
      said_fits = are.pages_fit;
      has = tree_is;
      pages = pages_from_first (Segment id) bytes (pages_for (length index.bytes)) page (subst (λ (n : ℕ). ArePages (Segment id) bytes 1 (1 + n)) count pages);
      first =
          sym front ∙ has.is
          ∙ ap (λ (g : Fields). padded_body (fields_bytes g)) (said_fields D id f (payloads_of bytes 1 (pages_for f.index_length)) index dims i);
      index = ap (λ (n : ℕ). payloads_of bytes 1 n) (sym count) ∙ i.payloads_are;
    }

-- the index that was read is that of the head that the file has
pub index_same : (D : ℕ) (bytes : List ℕ) (id : ℕ) (h : Head) (p : HeadOf D bytes id h) (f : HeadFields) (index : IndexBody)
    → fields_said f ≡ fields_of D h (pages_of p.tree)
    → IsIndexOf D f (payloads_of bytes 1 (pages_for f.index_length)) index → HasTree D index p.root p.tree
index_same D bytes id h p f index same i =
    let len : length index.bytes ≡ length h.index.bytes = i.len ∙ ap (λ (g : Fields). g.index_length) same in
    let bytes_are : h.index.bytes ≡ index.bytes =
    bodies_equal h.index.bytes index.bytes (sym len)
    (sym p.index ∙ ap (λ (n : ℕ). payloads_of bytes 1 (pages_for n)) (sym (ap (λ (g : Fields). g.index_length) same)) ∙ i.payloads_are) in
    spells_as D h.index.form h.index.leaves D index.form index.leaves h.index.bytes index.bytes p.root p.tree refl
    (sym (ap (λ (g : Fields). g.form) same) ∙ sym i.form) (sym (ap (λ (g : Fields). g.leaves) same) ∙ sym i.leaves) bytes_are p.has
