-- Bodies of commits: bytes are the body of one commit at most, and their head tells their length.
use Rattle.std.proofs.Common.{◌≡◌, ◌<◌, ◌≤◌, ◌/◌, ◌⊎◌, inl, inr, ◌+◌, ◌*◌, ◌^◌, ℕ, List, ◌++◌, length, refl, sym, ap, subst, ◌∙◌, arith, append_assoc, All}
use Rattle.std.proofs.Math.Nat.{div-le_self}
use Rattle.std.specs.List.{flat_map}
use Rattle.commit_list.specs.declared.listed.Listed.{Listed}
use Rattle.commit_list.specs.declared.head.Layout.{Layout}
use Rattle.commit_list.specs.declared.head.Layout.TheVariants.{First, Second}
use Rattle.commit_list.specs.declared.head.Head.{Head}
use Rattle.commit_list.specs.Commits.{CommitData, AreInRange, AreListed, IsCommit, FitsFields}
use Rattle.commit_list.specs.Layout.{spell_head, spell_listed, head_length, SaysGiven, FitsHead, head_of}
use Rattle.commit_list.specs.Layout.{commit_body, old_commit_body, SpellsCommit, SpellsList, BeginsBody}
use Rattle.commit_list.proofs.Heads.{head-length, heads_unique}
use Rattle.commit_list.proofs.Lists.{list-length, lists_unique, fits_listed}

abbrev list_of : CommitData → List ℕ
list_of c = flat_map spell_listed c.listed

-- the bytes begin with the commit's head in some layout, and the list follows
pub record IsSpelt (bytes : List ℕ) (c : CommitData) : Type 0 where
  pub layout : Layout
  pub fits : FitsHead (head_of layout c)
  pub spelling : bytes ≡ spell_head (head_of layout c) ++ flat_map spell_listed c.listed

fits_head : (layout : Layout) (c : CommitData) → IsCommit c → FitsFields c → SaysGiven layout c.next c.points_given → FitsHead (head_of layout c)
fits_head layout c p f says =
    let r = p.ranges in
    let leaf_size : c.leaf_size ≤ 4000 / (4 + 4 * c.dims) = r.most_leaf in
    record {
      dims = omega (arith, r.most_dims);
      leaf_size = omega (arith, leaf_size, div-le_self 4000 (4 + 4 * c.dims));
      next = omega (arith, r.numbered, r.most_given);
      points_given = omega (arith, r.most_given);
      next_segment = f.next_segment;
      count = omega (arith, r.few);
      says_given = says;
    }

pub spelt : (bytes : List ℕ) (c : CommitData) → SpellsCommit bytes c → IsSpelt bytes c
unfolding commit_body old_commit_body
spelt bytes c h =
    elim h.spelling [
      | inl e ↦ record { layout = Second; fits = fits_head Second c h.commit h.fits tt; spelling = e }
      | inr e ↦ record { layout = First; fits = fits_head First c h.commit h.fits e.0; spelling = e.1 }
    ]

pub one_commit : (c d : CommitData) (bytes : List ℕ) → SpellsCommit bytes c → SpellsCommit bytes d → c ≡ d
one_commit c d bytes p q =
    let a = spelt bytes c p in
    let b = spelt bytes d q in
    let heads = heads_unique (head_of a.layout c) (head_of b.layout d) (list_of c) (list_of d) a.fits b.fits (sym a.spelling ∙ b.spelling) in
    let listed = lists_unique c.listed d.listed (fits_listed c.next_segment c.listed p.fits.next_segment p.fits.generations p.commit.segments)
    (fits_listed d.next_segment d.listed q.fits.next_segment q.fits.generations q.commit.segments) (ap (λ (h : Head). h.count) heads.0) heads.1 in
    λ i. record {
      dims = (heads.0 i).dims;
      leaf_size = (heads.0 i).leaf_size;
      next = (heads.0 i).next;
      points_given = (heads.0 i).points_given;
      next_segment = (heads.0 i).next_segment;
      listed = listed i;
    }

-- ---- what the head tells

pub one_length : (bytes : List ℕ) (m n : ℕ) → BeginsBody bytes m → BeginsBody bytes n → m ≡ n
one_length bytes m n p q =
    let heads = heads_unique p.head q.head p.rest q.rest p.fits q.fits (sym p.begins ∙ q.begins) in
    p.long ∙ ap (λ (h : Head). head_length h.layout + 24 * h.count) heads.0 ∙ sym q.long

pub begins-more : (front more : List ℕ) (n : ℕ) → BeginsBody front n → BeginsBody (front ++ more) n
begins-more front more n h = record {
  head = h.head;
  rest = h.rest ++ more;
  begins = ap (λ (bytes : List ℕ). bytes ++ more) h.begins ∙ append_assoc (spell_head h.head) h.rest more;
  fits = h.fits;
  ranges = h.ranges;
  long = h.long;
}

pub body_begins : (body : List ℕ) (c : CommitData) → SpellsCommit body c → BeginsBody body (length body)
body_begins body c h =
    let s = spelt body c h in
    record {
      head = head_of s.layout c;
      rest = list_of c;
      begins = s.spelling;
      fits = s.fits;
      ranges = h.commit.ranges;
      long = ap length s.spelling ∙ head-length (head_of s.layout c) (list_of c) ∙ ap (λ (n : ℕ). head_length s.layout + n) (list-length c.listed);
    }

begins-head : (bytes : List ℕ) (n : ℕ) (h : Head) (rest : List ℕ) → FitsHead h → bytes ≡ spell_head h ++ rest → (b : BeginsBody bytes n) → b.head ≡ h
begins-head bytes n h rest fits e b = (heads_unique b.head h b.rest rest b.fits fits (sym b.begins ∙ e)).0

pub begins-ranges : (bytes : List ℕ) (n : ℕ) (h : Head) (rest : List ℕ) → FitsHead h → bytes ≡ spell_head h ++ rest → BeginsBody bytes n
    → AreInRange h.dims h.leaf_size h.next h.points_given h.count
begins-ranges bytes n h rest fits e b =
    subst (λ (k : Head). AreInRange k.dims k.leaf_size k.next k.points_given k.count) (begins-head bytes n h rest fits e b) b.ranges

-- ---- the fields that bytes spell are those of any commit whose body they are

record IsHeadOf (h : Head) (rest : List ℕ) (c : CommitData) : Type 0 where
  layout : Layout
  head : head_of layout c ≡ h
  list : flat_map spell_listed c.listed ≡ rest

is_head_of : (bytes : List ℕ) (h : Head) (rest : List ℕ) (c : CommitData) → FitsHead h → bytes ≡ spell_head h ++ rest → SpellsCommit bytes c → IsHeadOf h rest c
is_head_of bytes h rest c fits e p =
    let s = spelt bytes c p in
    let same = heads_unique (head_of s.layout c) h (list_of c) rest s.fits fits (sym s.spelling ∙ e) in
    record { layout = s.layout; head = same.0; list = same.1 }

pub in_range : (bytes : List ℕ) (h : Head) (rest : List ℕ) (c : CommitData) → FitsHead h → bytes ≡ spell_head h ++ rest → SpellsCommit bytes c
    → AreInRange h.dims h.leaf_size h.next h.points_given h.count
in_range bytes h rest c fits e p =
    subst (λ (k : Head). AreInRange k.dims k.leaf_size k.next k.points_given k.count) (is_head_of bytes h rest c fits e p).head p.commit.ranges

pub list_long : (bytes : List ℕ) (h : Head) (rest : List ℕ) (c : CommitData) → FitsHead h → bytes ≡ spell_head h ++ rest → SpellsCommit bytes c
    → length rest ≡ 24 * h.count
list_long bytes h rest c fits e p =
    let is = is_head_of bytes h rest c fits e p in
    sym (ap length is.list) ∙ list-length c.listed ∙ ap (λ (k : Head). 24 * k.count) is.head

pub listed_so : (bytes : List ℕ) (h : Head) (rest : List ℕ) (listed : List Listed) (c : CommitData) → FitsHead h → bytes ≡ spell_head h ++ rest
    → SpellsList rest h.count listed
    → SpellsCommit bytes c → AreListed h.next_segment listed
listed_so bytes h rest listed c fits e l p =
    let is = is_head_of bytes h rest c fits e p in
    let all = fits_listed c.next_segment c.listed p.fits.next_segment p.fits.generations p.commit.segments in
    let same = lists_unique c.listed listed all l.fits (ap (λ (k : Head). k.count) is.head ∙ sym l.long) (is.list ∙ l.spelling) in
    subst (λ (n : ℕ). AreListed n listed) (ap (λ (k : Head). k.next_segment) is.head) (subst (AreListed c.next_segment) same p.commit.segments)

-- ---- fields that meet the rules make the bytes a body

abbrev pub commit_of : Head → List Listed → CommitData
commit_of h listed =
    record { dims = h.dims; leaf_size = h.leaf_size; next = h.next; points_given = h.points_given; next_segment = h.next_segment; listed = listed }

spelling_of : (l : Layout) (h : Head) (bytes : List ℕ) (listed : List Listed) → h.layout ≡ l → SaysGiven l h.next h.points_given → length listed ≡ h.count
    → bytes ≡ spell_head h ++ flat_map spell_listed listed → let c = commit_of h listed in
    (bytes ≡ commit_body c) ⊎ ((c.points_given ≡ c.next) × (bytes ≡ old_commit_body c))
unfolding commit_body old_commit_body
spelling_of First h bytes listed l says long e =
    let same : h ≡ head_of First (commit_of h listed) = λ i.
    record {
      layout = l i;
      dims = h.dims;
      leaf_size = h.leaf_size;
      next = h.next;
      points_given = h.points_given;
      next_segment = h.next_segment;
      count = (sym long) i;
    } in
    inr (says, e ∙ ap (λ (k : Head). spell_head k ++ flat_map spell_listed listed) same)
spelling_of Second h bytes listed l says long e =
    let same : h ≡ head_of Second (commit_of h listed) = λ i.
    record {
      layout = l i;
      dims = h.dims;
      leaf_size = h.leaf_size;
      next = h.next;
      points_given = h.points_given;
      next_segment = h.next_segment;
      count = (sym long) i;
    } in
    inl (e ∙ ap (λ (k : Head). spell_head k ++ flat_map spell_listed listed) same)

pub may_stand : (h : Head) (rest : List ℕ) (listed : List Listed) → AreInRange h.dims h.leaf_size h.next h.points_given h.count → SpellsList rest h.count listed
    → AreListed h.next_segment listed → IsCommit (commit_of h listed)
may_stand h rest listed ranges l are = record {
  ranges = subst (λ (n : ℕ). AreInRange h.dims h.leaf_size h.next h.points_given n) (sym l.long) ranges;
  segments = are;
}

pub spells_so : (bytes : List ℕ) (h : Head) (rest : List ℕ) (listed : List Listed) → FitsHead h → bytes ≡ spell_head h ++ rest
    → AreInRange h.dims h.leaf_size h.next h.points_given h.count → SpellsList rest h.count listed → AreListed h.next_segment listed
    → SpellsCommit bytes (commit_of h listed)
spells_so bytes h rest listed fits e ranges l are = record {
  commit = may_stand h rest listed ranges l are;
  fits = record { next_segment = fits.next_segment; generations = λ k d lt. (l.fits k d lt).generation };
  spelling = spelling_of h.layout h bytes listed refl fits.says_given l.long (e ∙ ap (λ (r : List ℕ). spell_head h ++ r) l.spelling);
}

-- ---- what is written

pub written : (c : CommitData) (h : Head) (listed : List Listed) (front bytes : List ℕ) → h ≡ head_of Second c → listed ≡ c.listed → front ≡ spell_head h
    → bytes ≡ front ++ flat_map spell_listed listed → bytes ≡ commit_body c
unfolding commit_body
written c h listed front bytes heads lists begins e =
    e ∙ ap (λ (r : List ℕ). r ++ flat_map spell_listed listed) (begins ∙ ap spell_head heads)
    ∙ ap (λ (xs : List Listed). spell_head (head_of Second c) ++ flat_map spell_listed xs) lists

pub written_spells : (c : CommitData) (listed : List Listed) (bytes : List ℕ) → IsCommit c → c.next_segment < 2 ^ 64 → All (λ s. s.generation < 2 ^ 64) listed
    → listed ≡ c.listed
    → bytes ≡ commit_body c → SpellsCommit bytes c
written_spells c listed bytes commit below generations lists e = record {
  commit = commit;
  fits = record { next_segment = below; generations = subst (All (λ (s : Listed). s.generation < 2 ^ 64)) lists generations };
  spelling = inl e;
}
