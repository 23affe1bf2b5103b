-- Pages that agree with the files, and are valid, after one more is kept or some are taken out.
use Rattle.std.proofs.Common.{◌≡◌, ℕ, zero, suc, ◌⊎◌, inl, inr, List, not, Contains, filter, replicate, Option, Some, None}
use Rattle.std.proofs.Common.{IfSome, IfNone, refl, sym, ap, ◌∙◌, subst, ne_eqb, eq-eqb, true≢false}
use Rattle.std.specs.declared.boxed.Box.{Box}
use Rattle.std.specs.declared.alloc.Global.{Global}
use Rattle.std.specs.Map.{keys_of}
use Rattle.lru.proofs.Splits.{Contains-cons, Contains-nil}
use Rattle.outer_io.specs.Files.{Files}
use Rattle.outer_io.specs.declared.file_name.FileName.TheVariants.{Segment}
use Rattle.page_file.specs.declared.page.PageBytes.{PageBytes}
use Rattle.page_file.specs.Page.{IsPage}
use Rattle.page_cache.specs.declared.key.PageKey.{PageKey}
use Rattle.page_cache.specs.declared.leaf_part.LeafPart.{LeafPart}
use Rattle.page_cache.specs.Keys.{KeptData, Kept, fresh, page_key, AllValid, KeepsIn, KeepsDeadIn, KeepsNoMore, KeepsOneMore, MarksOne, is_of_other}
use Rattle.page_cache.specs.Evidence.{IsPageOf}
use Rattle.page_cache.proofs.TakenOut.{in_filter, into_filter}

-- what is kept agrees with the files
abbrev pub AgreesIn : Files → Kept → Type 0
AgreesIn files pages = (id number : ℕ) (bytes : List ℕ) → KeepsIn pages (page_key id number) bytes → IsPageOf files (Segment id) number bytes

pub keeps_fewer : (old new : Kept) (key : PageKey) (bytes : List ℕ) → KeepsNoMore old new → KeepsIn new key bytes → KeepsIn old key bytes
keeps_fewer old new key bytes fewer k = (k.0, fewer (key, k.0) k.1, k.2)

-- what is known of dead leaves
pub dead_fewer : (old new : Kept) (key : PageKey) (part : LeafPart) (bytes : List ℕ) → KeepsNoMore old new → KeepsDeadIn new key part bytes
    → KeepsDeadIn old key part bytes
dead_fewer old new key part bytes fewer k = (k.0, fewer (key, k.0) k.1, k.2, k.3)

-- nothing is known of a page that was read now
none_told : (n : ℕ) (part : LeafPart) → Contains (replicate n None) (Some part) → ⊥
none_told zero part has = Contains-nil (Some part) has
none_told (suc n) part has = elim (Contains-cons None (replicate n None) (Some part) has) [
  | inl e ↦ cc
  | inr on ↦ none_told n part on
]

pub dead_one : (key : PageKey) (page : Box PageBytes Global) (old new : Kept) → KeepsOneMore key (fresh page) old new → (k : PageKey) (part : LeafPart)
    (bytes : List ℕ) → KeepsDeadIn new k part bytes → KeepsDeadIn old k part bytes
dead_one key page old new one k part bytes known = elim (one (k, known.0) known.1) [
  | inl was ↦ (known.0, was, known.2, known.3)
  | inr same ↦ absurd (none_told 8 part (subst (λ (e : PageKey × KeptData). Contains e.1.dead (Some part)) same known.3))
]

pub agrees_fewer : (files : Files) (old new : Kept) → KeepsNoMore old new → AgreesIn files old → AgreesIn files new
agrees_fewer files old new fewer agrees id number bytes k = agrees id number bytes (keeps_fewer old new (page_key id number) bytes fewer k)

pub valid_fewer : (old new : Kept) → KeepsNoMore old new → AllValid old → AllValid new
valid_fewer old new fewer valid e c = valid e (fewer e c)

module _ (id number : ℕ) (page : KeptData) (old new : Kept) (one : KeepsOneMore (page_key id number) page old new) where
  pub agrees_one : (files : Files) → IsPageOf files (Segment id) number page.page.value.b → AgreesIn files old → AgreesIn files new
  agrees_one files this agrees i n bytes k = elim (one (page_key i n, k.0) k.1) [
    | inl was ↦ agrees i n bytes (k.0, was, k.2)
    | inr same ↦
        let moved : IsPageOf files (Segment i) n k.0.page.value.b =
        subst (λ (e : PageKey × KeptData). IsPageOf files (Segment e.0.id) e.0.number e.1.page.value.b) (sym same) this in
        subst (IsPageOf files (Segment i) n) k.2 moved
  ]

  pub valid_one : IsPage 1 id number page.page.value.b → AllValid old → AllValid new
  valid_one this valid e c = elim (one e c) [
    | inl was ↦ valid e was
    | inr same ↦ subst (λ (f : PageKey × KeptData). IsPage 1 f.0.id f.0.number f.1.page.value.b) (sym same) this
  ]

  pub keeps_one : (i n : ℕ) (bytes : List ℕ) → KeepsIn new (page_key i n) bytes → KeepsIn old (page_key i n) bytes ⊎ (i ≡ id)
  keeps_one i n bytes k = elim (one (page_key i n, k.0) k.1) [
    | inl was ↦ inl (k.0, was, k.2)
    | inr same ↦ inr (ap (λ (e : PageKey × KeptData). e.0.id) same)
  ]

-- after a file was taken out
module _ (id : ℕ) (old new : Kept) (others : new ≡ filter (λ e. is_of_other id e.0) old) where
  pub others_fewer : KeepsNoMore old new
  others_fewer e c = (in_filter (λ (f : PageKey × KeptData). is_of_other id f.0) old e (subst (λ (l : Kept). Contains l e) others c)).0

  pub others_gone : (n : ℕ) (page : KeptData) → Contains new (page_key id n, page) → ⊥
  others_gone n page c =
      let passed = (in_filter (λ (f : PageKey × KeptData). is_of_other id f.0) old (page_key id n, page)
      (subst (λ (l : Kept). Contains l (page_key id n, page)) others c)).1 in
      true≢false (sym passed ∙ ap not (eq-eqb id id refl))

  pub others_stay : (i n : ℕ) (bytes : List ℕ) → (i ≡ id → ⊥) → KeepsIn old (page_key i n) bytes → KeepsIn new (page_key i n) bytes
  others_stay i n bytes other k = (
    k.0,
    subst (λ (l : Kept). Contains l (page_key i n, k.0)) (sym others)
        (into_filter (λ (f : PageKey × KeptData). is_of_other id f.0) old (page_key i n, k.0) k.1 (ap not (ne_eqb i id other))),
    k.2,
  )

pub taken_valid : (es : Kept) (id number : ℕ) (r : Option (Box PageBytes Global)) → AllValid es
    → IfSome r (λ p. KeepsIn es (page_key id number) p.value.b)
    → IfSome r (λ p. IsPage 1 id number p.value.b)
taken_valid es id number None valid k = tt
taken_valid es id number (Some p) valid k = subst (IsPage 1 id number) k.2 (valid (page_key id number, k.0) k.1)

-- marks change no page, so all stay valid
pub valid_marked : (key : PageKey) (part : LeafPart) (old new : Kept) → MarksOne key part old new → AllValid old → AllValid new
valid_marked key part old new marks valid e c =
    let was = marks.was e.0 e.1.page.value.b (e.1, c, refl) in subst (IsPage 1 e.0.id e.0.number) was.2 (valid (e.0, was.0) was.1)

pub taken_order : (es ns : Kept) (r : Option (Box PageBytes Global)) → IfNone r (ns ≡ es) → IfNone r (keys_of ns ≡ keys_of es)
taken_order es ns None same = ap (λ (l : Kept). keys_of l) same
taken_order es ns (Some p) same = tt
