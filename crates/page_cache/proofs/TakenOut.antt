-- A segment's file is taken out of the kept pages by turning the list once.
use Rattle.std.proofs.Common.{◌≡◌, ℕ, zero, suc, ◌-◌, ◌<◌, Bool, true, false, not, cond, inl, inr, List, [], ◌∷◌, ◌++◌, length, take}
use Rattle.std.proofs.Common.{drop, filter, Contains, Option, Some, None, refl, sym, ap, ◌∙◌, subst, arith, append_assoc, eq-eqb, ne_eqb}
use Rattle.std.specs.List.{AllByRecursion, IsDistinct}
use Rattle.std.specs.Option.{option_map_or}
use Rattle.std.specs.Map.{keys_of, lookup_entry, remove_entry}
use Rattle.std.proofs.lemmas.Map.Keys.{IsDistinct-head, IsDistinct-tail}
use Rattle.lru.specs.LruCache.{promoted, last_entry}
use Rattle.lru.proofs.Pairs.{last_of_push}
use Rattle.lru.proofs.Splits.{Contains-head, Contains-tail, Contains-cons, Contains-nil}
use Rattle.page_cache.specs.declared.key.PageKey.{PageKey}
use Rattle.page_cache.specs.Keys.{KeptData, Kept, same_key, is_of_other}
use Rattle.page_cache.proofs.KeptPages.{key_itself, key_turned}

-- ---- a segment's file is taken out by turning the list once

apart_of_last : (k : PageKey) (front : Kept) (last : PageKey × KeptData) → AllByRecursion (λ y. same_key k y ≡ false) (keys_of (front ++ last ∷ []))
    → same_key k last.0 ≡ false
apart_of_last k [] last h = h.0
apart_of_last k (f ∷ front) last h = apart_of_last k front last h.1

last_found : (front : Kept) (last : PageKey × KeptData) → IsDistinct same_key (keys_of (front ++ last ∷ []))
    → lookup_entry (same_key last.0) (front ++ last ∷ []) ≡ Some last
last_found [] last apart = ap (λ (b : Bool). cond b (Some last) None) (key_itself last.0)
last_found (f ∷ front) last apart =
    let other : same_key last.0 f.0 ≡ false =
    key_turned last.0 f.0 ∙ apart_of_last f.0 front last (IsDistinct-head same_key f.0 (keys_of (front ++ last ∷ [])) apart) in
    ap (λ (b : Bool). cond b (Some f) (lookup_entry (same_key last.0) (front ++ last ∷ []))) other
    ∙ last_found front last (IsDistinct-tail same_key f.0 (keys_of (front ++ last ∷ [])) apart)

last_left : (front : Kept) (last : PageKey × KeptData) → IsDistinct same_key (keys_of (front ++ last ∷ []))
    → remove_entry (same_key last.0) (front ++ last ∷ []) ≡ front
last_left [] last apart = ap (λ (b : Bool). cond b [] (last ∷ [])) (key_itself last.0)
last_left (f ∷ front) last apart =
    let other : same_key last.0 f.0 ≡ false =
    key_turned last.0 f.0 ∙ apart_of_last f.0 front last (IsDistinct-head same_key f.0 (keys_of (front ++ last ∷ [])) apart) in
    ap (λ (b : Bool). cond b (front ++ last ∷ []) (f ∷ remove_entry (same_key last.0) (front ++ last ∷ []))) other
    ∙ ap (λ (l : Kept). f ∷ l) (last_left front last (IsDistinct-tail same_key f.0 (keys_of (front ++ last ∷ [])) apart))

-- the last page goes to the front
pub last_first : (es front : Kept) (last : PageKey × KeptData) → es ≡ front ++ last ∷ [] → IsDistinct same_key (keys_of es)
    → promoted (same_key last.0) es ≡ last ∷ front
last_first es front last e apart =
    let apart' : IsDistinct same_key (keys_of (front ++ last ∷ [])) = subst (λ (l : Kept). IsDistinct same_key (keys_of l)) e apart in
    ap (λ (l : Kept). promoted (same_key last.0) l) e
    ∙ ap (λ (o : Option (PageKey × KeptData)). option_map_or (λ g. g ∷ remove_entry (same_key last.0) (front ++ last ∷ [])) o (front ++ last ∷ []))
    (last_found front last apart')
    ∙ ap (λ (l : Kept). last ∷ l) (last_left front last apart')

-- element m of a list parts it
pub parted : {X : Type 0} (xs : List X) (m : ℕ) → m < length xs → (x : X) × (take (suc m) xs ≡ take m xs ++ x ∷ []) × (drop m xs ≡ x ∷ drop (suc m) xs)
parted [] m h = absurd (omega arith)
parted (x ∷ xs) zero h = (x, refl, refl)
parted (x ∷ xs) (suc m) h = let on = parted xs m (omega arith) in (on.0, ap (λ (l : List _). x ∷ l) on.1, on.2)

front_filtered : {X : Type 0} (p : X → Bool) (x : X) (ds ts : List X)
    → cond {A = List X} (p x) (x ∷ (filter p ds ++ ts)) (filter p ds ++ ts) ≡ filter p (x ∷ ds) ++ ts
front_filtered {X = X} p x ds ts =
    elim (p x) as (λ b. cond {A = List X} b (x ∷ (filter p ds ++ ts)) (filter p ds ++ ts) ≡ cond {A = List X} b (x ∷ filter p ds) (filter p ds) ++ ts) [
      | true ↦ refl
      | false ↦ refl
    ]

-- one page more was turned: those behind are filtered and stand in front
pub turned_more : {X : Type 0} (p : X → Bool) (all now new : List X) (m : ℕ) → m < length all → now ≡ filter p (drop (suc m) all) ++ take (suc m) all
    → ((front : List X) (last : X) → now ≡ front ++ last ∷ [] → new ≡ cond {A = List X} (p last) (last ∷ front) front)
    → new ≡ filter p (drop m all) ++ take m all
turned_more p all now new m some before turn =
    let cut = parted all m some in
    let ends =
    before ∙ ap (λ (l : List _). filter p (drop (suc m) all) ++ l) cut.1 ∙ sym (append_assoc (filter p (drop (suc m) all)) (take m all) (cut.0 ∷ [])) in
    turn (filter p (drop (suc m) all) ++ take m all) cut.0 ends
    ∙ front_filtered p cut.0 (drop (suc m) all) (take m all)
    ∙ ap (λ (l : List _). filter p l ++ take m all) (sym cut.2)

-- ---- what a filter leaves

pub in_filter : {X : Type 0} (p : X → Bool) (xs : List X) (x : X) → Contains (filter p xs) x → Contains xs x × (p x ≡ true)
in_filter p [] x c = absurd (Contains-nil x c)
in_filter {X = X} p (y ∷ ys) x c =
    (elim (p y) as (λ b. p y ≡ b → Contains (cond {A = List X} b (y ∷ filter p ys) (filter p ys)) x → Contains (y ∷ ys) x × (p x ≡ true)) [
      | true ↦ λ t d. elim (Contains-cons y (filter p ys) x d) [
        | inl e ↦ (subst (Contains (y ∷ ys)) e (Contains-head y ys), ap p (sym e) ∙ t)
        | inr on ↦ let more = in_filter p ys x on in (Contains-tail y ys x more.0, more.1)
      ]
      | false ↦ λ t d. let more = in_filter p ys x d in (Contains-tail y ys x more.0, more.1)
    ]) refl c

pub into_filter : {X : Type 0} (p : X → Bool) (xs : List X) (x : X) → Contains xs x → p x ≡ true → Contains (filter p xs) x
into_filter p [] x c t = absurd (Contains-nil x c)
into_filter {X = X} p (y ∷ ys) x c t = elim (Contains-cons y ys x c) [
  | inl e ↦ subst (λ (b : Bool). Contains (cond {A = List X} b (y ∷ filter p ys) (filter p ys)) x) (sym (ap p e ∙ t))
      (subst (Contains (y ∷ filter p ys)) e (Contains-head y (filter p ys)))
  | inr on ↦ (elim (p y) as (λ b. Contains (cond {A = List X} b (y ∷ filter p ys) (filter p ys)) x) [
    | true ↦ Contains-tail y (filter p ys) x (into_filter p ys x on t)
    | false ↦ into_filter p ys x on t
  ])
]

pub keys_filtered : (id : ℕ) (es : Kept) → keys_of (filter (λ e. is_of_other id e.0) es) ≡ filter (is_of_other id) (keys_of es)
keys_filtered id [] = refl
keys_filtered id (f ∷ es) =
    (elim (is_of_other id f.0) as (λ b.
    keys_of (cond {A = Kept} b (f ∷ filter (λ e. is_of_other id e.0) es) (filter (λ e. is_of_other id e.0) es))
    ≡ cond {A = List PageKey} b (f.0 ∷ filter (is_of_other id) (keys_of es)) (filter (is_of_other id) (keys_of es))) [
      | true ↦ ap (λ (ks : List PageKey). f.0 ∷ ks) (keys_filtered id es)
      | false ↦ keys_filtered id es
    ])

-- ---- one turn

pub key_of_last : (o : Option (PageKey × KeptData)) (k : PageKey) (v : KeptData) (es front : Kept)
    (last : PageKey × KeptData)
    → o ≡ last_entry es → o ≡ Some (k, v) → es ≡ front ++ last ∷ [] → k ≡ last.0
key_of_last o k v es front last at is e =
    let found = sym is ∙ at ∙ ap (λ (l : Kept). last_entry l) e ∙ (last_of_push front last).0 in
    ap (λ (x : Option (PageKey × KeptData)). option_map_or (λ (p : PageKey × KeptData). p.0) x k) found

pub turn_out : (id : ℕ) (es ns front : Kept) (last : PageKey × KeptData) → ns ≡ take (length es - 1) es → es ≡ front ++ last ∷ [] → last.0.id ≡ id
    → ns ≡ cond {A = Kept} (is_of_other id last.0) (last ∷ front) front
turn_out id es ns front last after e own =
    after ∙ ap (λ (l : Kept). take (length l - 1) l) e ∙ (last_of_push front last).1
    ∙ sym (ap (λ (b : Bool). cond {A = Kept} (not b) (last ∷ front) front) (eq-eqb last.0.id id own))

pub turn_round : (id : ℕ) (es ns front : Kept) (last : PageKey × KeptData) (k : PageKey) → ns ≡ promoted (same_key k) es → k ≡ last.0
    → es ≡ front ++ last ∷ []
    → IsDistinct same_key (keys_of es) → (last.0.id ≡ id → ⊥) → ns ≡ cond {A = Kept} (is_of_other id last.0) (last ∷ front) front
turn_round id es ns front last k after same e apart other =
    after ∙ ap (λ (j : PageKey). promoted (same_key j) es) same ∙ last_first es front last e apart
    ∙ sym (ap (λ (b : Bool). cond {A = Kept} (not b) (last ∷ front) front) (ne_eqb last.0.id id other))
