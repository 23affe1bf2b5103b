-- Kept pages as lists: what using, keeping and taking out a page does to them.
use Rattle.std.proofs.Common.{◌≡◌, ℕ, ◌-◌, Bool, true, false, ◌&&◌, ◌⊎◌, cond, nat_eq, inl, inr, List, [], ◌∷◌, take}
use Rattle.std.proofs.Common.{Contains, Option, Some, None, IfSome, IfNone, refl, sym, ap, ◌∙◌, subst, eqb-true, true≢false}
use Rattle.std.specs.Bool.{OnTrue, OnFalse}
use Rattle.std.specs.Cmp.{IsEquivalence}
use Rattle.std.specs.List.{IsDistinct}
use Rattle.std.specs.Option.{is_some, option_map, option_map_or}
use Rattle.std.specs.Map.{keys_of, lookup, lookup_entry, remove_entry}
use Rattle.std.proofs.lemmas.Cmp.{nat_eq_equiv}
use Rattle.std.proofs.lemmas.List.{take-map}
use Rattle.std.proofs.lemmas.Map.{lookup-remove_entry}
use Rattle.std.proofs.lemmas.Map.Views.{Contains-from_lookup}
use Rattle.lru.specs.LruCache.{LruCache, promoted, put_entries}
use Rattle.lru.proofs.Splits.{Contains-head, Contains-tail, Contains-cons, Contains-nil}
use Rattle.lru.proofs.CallerLemmas.{Contains-take, Contains-lookup_entry, Contains-promoted}
use Rattle.std.specs.declared.boxed.Box.{Box}
use Rattle.std.specs.declared.alloc.Global.{Global}
use Rattle.page_file.specs.declared.page.PageBytes.{PageBytes}
use Rattle.page_cache.specs.declared.key.PageKey.{PageKey}
use Rattle.page_cache.specs.Keys.{KeptData, Kept, same_key, keys_but, HasKey, KeepsIn, KeepsNoMore, KeepsOneMore}

-- ---- keys

both : (s t : Bool) → (s && t) ≡ true → (s ≡ true) × (t ≡ true)
both true t e = (refl, e)
both false t e = cc

pub key_true : (a b : PageKey) → same_key a b ≡ true → a ≡ b
key_true a b e =
    let tests = both (nat_eq a.id b.id) (nat_eq a.number b.number) e in
    let ids = eqb-true a.id b.id tests.0 in
    let numbers = eqb-true a.number b.number tests.1 in
    λ i. record { id = ids i; number = numbers i }

pub key_itself : (a : PageKey) → same_key a a ≡ true
key_itself a = ap (λ (b : Bool). b && nat_eq a.number a.number) (nat_eq_equiv.refl a.id) ∙ nat_eq_equiv.refl a.number

pub key_turned : (a b : PageKey) → same_key a b ≡ same_key b a
key_turned a b =
    ap (λ (x : Bool). x && nat_eq a.number b.number) (nat_eq_equiv.symm a.id b.id)
    ∙ ap (λ (x : Bool). nat_eq b.id a.id && x) (nat_eq_equiv.symm a.number b.number)

pub key_equiv : IsEquivalence same_key
key_equiv = record {
  refl = key_itself;
  symm = key_turned;
  congr = λ x y z e. ap (λ (k : PageKey). same_key k z) (key_true x y e);
}

-- ---- what is found

module _ (key : PageKey) where
  -- no page of this key is found only where none is kept
  pub none_has : (es : Kept) → lookup_entry (same_key key) es ≡ None → HasKey es key → ⊥
  none_has [] h has = Contains-nil (key, has.0) has.1
  none_has (f ∷ es) h has = (elim (same_key key f.0) as (λ b. same_key key f.0 ≡ b → ⊥) [
    | true ↦ λ t. let g = rw t at h in cc
    | false ↦ λ t. elim (Contains-cons f es (key, has.0) has.1) [
      | inl e ↦ true≢false (sym (key_itself key) ∙ ap (λ (g : PageKey × KeptData). same_key key g.0) (sym e) ∙ t)
      | inr on ↦ none_has es (rw t at h) (has.0, on)
    ]
  ]) refl

  -- an entry that is found has the key
  pub found_entry : (es : Kept) (e : PageKey × KeptData) → lookup_entry (same_key key) es ≡ Some e → Contains es (key, e.1)
  found_entry es e h =
      let c = Contains-lookup_entry (same_key key) es e h in
      subst (λ (k : PageKey). Contains es (k, e.1)) (sym (key_true key e.0 c.1)) c.0

  pub missing_none : (es : Kept) (o : Option (PageKey × KeptData)) → lookup_entry (same_key key) es ≡ o → (HasKey es key → ⊥)
      → lookup_entry (same_key key) es ≡ None
  missing_none es None h missing = h
  missing_none es (Some e) h missing = absurd (missing (e.1, found_entry es e h))

  -- the value and the entry that are found
  pub value_of_entry : (es : Kept) → is_some (lookup (same_key key) es) ≡ is_some (lookup_entry (same_key key) es)
  value_of_entry [] = refl
  value_of_entry (f ∷ es) =
      (elim (same_key key f.0) as (λ b. is_some (cond b (Some f.1) (lookup (same_key key) es)) ≡ is_some (cond b (Some f) (lookup_entry (same_key key) es))) [
        | true ↦ refl
        | false ↦ value_of_entry es
      ])

  pub none_of_value : (es : Kept) → lookup (same_key key) es ≡ None → lookup_entry (same_key key) es ≡ None
  none_of_value [] h = refl
  none_of_value (f ∷ es) h =
      (elim (same_key key f.0) as (λ b. cond b (Some f.1) (lookup (same_key key) es) ≡ None → cond b (Some f) (lookup_entry (same_key key) es) ≡ None) [
        | true ↦ λ g. cc
        | false ↦ λ g. none_of_value es g
      ]) h

  -- the keys of what is left
  pub keys_without : (es : Kept) → keys_of (remove_entry (same_key key) es) ≡ keys_but key (keys_of es)
  keys_without [] = refl
  keys_without (f ∷ es) =
      (elim (same_key key f.0) as (λ b. keys_of (cond b es (f ∷ remove_entry (same_key key) es)) ≡ cond b (keys_of es) (f.0 ∷ keys_but key (keys_of es))) [
        | true ↦ refl
        | false ↦ ap (λ (ks : List PageKey). f.0 ∷ ks) (keys_without es)
      ])

  -- ---- a page is used

  abbrev used : Kept → Option (PageKey × KeptData) → Kept
  used es o = option_map_or (λ e. e ∷ remove_entry (same_key key) es) o es

  used_found : (es : Kept) (o : Option (PageKey × KeptData)) → lookup_entry (same_key key) es ≡ o → OnTrue (is_some o) (HasKey (used es o) key)
  used_found es None h = tt
  used_found es (Some e) h =
      let same : key ≡ e.0 = key_true key e.0 (Contains-lookup_entry (same_key key) es e h).1 in
      (e.1, subst (λ (k : PageKey). Contains (e ∷ remove_entry (same_key key) es) (k, e.1)) (sym same) (Contains-head e (remove_entry (same_key key) es)))

  used_missing : (es : Kept) (o : Option (PageKey × KeptData)) → lookup_entry (same_key key) es ≡ o → OnFalse (is_some o) (HasKey es key → ⊥)
  used_missing es None h = none_has es h
  used_missing es (Some e) h = tt

  used_first : (es : Kept) (o : Option (PageKey × KeptData)) → lookup_entry (same_key key) es ≡ o
      → OnTrue (is_some o) (keys_of (used es o) ≡ key ∷ keys_but key (keys_of es))
  used_first es None h = tt
  used_first es (Some e) h =
      let same : key ≡ e.0 = key_true key e.0 (Contains-lookup_entry (same_key key) es e h).1 in
      ap (λ (k : PageKey). k ∷ keys_of (remove_entry (same_key key) es)) (sym same) ∙ ap (λ (ks : List PageKey). key ∷ ks) (keys_without es)

  -- each page that was kept is kept
  stays_or_found : (es : Kept) (e : PageKey × KeptData) → Contains es e
      → Contains (remove_entry (same_key key) es) e ⊎ (lookup_entry (same_key key) es ≡ Some e)
  stays_or_found [] e has = absurd (Contains-nil e has)
  stays_or_found (f ∷ es) e has =
      (elim (same_key key f.0) as (λ b.
      Contains (cond b es (f ∷ remove_entry (same_key key) es)) e ⊎ (cond b (Some f) (lookup_entry (same_key key) es) ≡ Some e)) [
        | true ↦ elim (Contains-cons f es e has) [
          | inl same ↦ inr (ap (λ (g : PageKey × KeptData). Some g) same)
          | inr on ↦ inl on
        ]
        | false ↦ elim (Contains-cons f es e has) [
          | inl same ↦ inl (subst (Contains (f ∷ remove_entry (same_key key) es)) same (Contains-head f (remove_entry (same_key key) es)))
          | inr on ↦ elim (stays_or_found es e on) [
            | inl left ↦ inl (Contains-tail f (remove_entry (same_key key) es) e left)
            | inr first ↦ inr first
          ]
        ]
      ])

  used_more : (es : Kept) (o : Option (PageKey × KeptData)) → lookup_entry (same_key key) es ≡ o → KeepsNoMore (used es o) es
  used_more es None h e has = has
  used_more es (Some f) h e has = elim (stays_or_found es e has) [
    | inl left ↦ Contains-tail f (remove_entry (same_key key) es) e left
    | inr first ↦ subst (Contains (f ∷ remove_entry (same_key key) es)) (some_one f e (sym h ∙ first)) (Contains-head f (remove_entry (same_key key) es))
  ]
    where
      some_one : (x y : PageKey × KeptData) → Some x ≡ Some y → x ≡ y
      some_one x y same = cc

  used_same : (es : Kept) (o : Option (PageKey × KeptData)) → OnFalse (is_some o) (used es o ≡ es)
  used_same es None = refl
  used_same es (Some e) = tt

  module _ (es ns : Kept) (r : Bool) (value : r ≡ is_some (lookup (same_key key) es)) (after : ns ≡ promoted (same_key key) es) where
    by_entry : r ≡ is_some (lookup_entry (same_key key) es)
    by_entry = value ∙ value_of_entry es

    pub touch_found : OnTrue r (HasKey ns key)
    touch_found =
        let at = used_found es (lookup_entry (same_key key) es) refl in
        let moved = subst (λ (b : Bool). OnTrue b (HasKey (promoted (same_key key) es) key)) (sym by_entry) at in
        subst (λ (l : Kept). OnTrue r (HasKey l key)) (sym after) moved

    pub touch_missing : OnFalse r (HasKey es key → ⊥)
    touch_missing = subst (λ (b : Bool). OnFalse b (HasKey es key → ⊥)) (sym by_entry) (used_missing es (lookup_entry (same_key key) es) refl)

    pub touch_first : OnTrue r (keys_of ns ≡ key ∷ keys_but key (keys_of es))
    touch_first =
        let moved = subst (λ (b : Bool). OnTrue b (keys_of (promoted (same_key key) es) ≡ key ∷ keys_but key (keys_of es))) (sym by_entry)
        (used_first es (lookup_entry (same_key key) es) refl) in
        subst (λ (l : Kept). OnTrue r (keys_of l ≡ key ∷ keys_but key (keys_of es))) (sym after) moved

    pub touch_same : OnFalse r (ns ≡ es)
    touch_same =
        let moved = subst (λ (b : Bool). OnFalse b (promoted (same_key key) es ≡ es)) (sym by_entry) (used_same es (lookup_entry (same_key key) es)) in
        subst (λ (l : Kept). OnFalse r (l ≡ es)) (sym after) moved

    pub touch_more : KeepsNoMore ns es
    touch_more e c = subst (λ (l : Kept). Contains l e) (sym after) (used_more es (lookup_entry (same_key key) es) refl e c)

    pub touch_fewer : KeepsNoMore es ns
    touch_fewer e c = Contains-promoted (same_key key) es e (subst (λ (l : Kept). Contains l e) after c)

  -- ---- a page is kept

  pub put_missing : (c : LruCache PageKey KeptData) (page : KeptData) → (HasKey c.entries key → ⊥)
      → put_entries same_key c key page ≡ (key, page) ∷ take (c.cap - 1) c.entries
  put_missing c page missing =
      ap (λ (o : Option (PageKey × KeptData)).
      option_map_or (λ e. (e.0, page) ∷ remove_entry (same_key key) c.entries) o ((key, page) ∷ take (c.cap - 1) c.entries))
      (missing_none c.entries (lookup_entry (same_key key) c.entries) refl missing)

  module _ (es ns : Kept) (room : ℕ) (page : KeptData) (after : ns ≡ (key, page) ∷ take (room - 1) es) where
    pub keep_kept : Contains ns (key, page)
    keep_kept = subst (λ (l : Kept). Contains l (key, page)) (sym after) (Contains-head (key, page) (take (room - 1) es))

    pub keep_one : KeepsOneMore key page es ns
    keep_one e c = elim (Contains-cons (key, page) (take (room - 1) es) e (subst (λ (l : Kept). Contains l e) after c)) [
      | inl same ↦ inr (sym same)
      | inr on ↦ inl (Contains-take (room - 1) es e on)
    ]

    pub keep_first : keys_of ns ≡ key ∷ take (room - 1) (keys_of es)
    keep_first =
        ap (λ (l : Kept). keys_of l) after ∙ ap (λ (ks : List PageKey). key ∷ ks) (sym (take-map (λ (e : PageKey × KeptData). e.0) (room - 1) es))

  -- ---- a page is taken out

  -- the page alone is handed out
  abbrev page_of : Option KeptData → Option (Box PageBytes Global)
  page_of r = option_map (λ k. k.page) r

  some_taken : (es : Kept) (r : Option KeptData) → r ≡ lookup (same_key key) es → IfSome (page_of r) (λ p. KeepsIn es key p.value.b)
  some_taken es None e = tt
  some_taken es (Some k) e = (k, Contains-from_lookup key_true key k es (sym e), refl)

  pub taken_some : (es : Kept) (r : Option KeptData) (q : Option (Box PageBytes Global)) → q ≡ page_of r → r ≡ lookup (same_key key) es
      → IfSome q (λ p. KeepsIn es key p.value.b)
  taken_some es r q is e =
      subst (λ (o : Option (Box PageBytes Global)). IfSome o (λ p. KeepsIn es key p.value.b)) (sym is) (some_taken es r e)

  no_page : (P : Type 0) (r : Option KeptData) → IfNone r P → IfNone (page_of r) P
  no_page P None h = h
  no_page P (Some k) h = tt

  none_left : (es : Kept) (r : Option KeptData) → r ≡ lookup (same_key key) es → IfNone r (HasKey es key → ⊥)
  none_left es None e = none_has es (none_of_value es (sym e))
  none_left es (Some k) e = tt

  pub taken_none : (es : Kept) (r : Option KeptData) (q : Option (Box PageBytes Global)) → q ≡ page_of r → r ≡ lookup (same_key key) es
      → IfNone q (HasKey es key → ⊥)
  taken_none es r q is e =
      subst (λ (o : Option (Box PageBytes Global)). IfNone o (HasKey es key → ⊥)) (sym is) (no_page (HasKey es key → ⊥) r (none_left es r e))

  -- all but the page of this key stays
  pub taken_stays : (es : Kept) (e : PageKey × KeptData) → Contains es e → Contains (remove_entry (same_key key) es) e ⊎ (e.0 ≡ key)
  taken_stays [] e has = absurd (Contains-nil e has)
  taken_stays (f ∷ es) e has =
      (elim (same_key key f.0) as (λ b. same_key key f.0 ≡ b → Contains (cond b es (f ∷ remove_entry (same_key key) es)) e ⊎ (e.0 ≡ key)) [
        | true ↦ λ t. elim (Contains-cons f es e has) [
          | inl same ↦ inr (ap (λ (g : PageKey × KeptData). g.0) (sym same) ∙ sym (key_true key f.0 t))
          | inr on ↦ inl on
        ]
        | false ↦ λ t. elim (Contains-cons f es e has) [
          | inl same ↦ inl (subst (Contains (f ∷ remove_entry (same_key key) es)) same (Contains-head f (remove_entry (same_key key) es)))
          | inr on ↦ elim (taken_stays es e on) [
            | inl left ↦ inl (Contains-tail f (remove_entry (same_key key) es) e left)
            | inr own ↦ inr own
          ]
        ]
      ]) refl

  -- where no page of this key is kept, nothing is taken
  none_taken : (es : Kept) → lookup (same_key key) es ≡ None → remove_entry (same_key key) es ≡ es
  none_taken [] h = refl
  none_taken (f ∷ es) h = (elim (same_key key f.0) as (λ b.
      cond b (Some f.1) (lookup (same_key key) es) ≡ None → cond {A = Kept} b es (f ∷ remove_entry (same_key key) es) ≡ f ∷ es) [
        | true ↦ λ g. cc
        | false ↦ λ g. ap (λ (l : Kept). f ∷ l) (none_taken es g)
      ]) h

  same_left : (es ns : Kept) (r : Option KeptData) → r ≡ lookup (same_key key) es → ns ≡ remove_entry (same_key key) es → IfNone r (ns ≡ es)
  same_left es ns None e after = after ∙ none_taken es (sym e)
  same_left es ns (Some k) e after = tt

  pub taken_same : (es ns : Kept) (r : Option KeptData) (q : Option (Box PageBytes Global)) → q ≡ page_of r → r ≡ lookup (same_key key) es
      → ns ≡ remove_entry (same_key key) es → IfNone q (ns ≡ es)
  taken_same es ns r q is e after =
      subst (λ (o : Option (Box PageBytes Global)). IfNone o (ns ≡ es)) (sym is) (no_page (ns ≡ es) r (same_left es ns r e after))

  one_key : (x y : PageKey) → same_key key x ≡ true → same_key key y ≡ same_key x y
  one_key x y e = ap (λ (k : PageKey). same_key k y) (key_true key x e)

  pub taken_gone : (es : Kept) → IsDistinct same_key (keys_of es) → HasKey (remove_entry (same_key key) es) key → ⊥
  taken_gone es apart =
      let none : lookup (same_key key) (remove_entry (same_key key) es) ≡ None =
      lookup-remove_entry key_equiv (same_key key) one_key key es apart ∙ ap (λ (b : Bool). cond b None (lookup (same_key key) es)) (key_itself key) in
      none_has (remove_entry (same_key key) es) (none_of_value (remove_entry (same_key key) es) none)
