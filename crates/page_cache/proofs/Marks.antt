-- A leaf of a kept page is marked as dead: one value of the list changes, and of it only what is known of dead leaves.
use Rattle.std.proofs.Common.{◌≡◌, ℕ, true, false, ◌⊎◌, cond, inl, inr, List, [], ◌∷◌, Contains, Some, refl, sym, ap, ◌∙◌, subst}
use Rattle.std.specs.declared.boxed.Box.{Box}
use Rattle.std.specs.declared.alloc.Global.{Global}
use Rattle.std.specs.Map.{keys_of, lookup, set_value}
use Rattle.lru.proofs.Splits.{Contains-head, Contains-tail, Contains-cons, Contains-nil}
use Rattle.page_file.specs.declared.page.PageBytes.{PageBytes}
use Rattle.page_cache.specs.declared.key.PageKey.{PageKey}
use Rattle.page_cache.specs.declared.leaf_part.LeafPart.{LeafPart}
use Rattle.page_cache.specs.Keys.{KeptData, Kept, same_key, KeepsIn, KeepsDeadIn, MarksOne}
use Rattle.page_cache.proofs.KeptPages.{key_true}

-- two parts are the same where both their numbers are
pub same_part : (a b : LeafPart) → a.offset ≡ b.offset → a.length ≡ b.length → a ≡ b
same_part a b offset len = λ i. record { offset = offset i; length = len i }

-- the value d of the key is written over by w, which has the same page
module _ (key : PageKey) (part : LeafPart) (d w : KeptData) (same : w.page ≡ d.page)
    (known : (p : LeafPart) → Contains w.dead (Some p) → Contains d.dead (Some p) ⊎ (p ≡ part)) where
  abbrev after : Kept → Kept
  after es = set_value (same_key key) es w

  own_entry : (f : PageKey × KeptData) → same_key key f.0 ≡ true → f.1 ≡ d → f ≡ (key, d)
  own_entry f t e = λ i. (sym (key_true key f.0 t) i, e i)

  -- an entry of the new list is one of the old, or the one that was written
  was_entry : (es : Kept) → lookup (same_key key) es ≡ Some d → (e : PageKey × KeptData) → Contains (after es) e
      → Contains es e ⊎ ((e ≡ (key, w)) × Contains es (key, d))
  was_entry [] found e has = absurd (Contains-nil e has)
  was_entry (f ∷ es) found e has =
      (elim (same_key key f.0) as (λ b. same_key key f.0 ≡ b → cond b (Some f.1) (lookup (same_key key) es) ≡ Some d
      → Contains (cond {A = Kept} b ((f.0, w) ∷ es) (f ∷ after es)) e → Contains (f ∷ es) e ⊎ ((e ≡ (key, w)) × Contains (f ∷ es) (key, d))) [
        | true ↦ λ t g h. elim (Contains-cons (f.0, w) es e h) [
          | inl this ↦
              let value : f.1 ≡ d = cc in
              inr (
                sym this ∙ ap (λ (k : PageKey). (k, w)) (sym (key_true key f.0 t)),
                subst (Contains (f ∷ es)) (own_entry f t value) (Contains-head f es),
              )
          | inr on ↦ inl (Contains-tail f es e on)
        ]
        | false ↦ λ t g h. elim (Contains-cons f (after es) e h) [
          | inl this ↦ inl (subst (Contains (f ∷ es)) this (Contains-head f es))
          | inr on ↦ elim (was_entry es g e on) [
            | inl there ↦ inl (Contains-tail f es e there)
            | inr own ↦ inr (own.0, Contains-tail f es (key, d) own.1)
          ]
        ]
      ]) refl found has

  -- an entry of the old list stays, or is the one that was written over
  stays_entry : (es : Kept) → lookup (same_key key) es ≡ Some d → (e : PageKey × KeptData) → Contains es e
      → Contains (after es) e ⊎ ((e ≡ (key, d)) × Contains (after es) (key, w))
  stays_entry [] found e has = absurd (Contains-nil e has)
  stays_entry (f ∷ es) found e has =
      (elim (same_key key f.0) as (λ b. same_key key f.0 ≡ b → cond b (Some f.1) (lookup (same_key key) es) ≡ Some d
      → Contains (cond {A = Kept} b ((f.0, w) ∷ es) (f ∷ after es)) e
      ⊎ ((e ≡ (key, d)) × Contains (cond {A = Kept} b ((f.0, w) ∷ es) (f ∷ after es)) (key, w))) [
        | true ↦ λ t g. elim (Contains-cons f es e has) [
          | inl this ↦
              let value : f.1 ≡ d = cc in
              inr (
                sym this ∙ own_entry f t value,
                subst (λ (k : PageKey). Contains ((f.0, w) ∷ es) (k, w)) (sym (key_true key f.0 t)) (Contains-head (f.0, w) es),
              )
          | inr on ↦ inl (Contains-tail (f.0, w) es e on)
        ]
        | false ↦ λ t g. elim (Contains-cons f es e has) [
          | inl this ↦ inl (subst (Contains (f ∷ after es)) this (Contains-head f (after es)))
          | inr on ↦ elim (stays_entry es g e on) [
            | inl there ↦ inl (Contains-tail f (after es) e there)
            | inr own ↦ inr (own.0, Contains-tail f (after es) (key, w) own.1)
          ]
        ]
      ]) refl found

  keys_after : (es : Kept) → keys_of (after es) ≡ keys_of es
  keys_after [] = refl
  keys_after (f ∷ es) =
      elim (same_key key f.0) as (λ b. keys_of (cond {A = Kept} b ((f.0, w) ∷ es) (f ∷ after es)) ≡ f.0 ∷ keys_of es) [
        | true ↦ refl
        | false ↦ ap (λ (ks : List PageKey). f.0 ∷ ks) (keys_after es)
      ]

  -- the bytes of what was written are those of what was there
  bytes_before : (k : PageKey) (v : KeptData) (bytes : List ℕ) → ◌≡◌ {A = PageKey × KeptData} (k, v) (key, w) → v.page.value.b ≡ bytes → d.page.value.b ≡ bytes
  bytes_before k v bytes own is =
      ap (λ (p : Box PageBytes Global). p.value.b) (sym same) ∙ ap (λ (e : PageKey × KeptData). e.1.page.value.b) (sym own) ∙ is

  bytes_after : (k : PageKey) (v : KeptData) (bytes : List ℕ) → ◌≡◌ {A = PageKey × KeptData} (k, v) (key, d) → v.page.value.b ≡ bytes → w.page.value.b ≡ bytes
  bytes_after k v bytes own is =
      ap (λ (p : Box PageBytes Global). p.value.b) same ∙ ap (λ (e : PageKey × KeptData). e.1.page.value.b) (sym own) ∙ is

  marks_after : (es : Kept) → lookup (same_key key) es ≡ Some d → MarksOne key part es (after es)
  marks_after es found = record {
    order = keys_after es;
    was = λ k bytes has. elim (was_entry es found (k, has.0) has.1) [
      | inl there ↦ (has.0, there, has.2)
      | inr own ↦ subst (λ (j : PageKey). KeepsIn es j bytes) (ap (λ (e : PageKey × KeptData). e.0) (sym own.0))
          (d, own.1, bytes_before k has.0 bytes own.0 has.2)
    ];
    stays = λ k bytes has. elim (stays_entry es found (k, has.0) has.1) [
      | inl there ↦ (has.0, there, has.2)
      | inr own ↦ subst (λ (j : PageKey). KeepsIn (after es) j bytes) (ap (λ (e : PageKey × KeptData). e.0) (sym own.0))
          (w, own.1, bytes_after k has.0 bytes own.0 has.2)
    ];
    dead = λ k p bytes has. elim (was_entry es found (k, has.0) has.1) [
      | inl there ↦ inl (has.0, there, has.2, has.3)
      | inr own ↦
          let own_key : k ≡ key = ap (λ (e : PageKey × KeptData). e.0) own.0 in
          let here : Contains w.dead (Some p) =
          subst (λ (v : KeptData). Contains v.dead (Some p)) (ap (λ (e : PageKey × KeptData). e.1) own.0) has.3 in
          elim (known p here) [
            | inl old ↦ inl (subst (λ (j : PageKey). KeepsDeadIn es j p bytes) (sym own_key)
                (d, own.1, bytes_before k has.0 bytes own.0 has.2, old))
            | inr this ↦ inr (
              own_key,
              this,
              subst (λ (j : PageKey). KeepsIn es j bytes) (sym own_key) (d, own.1, bytes_before k has.0 bytes own.0 has.2),
            )
          ]
    ];
  }

  pub marks_one : (es ns : Kept) → lookup (same_key key) es ≡ Some d → ns ≡ after es → MarksOne key part es ns
  marks_one es ns found is = subst (MarksOne key part es) (sym is) (marks_after es found)
