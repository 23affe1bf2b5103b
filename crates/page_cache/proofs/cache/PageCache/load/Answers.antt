use Rattle.std.proofs.Common.{ℕ, ◌-◌, ◌∷◌, take, refl, sym, ap, ◌∙◌, subst, inl, inr, rules}
use Rattle.std.specs.Map.{keys_of}
use Rattle.page_cache.specs.declared.key.PageKey.{PageKey}
use Rattle.page_cache.specs.Cache.{Keeps, KeepsDead, IsKept, KeepsFile, Agrees, order_of, room_of}
use Rattle.page_cache.specs.Keys.{KeptData, Kept, fresh, page_key, leaf_part, KeepsIn, KeepsDeadIn}
use Rattle.page_cache.proofs.CachePages.{AgreesIn, keeps_fewer, agrees_fewer, valid_fewer, agrees_one, valid_one, keeps_one, dead_fewer, dead_one}
use Rattle.page_cache.proofs.cache.PageCache.load.Goals as goal

-- ---- the page is kept

pub returns-then-touch-clause-reading : goal.returns-then-touch-clause-reading
unfolding Keeps KeepsDead IsKept KeepsFile Agrees
returns-then-touch-clause-reading g c =
    let old = c.args.self.now.pages.entries in
    let new = c.touch.new.pages.entries in
    record {
      files = search rules;
      others = λ i k. inl (k.0, (k.1.0, keeps_fewer old new (page_key i k.0) k.1.0 c.touch.ensures.fewer k.1.1));
      agrees = λ told. agrees_fewer (g.F.Pages.files c.args.folder.now) old new c.touch.ensures.fewer;
      cause = search rules;
      marks = λ i n at len bytes. dead_fewer old new (page_key i n) (leaf_part at len) bytes c.touch.ensures.fewer;
    }

pub returns-then-touch-clause-used : goal.returns-then-touch-clause-used
unfolding Keeps IsKept order_of room_of
returns-then-touch-clause-used g c = let has = c.if-touch.ensures.found in record {
  there = (has.0.page.value.b, (has.0, has.1, refl));
  kept = λ k. c.if-touch.ensures.first;
  read = λ missing. absurd (missing (has.0.page.value.b, (has.0, c.touch.ensures.fewer (page_key c.args.id c.args.number, has.0) has.1, refl)));
}

pub returns-then-touch-clause-once : goal.returns-then-touch-clause-once
unfolding Keeps IsKept
returns-then-touch-clause-once g c = λ missing. let has = c.if-touch.ensures.found in
    absurd (missing (has.0.page.value.b, (has.0, c.touch.ensures.fewer (page_key c.args.id c.args.number, has.0) has.1, refl)))

pub returns-then-touch-clause-hit : goal.returns-then-touch-clause-hit
unfolding Keeps IsKept
returns-then-touch-clause-hit g c = λ here. (
  refl,
  refl,
  λ i n k. (k.0, keeps_fewer c.touch.new.pages.entries c.args.self.now.pages.entries (page_key i n) k.0 c.touch.ensures.more k.1),
)

-- ---- it cannot be read, or there is no memory to keep it

pub returns-in_err-page-clause-hit : goal.returns-in_err-page-clause-hit
unfolding Keeps IsKept
returns-in_err-page-clause-hit g c = λ here. absurd (c.if-touch.ensures.missing (here.1.0, here.1.1))

pub returns-in_err-keep-clause-hit : goal.returns-in_err-keep-clause-hit
unfolding Keeps IsKept
returns-in_err-keep-clause-hit g c = λ here. absurd (c.if-touch.ensures.missing (here.1.0, here.1.1))

pub returns-in_err-page-clause-reading : goal.returns-in_err-page-clause-reading
unfolding Keeps KeepsDead IsKept KeepsFile Agrees
returns-in_err-page-clause-reading g c =
    let old = c.args.self.now.pages.entries in
    let new = c.touch.new.pages.entries in
    record {
      files = search rules;
      others = λ i k. inl (k.0, (k.1.0, keeps_fewer old new (page_key i k.0) k.1.0 c.touch.ensures.fewer k.1.1));
      agrees = λ told. agrees_fewer (g.F.Pages.files c.args.folder.now) old new c.touch.ensures.fewer;
      cause = search rules;
      marks = λ i n at len bytes. dead_fewer old new (page_key i n) (leaf_part at len) bytes c.touch.ensures.fewer;
    }

pub returns-in_err-keep-clause-reading : goal.returns-in_err-keep-clause-reading
unfolding Keeps KeepsDead IsKept KeepsFile Agrees
returns-in_err-keep-clause-reading g c =
    let old = c.args.self.now.pages.entries in
    let new = c.touch.new.pages.entries in
    let same = c.in_err-keep.ensures.same in
    record {
      files = search rules;
      others = λ i k. inl (
        k.0,
        (
          k.1.0,
          keeps_fewer old new (page_key i k.0) k.1.0 c.touch.ensures.fewer
              (subst (λ (es : Kept). KeepsIn es (page_key i k.0) k.1.0) same k.1.1),
        ),
      );
      agrees = λ told agrees. subst (AgreesIn (g.F.Pages.files c.args.folder.now)) (sym same)
          (agrees_fewer (g.F.Pages.files c.args.folder.now) old new c.touch.ensures.fewer agrees);
      cause = search rules;
      marks = λ i n at len bytes known. dead_fewer old new (page_key i n) (leaf_part at len) bytes c.touch.ensures.fewer
          (subst (λ (es : Kept). KeepsDeadIn es (page_key i n) (leaf_part at len) bytes) same known);
    }

-- ---- it is read

pub returns-clause-hit : goal.returns-clause-hit
unfolding Keeps IsKept
returns-clause-hit g c = λ here. absurd (c.if-touch.ensures.missing (here.1.0, here.1.1))

pub returns-clause-reading : goal.returns-clause-reading
unfolding Keeps KeepsDead IsKept KeepsFile Agrees
returns-clause-reading g c =
    let old = c.args.self.now.pages.entries in
    let new = c.touch.new.pages.entries in
    let page = fresh c.in_ok-page.page in
    record {
      files = search rules;
      others = λ i k.
          elim (keeps_one c.args.id c.args.number page new c.keep.new.pages.entries c.keep.ensures.one i k.0 k.1.0 k.1.1) [
            | inl was ↦ inl (k.0, (k.1.0, keeps_fewer old new (page_key i k.0) k.1.0 c.touch.ensures.fewer was))
            | inr same ↦ inr same
          ];
      agrees = λ told agrees.
          agrees_one c.args.id c.args.number page new c.keep.new.pages.entries c.keep.ensures.one
          (g.F.Pages.files c.args.folder.now) (c.in_ok-page.ensures.bytes told)
          (agrees_fewer (g.F.Pages.files c.args.folder.now) old new c.touch.ensures.fewer agrees);
      cause = search rules;
      marks = λ i n at len bytes known. dead_fewer old new (page_key i n) (leaf_part at len) bytes c.touch.ensures.fewer
          (dead_one (page_key c.args.id c.args.number) c.in_ok-page.page new c.keep.new.pages.entries c.keep.ensures.one (page_key i n) (leaf_part at len)
          bytes known);
    }

pub returns-clause-used : goal.returns-clause-used
unfolding Keeps IsKept order_of room_of
returns-clause-used g c =
    let key = page_key c.args.id c.args.number in
    record {
      there = (c.in_ok-page.page.value.b, (fresh c.in_ok-page.page, c.in_ok-keep.ensures.kept, refl));
      kept = λ k. absurd (c.if-touch.ensures.missing (k.1.0, k.1.1));
      read = λ missing. c.in_ok-keep.ensures.first
          ∙ ap (λ (n : ℕ). key ∷ take (n - 1) (keys_of c.touch.new.pages.entries)) c.touch.ensures.room
          ∙ ap (λ (es : Kept). key ∷ take (c.args.self.now.pages.cap - 1) (keys_of es)) c.if-touch.ensures.same;
    }

pub returns-clause-stays : goal.returns-clause-stays
unfolding Keeps IsKept
returns-clause-stays g c = λ i n bytes k. elim (c.keep.ensures.one (page_key i n, k.0) k.1) [
  | inl was ↦ inl (keeps_fewer c.args.self.now.pages.entries c.touch.new.pages.entries (page_key i n) bytes c.touch.ensures.fewer (k.0, was, k.2))
  | inr same ↦ inr (
    ap (λ (e : PageKey × KeptData). e.0.id) same,
    ap (λ (e : PageKey × KeptData). e.0.number) same,
    λ kept. c.if-touch.ensures.missing (kept.1.0, kept.1.1),
  )
]

pub invariant_of-self-2 : goal.invariant_of-self-2
invariant_of-self-2 g c = record {
  valid = valid_one c.args.id c.args.number (fresh c.in_ok-page.page) c.touch.new.pages.entries c.keep.new.pages.entries c.keep.ensures.one
      c.in_ok-page.ensures.valid
      (valid_fewer c.args.self.now.pages.entries c.touch.new.pages.entries c.touch.ensures.fewer c.args.self.now.valid);
}
